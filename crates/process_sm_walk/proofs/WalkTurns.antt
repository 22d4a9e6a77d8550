-- The walk over the changes: what the loop knows, one turn, the end. Assumes nothing.
use Rattle.std.proofs.Common.{◌≡◌, ℕ, zero, suc, ◌+◌, ◌-◌, ◌<◌, ◌≤◌, max, true, List, [], ◌∷◌, length, drop, sym, ap, ◌∙◌, arith, Some, None}
use native.Mathlib.Nat.{le-max_left, max-le}
use lib.Ieee.{Float, eq}
use Rattle.process_sm_machine.specs.declared.Change.{Change}
use Rattle.process_sm_machine.specs.declared.Change.TheVariants.{Tempo, Stop}
use Rattle.order.specs.Entries.{entries}
use Rattle.process_sm_walk.specs.Changes.{pair_of, changes_left}
use Rattle.process_sm_walk.specs.inside.NextChange.{head_of, advanced}
use Rattle.process_sm_walk.specs.Chart.{Output, joined, written_by, written_at, walk_changes, TemposNumbers, Chart}
use Rattle.process_sm_walk.specs.Columns.{Columns, most_written}
use Rattle.process_sm_walk.specs.inside.Written.{written_into, counted}
use Rattle.process_sm_walk.specs.inside.Rooms.{Room, WrittenWithin, Reached}
use Rattle.process_sm_machine.specs.declared.State.{State}
use Rattle.process_sm_machine.specs.declared.Moved.{Moved}
use Rattle.process_sm_walk.specs.declared.Places.{Places}
use Rattle.process_sm_walk.specs.declared.Counts.{Counts}
use Rattle.process_sm_walk.specs.declared.Standing.{Standing}
use Rattle.process_sm_machine.specs.Machine.{finish, met}
use Rattle.order.proofs.Columns.{length-entries}
use Rattle.process_sm_walk.proofs.NextChange.{left-on, left_end, InList, next_in_list, From, taken, rest_of_tempos}
use Rattle.process_sm_walk.proofs.PlacedInColumns.{written-more, counted-more}
use Rattle.process_sm_walk.proofs.NoMoreThanMet.{Number, within_step, within-finish}
use Rattle.process_sm_walk.proofs.OneChange.{SameLengths, same-written, same_then, room-same, room-less}

-- ---- a tempo that is met is no NaN

number_at : (l : List (Float × Float)) (i : ℕ) (x : Float × Float) (xs : List (Float × Float)) → TemposNumbers l → drop i l ≡ x ∷ xs → eq x.1 x.1 ≡ true
number_at [] zero x xs n e = let z : ◌≡◌ {A = ℕ} 0 1 = cc in absurd (omega arith)
number_at [] (suc i) x xs n e = let z : ◌≡◌ {A = ℕ} 0 1 = cc in absurd (omega arith)
number_at (y ∷ ys) zero x xs n e = let h : x ≡ y = cc in rw h n.0
number_at (y ∷ ys) (suc i) x xs n e = number_at ys i x xs n.1 e

number-from : (tempos stops : List (Float × Float)) (places : Places) (change : Change) → TemposNumbers tempos → From (drop places.tempo tempos) stops change → Number change
number-from tempos stops places (Tempo entry) n f = number_at tempos places.tempo (pair_of entry) (rest_of_tempos (drop places.tempo tempos) (Tempo entry)) n f
number-from tempos stops places (Stop entry) n f = tt

-- ---- the invariant

pub record Going (tb tv sb sv : List Float) (into₀ : Columns) (places₀ : Places) (state₀ : State) (counts₀ : Counts) (into : Columns) (places : Places) (state : State) (counts : Counts) : Type 0 where
  pub reached : Reached (length tb) (length sb) places
  pub within : WrittenWithin places state counts
  pub lengths : SameLengths into into₀
  pub same_counts : counted counts (walk_changes (changes_left (entries tb tv) (entries sb sv) places) state) ≡ counted counts₀ (walk_changes (changes_left (entries tb tv) (entries sb sv) places₀) state₀)
  pub same_columns : written_into counts (walk_changes (changes_left (entries tb tv) (entries sb sv) places) state) into ≡ written_into counts₀ (walk_changes (changes_left (entries tb tv) (entries sb sv) places₀) state₀) into₀

-- how many changes are left
abbrev pub ahead : List Float → List Float → Places → ℕ
ahead tb sb places = (max (length tb) 1 - places.tempo) + (length sb - places.stop)

-- ---- room, by what is reached

room_within : (tempos stops : ℕ) (places : Places) (state : State) (counts : Counts) (into : Columns) → Reached tempos stops places → WrittenWithin places state counts
    → Room (most_written tempos stops) into → Room counts into
room_within tempos stops places state counts into r w m =
    let a = r.tempo in let b = r.stop in let d = w.tempos in let e = w.stops in let f = w.warps in
    let k : max tempos 1 ≤ tempos + 1 = max-le {a = tempos} {b = 1} {k = tempos + 1} (omega arith) (omega arith) in
    room-less counts (most_written tempos stops) into (omega arith) (omega arith) (omega arith) m

reached-next : (tb tv sb sv : List Float) (places : Places) (change : Change) → Chart tb tv sb sv → Reached (length tb) (length sb) places
    → InList (entries tb tv) (entries sb sv) places change → Reached (length tb) (length sb) (advanced places change)
reached-next tb tv sb sv places (Tempo entry) c r h =
    let a = r.tempo in let b = r.stop in let k = le-max_left (length tb) 1 in
    let h' : places.tempo < length tb = rw (length-entries tb tv c.tempos) at h in
    record { tempo = omega arith; stop = omega arith }
reached-next tb tv sb sv places (Stop entry) c r h =
    let a = r.tempo in let b = r.stop in
    let h' : places.stop < length sb = rw (length-entries sb sv c.stops) at h in
    record { tempo = omega arith; stop = omega arith }

fewer : (tb sb : List Float) (places : Places) (change : Change) → Reached (length tb) (length sb) (advanced places change) → ahead tb sb (advanced places change) < ahead tb sb places
fewer tb sb places (Tempo entry) r = let a = r.tempo in let b = r.stop in omega arith
fewer tb sb places (Stop entry) r = let a = r.tempo in let b = r.stop in omega arith

module _ (tb tv sb sv : List Float) (chart : Chart tb tv sb sv) (into₀ : Columns) (room : Room (most_written (length tb) (length sb)) into₀)
    (places₀ : Places) (state₀ : State) (counts₀ : Counts) (into : Columns) (places : Places) (state : State) (counts : Counts)
    (g : Going tb tv sb sv into₀ places₀ state₀ counts₀ into places state counts) where
  -- ---- one turn

  module _ (change : Change) (h : head_of (changes_left (entries tb tv) (entries sb sv) places) ≡ Some change) where
    reached' : Reached (length tb) (length sb) (advanced places change)
    reached' = reached-next tb tv sb sv places change chart g.reached (next_in_list (entries tb tv) (entries sb sv) places change h)

    within' : WrittenWithin (advanced places change) (met state change).state (counted counts (written_at state change))
    within' =
        within_step places counts state change
        (number-from (entries tb tv) (drop places.stop (entries sb sv)) places change chart.numbers (taken (drop places.tempo (entries tb tv)) (drop places.stop (entries sb sv)) change h).from)
        g.within

    pub room-turn : Room (counted counts (written_at state change)) into
    room-turn =
        room-same (counted counts (written_at state change)) into into₀ g.lengths
        (room_within (length tb) (length sb) (advanced places change) (met state change).state (counted counts (written_at state change)) into₀ reached' within' room)

    step-walk : walk_changes (changes_left (entries tb tv) (entries sb sv) places) state ≡ joined (written_at state change) (walk_changes (changes_left (entries tb tv) (entries sb sv) (advanced places change)) (met state change).state)
    unfolding walk_changes
    step-walk = ap (λ (l : List Change). walk_changes l state) (left-on (entries tb tv) (entries sb sv) places change h)

    going_next : (last : Columns) → last ≡ written_into counts (written_at state change) into
        → Going tb tv sb sv into₀ places₀ state₀ counts₀ last (advanced places change) (met state change).state (counted counts (written_at state change))
    going_next last e =
        let rest = walk_changes (changes_left (entries tb tv) (entries sb sv) (advanced places change)) (met state change).state in
        record {
          reached = reached';
          within = within';
          lengths = same_then last into into₀ (same-written counts (written_at state change) last into e) g.lengths;
          same_counts = sym (counted-more counts (written_at state change) rest) ∙ ap (λ (o : Output). counted counts o) (sym step-walk) ∙ g.same_counts;
          same_columns = ap (λ (c : Columns). written_into (counted counts (written_at state change)) rest c) e ∙ sym (written-more counts (written_at state change) rest into) ∙ ap (λ (o : Output). written_into counts o into) (sym step-walk) ∙ g.same_columns;
        }

    pub turn : (after : Standing) (last : Columns) (next : Places) → after ≡ record { state = (met state change).state; counts = counted counts (written_at state change) }
        → last ≡ written_into counts (written_at state change) into → next ≡ advanced places change
        → (Going tb tv sb sv into₀ places₀ state₀ counts₀ last next after.state after.counts) × (ahead tb sb next < ahead tb sb places)
    turn after last next a e n = rw (a, n) (going_next last e, fewer tb sb places change reached')

  -- ---- the end

  module _ (h : head_of (changes_left (entries tb tv) (entries sb sv) places) ≡ None) (ending : Moved) (f : ending ≡ finish state) where
    pub room-end : Room (counted counts (written_by ending)) into
    room-end =
        rw f
        (room-same (counted counts (written_by (finish state))) into into₀ g.lengths
        (room_within (length tb) (length sb) places (finish state).state (counted counts (written_by (finish state))) into₀ g.reached (within-finish places counts state g.within) room))

    last-walk : walk_changes (changes_left (entries tb tv) (entries sb sv) places) state ≡ written_by ending
    unfolding walk_changes
    last-walk = ap (λ (l : List Change). walk_changes l state) (left_end (changes_left (entries tb tv) (entries sb sv) places) h) ∙ ap written_by (sym f)

    pub ended : (after : Counts) (last : Columns) → after ≡ counted counts (written_by ending) → last ≡ written_into counts (written_by ending) into
        → (after ≡ counted counts₀ (walk_changes (changes_left (entries tb tv) (entries sb sv) places₀) state₀)) × (last ≡ written_into counts₀ (walk_changes (changes_left (entries tb tv) (entries sb sv) places₀) state₀) into₀)
    ended after last a e =
        (a ∙ ap (λ (o : Output). counted counts o) (sym last-walk) ∙ g.same_counts, e ∙ ap (λ (o : Output). written_into counts o into) (sym last-walk) ∙ g.same_columns)
