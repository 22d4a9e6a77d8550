-- Every state of the walk over changes that are taken is within its bounds, and so is every stop and every length of a warp that it writes. Assumes nothing.
use Rattle.process_sm_machine.specs.declared.Entry.{Entry}
use Rattle.std.specs.Prelude.{Option, Some, None}
use Prim.Native.Nat.{ℕ, suc, ◌+◌, ◌*◌, ◌^◌, ◌≤◌, ◌<◌, max}
use mathlib.Core.List.{List, [], ◌∷◌, ◌++◌}
use mathlib.Core.Path.{◌≡◌, refl, sym, ◌∙◌, subst}
use native.Mathlib.Nat.{mul-le-mul_right}
use native.Mathlib.Omega.{arith}
use borrow.Author.Tests.{le-leb}
use lib.Dec.{T, lit<}
use lib.ListN.{length, drop, length-drop, length-map}
use lib.Ieee.{Float, binary32, le, lt, eq, neg, of_bits}
use Rattle.ieee.specs.Constants.{sixty32}
use Rattle.ieee.proofs.SizesAddUp.{at_most_wider}
use Rattle.limits.specs.Numbers.{in_range}
use Rattle.order.specs.Order.{From, NeverFalls}
use Rattle.order.proofs.OrderedList.{Each}
use Rattle.order.proofs.EachEntry.{each_so}
use Rattle.process_sm_machine.specs.declared.Change.{Change}
use Rattle.process_sm_machine.specs.declared.Warp.{Warp}
use Rattle.process_sm_machine.specs.declared.Warp.TheVariants.{Closed, Open}
use Rattle.process_sm_machine.specs.declared.State.{State}
use Rattle.process_sm_machine.specs.declared.Moved.{Moved}
use Rattle.process_sm_machine.specs.Machine.{beat_at, open_chart, time_passed, met, finish}
use Rattle.process_sm_machine.proofs.Either.{either}
use Rattle.process_sm_machine.proofs.Reached.{pass-reaches, meet_stays}
use Rattle.process_sm_walk.specs.Changes.{tempo_of, stop_of, weave, merged_changes, changes_left}
use Rattle.process_sm_walk.specs.Chart.{written_list, walk_changes, first_tempo, tempos_by0, stops_before, opening_tempo, opening_places, processed}
use Rattle.process_sm_laws.specs.Beats.{Beat, beat_key}
use Rattle.process_sm_laws.specs.inside.Keys.{at}
use Rattle.process_sm_laws.proofs.BeatsOnRows.{at_le}
use Rattle.process_sm_laws.proofs.Segments.{each_append}
use Rattle.process_sm_laws.proofs.ChangesInOrder.{change_key, Beats, each-merged, rises-merged, each-drop, rises-drop, after-opening}
use Rattle.process_sm_laws.proofs.WrittenInOrder.{first_in, last_in}
use Rattle.process_sm_laws.proofs.ChangesTaken.{IsTempo, Good}
use Rattle.process_sm_laws.proofs.ArrowsKeepBounds.{value_of, WarpWithin, Within, IsStop, IsLength, Said, Kept, pass-within, meet_within, finish-within, opening-within}

-- what is written, entry by entry
abbrev pub Values : (Float → Type 0) → List (Float × Float) → Type 0
Values P list = Each (beat_key binary32) (λ (e : Float × Float). P e.1) list

pub record Fine (stops warps : List (Float × Float)) : Type 0 where
  pub stops_are : Values IsStop stops
  pub warps_are : Values IsLength warps

said : (P : Float → Type 0) (w : Option Entry) → Said P w → Values P (written_list w)
said P None h = tt
said P (Some entry) h = (h, tt)

said-fine : {n : ℕ} (moved : Moved) → Kept n moved → Fine (written_list moved.stop) (written_list moved.warp)
said-fine moved k = record { stops_are = said IsStop moved.stop k.stop; warps_are = said IsLength moved.warp k.warp }

fine-then : {s w s' w' : List (Float × Float)} → Fine s w → Fine s' w' → Fine (s ++ s') (w ++ w')
fine-then {s} {w} {s'} {w'} p q = record {
  stops_are = each_append (beat_key binary32) (λ (e : Float × Float). IsStop e.1) s s' p.stops_are q.stops_are;
  warps_are = each_append (beat_key binary32) (λ (e : Float × Float). IsLength e.1) w w' p.warps_are q.warps_are;
}

-- a change that is taken
abbrev pub GoodChange : Change → Type 0
GoodChange change = Beat (beat_at change) × IsTempo (value_of change)

-- ---- along the walk

-- what holds of each state: before a change, after the time up to it, after the change, and after the end
abbrev pub Along : (State → Type 0) → List Change → State → Type 0
Along Q [] state = Q state × Q (finish state).state
Along Q (change ∷ changes) state = Q state × Q (time_passed state change).state × Along Q changes (met state change).state

within_wider : {n m : ℕ} → n ≤ m → (state : State) → Within n state → Within m state
within_wider {n} {m} h state w = record { tempo = w.tempo; beat = w.beat; warp = wider state.warp w.warp }
  where
    wider : (warp : Warp) → WarpWithin n warp → WarpWithin m warp
    wider Closed o = tt
    wider (Open warp) o = record { start = o.start; former = o.former; owed = at_most_wider (mul-le-mul_right (2 ^ 43) h) o.owed; not_above = o.not_above }

pub record Walked (m : ℕ) (changes : List Change) (state : State) : Type 0 where
  pub states : Along (Within m) changes state
  pub lists : Fine (walk_changes changes state).stops (walk_changes changes state).warps

-- m is at least two for each change
walk-within : (m : ℕ) → m < 2 ^ 24 → (changes : List Change) (state : State) (n : ℕ) → n + 2 * length changes ≤ m → Within n state → Each change_key GoodChange changes → From change_key (at state.beat) changes → NeverFalls change_key changes
    → Walked m changes state
unfolding walk_changes
walk-within m few [] state n h w e k r =
    let last = finish-within n state w in
    record { states = (within_wider (omega arith) state w, within_wider (omega arith) (finish state).state last.state); lists = said-fine (finish state) last }
walk-within m few (change ∷ changes) state n h w e k r =
    let forth : T (le state.beat (beat_at change)) = subst T (sym (at_le state.beat (beat_at change) w.beat e.0.0 ∙ le-leb (at state.beat) (at (beat_at change)) k.0)) tt in
    let one = pass-within n (omega arith) state (beat_at change) w e.0.0 forth in
    let two = meet_within (suc n) (omega arith) (time_passed state change).state change one.state e.0.1 in
    let here : (met state change).state.beat ≡ beat_at change = meet_stays (time_passed state change).state change ∙ pass-reaches state (beat_at change) in
    let rest = walk-within m few changes (met state change).state (suc (suc n)) (omega arith) two.state e.1 (rw here r.0) r.1 in
    record {
      states = (within_wider (omega arith) state w, within_wider (omega arith) (time_passed state change).state one.state, rest.states);
      lists = fine-then (fine-then (said-fine (time_passed state change) one) (said-fine (met state change) two)) rest.lists;
    }

pub sixty-taken : IsTempo sixty32
unfolding in_range of_bits lt le neg eq
sixty-taken = refl

-- ---- how many changes there are
length-stops : (stops : List (Float × Float)) → length (merged_changes [] stops) ≡ length stops
length-stops stops = length-map stops stop_of

length-weave : (tempo : Float × Float) (tempos : List (Float × Float)) → ((stops : List (Float × Float)) → length (merged_changes tempos stops) ≡ length tempos + length stops)
    → (stops : List (Float × Float)) → length (weave tempo (merged_changes tempos) stops) ≡ suc (length tempos) + length stops
length-weave tempo tempos ih [] = omega (arith, ih [])
length-weave tempo tempos ih (stop ∷ stops) =
    either (λ (l : List Change). length l ≡ suc (length tempos) + suc (length stops)) (le tempo.0 stop.0) _ _ (omega (arith, ih (stop ∷ stops))) (omega (arith, length-weave tempo tempos ih stops))

length_merged : (tempos stops : List (Float × Float)) → length (merged_changes tempos stops) ≡ length tempos + length stops
length_merged [] stops = omega (arith, length-stops stops)
length_merged (tempo ∷ tempos) stops = length-weave tempo tempos (length_merged tempos) stops

-- ---- the whole
module _ (tempos stops : List (Float × Float)) (tempo_good : Each (beat_key binary32) Good tempos) (tempo_order : NeverFalls (beat_key binary32) tempos)
    (stop_good : Each (beat_key binary32) Good stops) (stop_order : NeverFalls (beat_key binary32) stops)
    (few_tempos : length tempos ≤ 1024) (few_stops : length stops ≤ 1024) where
  abbrev opened : State
  opened = (open_chart (opening_tempo tempos)).state

  abbrev changes : List Change
  changes = changes_left tempos stops (opening_places tempos stops)

  tempo-beats : Beats tempos
  tempo-beats = each_so (beat_key binary32) (λ e g. g.beat) tempos tempo_good

  stop-beats : Beats stops
  stop-beats = each_so (beat_key binary32) (λ e g. g.beat) stops stop_good

  values : Values IsTempo tempos
  values = each_so (beat_key binary32) (λ e g. g.value) tempos tempo_good

  opening : Kept 0 (open_chart (opening_tempo tempos))
  opening = opening-within (opening_tempo tempos) (last_in binary32 IsTempo tempos (first_tempo tempos) (first_in binary32 IsTempo tempos sixty-taken values) values)

  few-changes : length changes ≤ 2048
  few-changes =
      let t = max (tempos_by0 tempos) 1 in let s = stops_before stops in
      omega (arith, length_merged (drop t tempos) (drop s stops), length-drop t tempos, length-drop s stops)

  starts-at : From change_key (at opened.beat) changes
  unfolding open_chart
  starts-at = after-opening tempos stops tempo-beats tempo_order stop-beats stop_order

  pub all-good : Each change_key GoodChange changes
  all-good =
      let t = max (tempos_by0 tempos) 1 in let s = stops_before stops in
      each-merged GoodChange (drop t tempos) (drop s stops)
      (each-drop (beat_key binary32) (λ (e : Float × Float). GoodChange (tempo_of e)) t tempos (each_so (beat_key binary32) (λ e g. (g.beat, g.value)) tempos tempo_good))
      (each-drop (beat_key binary32) (λ (e : Float × Float). GoodChange (stop_of e)) s stops (each_so (beat_key binary32) (λ e g. (g.beat, g.value)) stops stop_good))

  walked : Walked 4096 changes opened
  walked =
      let t = max (tempos_by0 tempos) 1 in let s = stops_before stops in
      walk-within 4096 (lit< tt) changes opened 0 (omega (arith, few-changes)) opening.state all-good starts-at
      (rises-merged (drop t tempos) (drop s stops)
      (each-drop (beat_key binary32) (λ (e : Float × Float). Beat e.0) t tempos tempo-beats) (rises-drop (beat_key binary32) t tempos tempo_order)
      (each-drop (beat_key binary32) (λ (e : Float × Float). Beat e.0) s stops stop-beats) (rises-drop (beat_key binary32) s stops stop_order))

  -- every state of the walk: tempo and beats as given, and at most 4,096 spans owed in a warp, never above 0
  pub all-states : Along (Within 4096) changes opened
  all-states = walked.states

  pub all-lists : Fine (processed tempos stops).stops (processed tempos stops).warps
  all-lists = fine-then (said-fine (open_chart (opening_tempo tempos)) opening) walked.lists
