-- How much a chart writes: tempos no more than given, or one; stops no more than given; warps at most one a change. Assumes nothing.
use Rattle.std.proofs.Common.{◌≡◌, ℕ, zero, suc, ◌+◌, ◌≤◌, max, Bool, true, false, List, [], ◌∷◌, length, drop, arith, length-drop}
use native.Mathlib.Nat.{le-max_left, max-le}
use lib.Ieee.{Float, eq, le}
use Rattle.process_sm_machine.specs.declared.Change.{Change}
use Rattle.process_sm_machine.specs.declared.State.{State}
use Rattle.order.specs.Entries.{entries}
use Rattle.process_sm_walk.specs.Changes.{tempo_of, stop_of, merged_changes, weave, changes_left}
use Rattle.process_sm_walk.specs.inside.NextChange.{advanced}
use Rattle.process_sm_walk.specs.Chart.{Output, written_by, written_at, walk_changes, opening_tempo, opening_places, processed, TemposNumbers, Chart}
use Rattle.process_sm_walk.specs.inside.Written.{counted, none_counted}
use Rattle.process_sm_walk.specs.inside.Rooms.{WrittenWithin}
use Rattle.process_sm_machine.specs.Machine.{open_chart, finish, met}
use Rattle.process_sm_walk.specs.declared.Places.{Places}
use Rattle.process_sm_walk.specs.declared.Counts.{Counts}
use Rattle.picks.specs.Pick.{pick}
use Rattle.order.proofs.Columns.{length-entries}
use Rattle.process_sm_walk.proofs.PlacedInColumns.{counted-more}
use Rattle.process_sm_walk.proofs.NoMoreThanMet.{Number, within_step, within-finish}
use Rattle.process_sm_walk.proofs.WholeChart.{opening-reached, opening-within}

abbrev advanced_by : List Change → Places → Places
advanced_by [] places = places
advanced_by (change ∷ changes) places = advanced_by changes (advanced places change)

abbrev last_state : List Change → State → State
last_state [] state = (finish state).state
last_state (change ∷ changes) state = last_state changes (met state change).state

abbrev AllNumbers : List Change → Type 0
AllNumbers [] = Unit {0}
AllNumbers (change ∷ changes) = Number change × AllNumbers changes

within-walk : (changes : List Change) (state : State) (places : Places) (counts : Counts) → AllNumbers changes → WrittenWithin places state counts
    → WrittenWithin (advanced_by changes places) (last_state changes state) (counted counts (walk_changes changes state))
unfolding walk_changes
within-walk [] state places counts n w = within-finish places counts state w
within-walk (change ∷ changes) state places counts n w =
    rw (counted-more counts (written_at state change) (walk_changes changes (met state change).state))
    (within-walk changes (met state change).state (advanced places change) (counted counts (written_at state change)) n.1 (within_step places counts state change n.0 w))

-- a merged list has all tempos and all stops
record Through (changes : List Change) (places : Places) (tempos stops : ℕ) : Type 0 where
  tempo : (advanced_by changes places).tempo ≡ places.tempo + tempos
  stop : (advanced_by changes places).stop ≡ places.stop + stops

through-none : (stops : List (Float × Float)) (places : Places) → Through (merged_changes [] stops) places 0 (length stops)
through-none [] places = record { tempo = omega arith; stop = omega arith }
through-none (s ∷ stops) places =
    let t = through-none stops (advanced places (stop_of s)) in let a = t.tempo in let b = t.stop in
    record { tempo = omega arith; stop = omega arith }

through-weave : (tempo : Float × Float) (tempos : List (Float × Float)) → ((stops : List (Float × Float)) (places : Places) → Through (merged_changes tempos stops) places (length tempos) (length stops))
    → (stops : List (Float × Float)) (places : Places) → Through (weave tempo (merged_changes tempos) stops) places (suc (length tempos)) (length stops)
through-weave tempo tempos ih [] places =
    let t = ih [] (advanced places (tempo_of tempo)) in let a = t.tempo in let b = t.stop in
    record { tempo = omega arith; stop = omega arith }
through-weave tempo tempos ih (stop ∷ stops) places =
    by (le tempo.0 stop.0) (ih (stop ∷ stops) (advanced places (tempo_of tempo))) (through-weave tempo tempos ih stops (advanced places (stop_of stop)))
  where
    by : (b : Bool) → Through (merged_changes tempos (stop ∷ stops)) (advanced places (tempo_of tempo)) (length tempos) (suc (length stops))
        → Through (weave tempo (merged_changes tempos) stops) (advanced places (stop_of stop)) (suc (length tempos)) (length stops)
        → Through (pick b (tempo_of tempo ∷ merged_changes tempos (stop ∷ stops)) (stop_of stop ∷ weave tempo (merged_changes tempos) stops)) places (suc (length tempos)) (suc (length stops))
    by true t u = let a = t.tempo in let b = t.stop in record { tempo = omega arith; stop = omega arith }
    by false t u = let a = u.tempo in let b = u.stop in record { tempo = omega arith; stop = omega arith }

through : (tempos stops : List (Float × Float)) (places : Places) → Through (merged_changes tempos stops) places (length tempos) (length stops)
through [] stops places = through-none stops places
through (tempo ∷ tempos) stops places = through-weave tempo tempos (through tempos) stops places

numbers-none : (stops : List (Float × Float)) → AllNumbers (merged_changes [] stops)
numbers-none [] = tt
numbers-none (s ∷ stops) = (tt, numbers-none stops)

numbers-weave : (tempo : Float × Float) (tempos : List (Float × Float)) → eq tempo.1 tempo.1 ≡ true → ((stops : List (Float × Float)) → AllNumbers (merged_changes tempos stops))
    → (stops : List (Float × Float)) → AllNumbers (weave tempo (merged_changes tempos) stops)
numbers-weave tempo tempos n ih [] = (n, ih [])
numbers-weave tempo tempos n ih (stop ∷ stops) = by (le tempo.0 stop.0) (ih (stop ∷ stops)) (numbers-weave tempo tempos n ih stops)
  where
    by : (b : Bool) → AllNumbers (merged_changes tempos (stop ∷ stops)) → AllNumbers (weave tempo (merged_changes tempos) stops)
        → AllNumbers (pick b (tempo_of tempo ∷ merged_changes tempos (stop ∷ stops)) (stop_of stop ∷ weave tempo (merged_changes tempos) stops))
    by true a b = (n, a)
    by false a b = (tt, b)

numbers-merged : (tempos stops : List (Float × Float)) → TemposNumbers tempos → AllNumbers (merged_changes tempos stops)
numbers-merged [] stops n = numbers-none stops
numbers-merged (tempo ∷ tempos) stops n = numbers-weave tempo tempos n.0 (λ (s : List (Float × Float)). numbers-merged tempos s n.1) stops

numbers-drop : (i : ℕ) (tempos : List (Float × Float)) → TemposNumbers tempos → TemposNumbers (drop i tempos)
numbers-drop zero tempos n = n
numbers-drop (suc i) [] n = tt
numbers-drop (suc i) (x ∷ tempos) n = numbers-drop i tempos n.1

-- the bound
pub record Bounded (given_tempos given_stops : ℕ) (out : Output) : Type 0 where
  pub tempos : length out.tempos ≤ max given_tempos 1
  pub stops : length out.stops ≤ given_stops
  pub warps : length out.warps ≤ given_tempos + given_stops

pub bounded : (tb tv sb sv : List Float) → Chart tb tv sb sv → Bounded (length tb) (length sb) (processed (entries tb tv) (entries sb sv))
bounded tb tv sb sv chart =
    let first = opening_places (entries tb tv) (entries sb sv) in
    let opening = open_chart (opening_tempo (entries tb tv)) in
    let rest = changes_left (entries tb tv) (entries sb sv) first in
    let n = numbers-merged (drop first.tempo (entries tb tv)) (drop first.stop (entries sb sv)) (numbers-drop first.tempo (entries tb tv) chart.numbers) in
    let w = rw (← counted-more none_counted (written_by opening) (walk_changes rest opening.state)) at (within-walk rest opening.state first (counted none_counted (written_by opening)) n (opening-within tb tv sb sv chart)) in
    let t = through (drop first.tempo (entries tb tv)) (drop first.stop (entries sb sv)) first in
    let a = w.tempos in let b = w.stops in let d = w.warps in let e = t.tempo in let f = t.stop in
    let g = length-drop first.tempo (entries tb tv) in let h = length-drop first.stop (entries sb sv) in
    let i = length-entries tb tv chart.tempos in let j = length-entries sb sv chart.stops in
    let k = opening-reached tb tv sb sv chart in let l = k.tempo in let m = k.stop in
    let o = le-max_left (length tb) 1 in
    let p : max (length tb) 1 ≤ length tb + 1 = max-le {a = length tb} {b = 1} {k = length tb + 1} (omega arith) (omega arith) in
    record { tempos = omega arith; stops = omega arith; warps = omega arith }
