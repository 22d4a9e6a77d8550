-- Where no warp is open and none is opened, the walk writes either list by itself: each entry, its beat on its row. Assumes nothing.
use Rattle.std.proofs.Common.{◌≡◌, ℕ, zero, suc, Bool, true, false, not, List, [], ◌∷◌, map, length, drop, refl, arith}
use lib.Ieee.{Float, le, lt}
use Rattle.ieee.specs.Constants.{plus_zero32}
use Rattle.picks.specs.Pick.{pick}
use Rattle.limits.specs.Numbers.{every}
use Rattle.limits.proofs.Every.{every_rest}
use Rattle.order.specs.Entries.{entries}
use Rattle.process_sm_machine.specs.declared.Change.{Change}
use Rattle.process_sm_machine.specs.declared.State.{State}
use Rattle.process_sm_machine.specs.declared.Warp.TheVariants.{Closed}
use Rattle.process_sm_machine.specs.Machine.{fits}
use Rattle.process_sm_machine.proofs.EachArrow.{time-outside, tempo-written, stop-written, end-outside}
use Rattle.process_sm_walk.specs.Changes.{tempo_of, stop_of, weave, merged_changes, changes_left}
use Rattle.process_sm_walk.specs.Chart.{Output, walk_changes, Chart}
use Rattle.process_sm_walk.specs.inside.NoWarp.{is_pause, quantized_entry32, rowed, NoWarp}
use Rattle.process_sm_walk.specs.declared.Places.{Places}

abbrev closed_at : Float → Float → State
closed_at tempo beat = record { tempo = tempo; beat = beat; warp = Closed }

-- what is written of these tempos and stops
abbrev each : List (Float × Float) → List (Float × Float) → Output
each tempos stops = record { tempos = map quantized_entry32 tempos; stops = map quantized_entry32 stops; warps = [] }

-- ---- one change

abbrev with_tempo : Float × Float → Output → Output
with_tempo e out = record { tempos = quantized_entry32 e ∷ out.tempos; stops = out.stops; warps = out.warps }

abbrev with_stop : Float × Float → Output → Output
with_stop e out = record { tempos = out.tempos; stops = quantized_entry32 e ∷ out.stops; warps = out.warps }

walk-tempo : (e : Float × Float) (changes : List Change) (state : State) → state.warp ≡ Closed → fits e.1 ≡ true
    → walk_changes (tempo_of e ∷ changes) state ≡ with_tempo e (walk_changes changes (closed_at e.1 e.0))
unfolding walk_changes
walk-tempo e changes state c f = rw (time-outside state c e.0, tempo-written (closed_at state.tempo e.0) refl e.1 f)

not_below_lem : (b : Bool) → not b ≡ true → b ≡ false
not_below_lem true h = let z : ◌≡◌ {A = ℕ} 0 1 = cc in absurd (omega arith)
not_below_lem false h = refl

walk-stop : (e : Float × Float) (changes : List Change) (state : State) → state.warp ≡ Closed → is_pause e.1 ≡ true
    → walk_changes (stop_of e ∷ changes) state ≡ with_stop e (walk_changes changes (closed_at state.tempo e.0))
unfolding walk_changes
walk-stop e changes state c h = rw (time-outside state c e.0, stop-written (closed_at state.tempo e.0) refl e.1 (not_below_lem (lt e.1 plus_zero32) h))

-- ---- all changes

abbrev Fit : List (Float × Float) → Type 0
Fit tempos = every (λ (e : Float × Float). fits e.1) tempos ≡ true

abbrev Pause : List (Float × Float) → Type 0
Pause stops = every (λ (e : Float × Float). is_pause e.1) stops ≡ true

stops-alone : (stops : List (Float × Float)) (state : State) → state.warp ≡ Closed → Pause stops → walk_changes (merged_changes [] stops) state ≡ each [] stops
unfolding walk_changes
stops-alone [] state c p = rw (end-outside state c)
stops-alone (stop ∷ stops) state c p =
    let q = every_rest (λ (e : Float × Float). is_pause e.1) stop stops p in
    rw (walk-stop stop (merged_changes [] stops) state c q.0, stops-alone stops (closed_at state.tempo stop.0) refl q.1)

woven : (tempo : Float × Float) (tempos : List (Float × Float)) → fits tempo.1 ≡ true
    → ((stops : List (Float × Float)) (state : State) → state.warp ≡ Closed → Pause stops → walk_changes (merged_changes tempos stops) state ≡ each tempos stops)
    → (stops : List (Float × Float)) (state : State) → state.warp ≡ Closed → Pause stops → walk_changes (weave tempo (merged_changes tempos) stops) state ≡ each (tempo ∷ tempos) stops
woven tempo tempos f ih [] state c p = rw (walk-tempo tempo (merged_changes tempos []) state c f, ih [] (closed_at tempo.1 tempo.0) refl p)
woven tempo tempos f ih (stop ∷ stops) state c p =
    let q = every_rest (λ (e : Float × Float). is_pause e.1) stop stops p in
    by (le tempo.0 stop.0) (walk-stop stop (weave tempo (merged_changes tempos) stops) state c q.0) (woven tempo tempos f ih stops (closed_at state.tempo stop.0) refl q.1)
  where
    by : (b : Bool) → walk_changes (stop_of stop ∷ weave tempo (merged_changes tempos) stops) state ≡ with_stop stop (walk_changes (weave tempo (merged_changes tempos) stops) (closed_at state.tempo stop.0))
        → walk_changes (weave tempo (merged_changes tempos) stops) (closed_at state.tempo stop.0) ≡ each (tempo ∷ tempos) stops
        → walk_changes (pick b (tempo_of tempo ∷ merged_changes tempos (stop ∷ stops)) (stop_of stop ∷ weave tempo (merged_changes tempos) stops)) state ≡ each (tempo ∷ tempos) (stop ∷ stops)
    by true d g = rw (walk-tempo tempo (merged_changes tempos (stop ∷ stops)) state c f, ih (stop ∷ stops) (closed_at tempo.1 tempo.0) refl p)
    by false d g = rw (d, g)

each-written : (tempos stops : List (Float × Float)) (state : State) → state.warp ≡ Closed → Fit tempos → Pause stops → walk_changes (merged_changes tempos stops) state ≡ each tempos stops
each-written [] stops state c f p = stops-alone stops state c p
each-written (tempo ∷ tempos) stops state c f p =
    let q = every_rest (λ (e : Float × Float). fits e.1) tempo tempos f in
    woven tempo tempos q.0 (λ (s : List (Float × Float)) (t : State) d g. each-written tempos s t d q.1 g) stops state c p

-- ---- by the columns

-- what the values of a column pass, its entries pass
every_value : (test : Float → Bool) (beats values : List Float) (i : ℕ) → length beats ≡ length values → every test (drop i values) ≡ true
    → every (λ (e : Float × Float). test e.1) (drop i (entries beats values)) ≡ true
unfolding entries every
every_value test [] values zero l h = refl
every_value test [] values (suc i) l h = refl
every_value test (b ∷ beats) [] i l h = absurd (omega arith)
every_value test (b ∷ beats) (v ∷ values) zero l h =
    let q = every_rest test v values h in
    rw (q.0, every_value test beats values zero (omega arith) q.1)
every_value test (b ∷ beats) (v ∷ values) (suc i) l h = every_value test beats values i (omega arith) h

pub walk_by_lists : (tb tv sb sv : List Float) (places : Places) (state : State) → Chart tb tv sb sv → NoWarp tv sv places state
    → walk_changes (changes_left (entries tb tv) (entries sb sv) places) state ≡ record { tempos = rowed tb tv places.tempo; stops = rowed sb sv places.stop; warps = [] }
walk_by_lists tb tv sb sv places state chart none =
    each-written (drop places.tempo (entries tb tv)) (drop places.stop (entries sb sv)) state none.closed
    (every_value fits tb tv places.tempo chart.tempos none.tempos)
    (every_value is_pause sb sv places.stop chart.stops none.stops)
