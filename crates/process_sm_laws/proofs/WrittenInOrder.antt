-- Where beats are given that never fall, the beats of the tempos written never fall, nor those of the stops, nor those of the warps; every beat written is an allowed beat,
-- and every tempo written is a given one or 60. Assumes nothing.
use Prim.Native.Nat.{max}
use mathlib.Core.Bool.{Bool, true, false}
use mathlib.Core.List.{List, [], ◌∷◌, ◌++◌}
use mathlib.Core.Path.{◌≡◌, ◌∙◌}
use lib.ListN.{drop}
use lib.Ieee.{Float, Format, binary32, le}
use Rattle.ieee.specs.Constants.{plus_zero32, sixty32}
use Rattle.picks.specs.Pick.{pick}
use Rattle.order.specs.Order.{From, NeverFalls, ordered}
use Rattle.order.proofs.OrderedList.{Each, ordered-still}
use Rattle.process_sm_machine.specs.declared.Change.{Change}
use Rattle.process_sm_machine.specs.declared.State.{State}
use Rattle.process_sm_machine.specs.Machine.{open_chart, beat_at, time_passed, met, finish}
use Rattle.process_sm_machine.proofs.Reached.{pass-reaches, meet_stays}
use Rattle.process_sm_walk.specs.Changes.{tempo_of, stop_of, changes_left}
use Rattle.process_sm_walk.specs.Chart.{walk_changes, first_tempo, last_tempo, tempos_by0, stops_before, opening_tempo, opening_places, processed}
use Rattle.process_sm_laws.specs.Beats.{Beat, beat_key}
use Rattle.process_sm_laws.specs.inside.Keys.{at}
use Rattle.process_sm_laws.proofs.Segments.{one_behind_other, each_append}
use Rattle.process_sm_laws.proofs.ArrowsKeepOrder.{Good, OnRow, OneOf, Behind, Fair, ChangeIn, fair_opening, fair_pass, fair_meet, fair_finish}
use Rattle.process_sm_laws.proofs.ChangesInOrder.{change_key, Beats, each-merged, rises-merged, each-drop, rises-drop, beat_naught, after-opening}

-- the state after the end of the chart
abbrev last_state : List Change → State → State
last_state [] state = (finish state).state
last_state (change ∷ changes) state = last_state changes (met state change).state

module _ (f : Format) (P : Float → Type 0) where
  behind-then : {a b c : State} {t s w t' s' w' : List (Float × Float)} → Behind f P a b t s w → Behind f P b c t' s' w' → Behind f P a c (t ++ t') (s ++ s') (w ++ w')
  behind-then {a} {b} {c} {t} {s} {w} {t'} {s'} {w'} p q = record {
    tempo_order = one_behind_other (beat_key f) p.tempo_order q.tempo_order;
    stop_order = one_behind_other (beat_key f) p.stop_order q.stop_order;
    warp_order = one_behind_other (beat_key f) p.warp_order q.warp_order;
    tempos_are = each_append (beat_key f) (OneOf f P) t t' p.tempos_are q.tempos_are;
    stops_are = each_append (beat_key f) (OnRow f P) s s' p.stops_are q.stops_are;
    warps_are = each_append (beat_key f) (OnRow f P) w w' p.warps_are q.warps_are;
  }

  abbrev GoodChange : Change → Type 0
  GoodChange change = Beat (beat_at change) × ChangeIn f P change

  walk-behind : (changes : List Change) (state : State) → Good f P state → Each change_key GoodChange changes → From change_key (at state.beat) changes → NeverFalls change_key changes
      → Behind f P state (last_state changes state) (walk_changes changes state).tempos (walk_changes changes state).stops (walk_changes changes state).warps
  unfolding walk_changes
  walk-behind [] state g e k r = (fair_finish f P state g).behind
  walk-behind (change ∷ changes) state g e k r =
      let one : Fair f P state (time_passed state change) = fair_pass f P state (beat_at change) g e.0.0 k.0 in
      let two : Fair f P (time_passed state change).state (met state change) = fair_meet f P (time_passed state change).state change one.good e.0.1 in
      let here : (met state change).state.beat ≡ beat_at change = meet_stays (time_passed state change).state change ∙ pass-reaches state (beat_at change) in
      behind-then (behind-then one.behind two.behind)
      (walk-behind changes (met state change).state two.good e.1 (rw here r.0) r.1)

  -- ---- the opening's tempo

  abbrev Values : List (Float × Float) → Type 0
  Values list = Each (beat_key binary32) (λ (e : Float × Float). P e.1) list

  pub first_in : (tempos : List (Float × Float)) → P sixty32 → Values tempos → P (first_tempo tempos)
  first_in [] s v = s
  first_in (tempo ∷ tempos) s v = v.0

  pub last_in : (tempos : List (Float × Float)) (other : Float) → P other → Values tempos → P (last_tempo other tempos)
  unfolding last_tempo
  last_in [] other p v = p
  last_in (tempo ∷ tempos) other p v = by (le tempo.0 plus_zero32) (last_in tempos tempo.1 v.0 v.1)
    where
      by : (b : Bool) → P (last_tempo tempo.1 tempos) → P (pick b (last_tempo tempo.1 tempos) other)
      by true h = h
      by false h = p

  both_in : (tempos : List (Float × Float)) → Beats tempos → Values tempos → Each (beat_key binary32) (λ (e : Float × Float). GoodChange (tempo_of e)) tempos
  both_in [] b v = tt
  both_in (tempo ∷ tempos) b v = ((b.0, v.0), both_in tempos b.1 v.1)

  stops_in : (stops : List (Float × Float)) → Beats stops → Each (beat_key binary32) (λ (e : Float × Float). GoodChange (stop_of e)) stops
  stops_in [] b = tt
  stops_in (stop ∷ stops) b = ((b.0, tt), stops_in stops b.1)

  -- ---- the whole

  module _ (tempos stops : List (Float × Float)) (tempo_beats : Beats tempos) (tempo_order : NeverFalls (beat_key binary32) tempos)
      (stop_beats : Beats stops) (stop_order : NeverFalls (beat_key binary32) stops) (default : P sixty32) (values : Values tempos) where
    abbrev first : State
    first = (open_chart (opening_tempo tempos)).state

    abbrev changes : List Change
    changes = changes_left tempos stops (opening_places tempos stops)

    pub all-behind : Behind f P first (last_state changes first) (processed tempos stops).tempos (processed tempos stops).stops (processed tempos stops).warps
    unfolding open_chart
    all-behind =
        let t = max (tempos_by0 tempos) 1 in let s = stops_before stops in
        let opening = fair_opening f P (opening_tempo tempos) beat_naught (last_in tempos (first_tempo tempos) (first_in tempos default values) values) in
        behind-then opening.behind
        (walk-behind changes first opening.good
        (each-merged GoodChange (drop t tempos) (drop s stops)
        (each-drop (beat_key binary32) (λ (e : Float × Float). GoodChange (tempo_of e)) t tempos (both_in tempos tempo_beats values))
        (each-drop (beat_key binary32) (λ (e : Float × Float). GoodChange (stop_of e)) s stops (stops_in stops stop_beats)))
        (after-opening tempos stops tempo_beats tempo_order stop_beats stop_order)
        (rises-merged (drop t tempos) (drop s stops)
        (each-drop (beat_key binary32) (λ (e : Float × Float). Beat e.0) t tempos tempo_beats) (rises-drop (beat_key binary32) t tempos tempo_order)
        (each-drop (beat_key binary32) (λ (e : Float × Float). Beat e.0) s stops stop_beats) (rises-drop (beat_key binary32) s stops stop_order)))

    -- every tempo written is one of those that P has, on an allowed beat
    pub tempos-written : Each (beat_key f) (OneOf f P) (processed tempos stops).tempos
    tempos-written = all-behind.tempos_are

    pub stops_on_rows : Each (beat_key f) (OnRow f P) (processed tempos stops).stops
    stops_on_rows = all-behind.stops_are

    pub warps_on_rows : Each (beat_key f) (OnRow f P) (processed tempos stops).warps
    warps_on_rows = all-behind.warps_are

-- no beat written is below the one before it, so that each list is already in the stable order by beat
module _ (f : Format) (tempos stops : List (Float × Float)) (tempo_beats : Beats tempos) (tempo_order : NeverFalls (beat_key binary32) tempos)
    (stop_beats : Beats stops) (stop_order : NeverFalls (beat_key binary32) stops) where
  any-values : (list : List (Float × Float)) → Each (beat_key binary32) (λ (e : Float × Float). Unit {0}) list
  any-values [] = tt
  any-values (e ∷ list) = (tt, any-values list)

  pub tempos_never_fall : NeverFalls (beat_key f) (processed tempos stops).tempos
  tempos_never_fall = (all-behind f (λ x. Unit {0}) tempos stops tempo_beats tempo_order stop_beats stop_order tt (any-values tempos)).tempo_order.rises

  pub stops_never_fall : NeverFalls (beat_key f) (processed tempos stops).stops
  stops_never_fall = (all-behind f (λ x. Unit {0}) tempos stops tempo_beats tempo_order stop_beats stop_order tt (any-values tempos)).stop_order.rises

  pub warps_never_fall : NeverFalls (beat_key f) (processed tempos stops).warps
  warps_never_fall = (all-behind f (λ x. Unit {0}) tempos stops tempo_beats tempo_order stop_beats stop_order tt (any-values tempos)).warp_order.rises

  pub tempos-ordered : ordered (beat_key f) (processed tempos stops).tempos ≡ (processed tempos stops).tempos
  tempos-ordered = ordered-still (beat_key f) (processed tempos stops).tempos tempos_never_fall

  pub stops-ordered : ordered (beat_key f) (processed tempos stops).stops ≡ (processed tempos stops).stops
  stops-ordered = ordered-still (beat_key f) (processed tempos stops).stops stops_never_fall

  pub warps-ordered : ordered (beat_key f) (processed tempos stops).warps ≡ (processed tempos stops).warps
  warps-ordered = ordered-still (beat_key f) (processed tempos stops).warps warps_never_fall
