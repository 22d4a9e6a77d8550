-- The warps that SM makes are on the grid: each is written where it opened, on the row of that beat. Assumes nothing.
use Rattle.process_sm_machine.specs.declared.Entry.{Entry}
use Rattle.std.specs.Prelude.{Option, None}
use Prim.Native.Nat.{ℕ}
use mathlib.Core.Path.{◌≡◌, refl, subst, ◌∙◌}
use mathlib.Core.Bool.{Bool, true, false, ◌&&◌}
use mathlib.Core.List.{List, [], ◌∷◌, ◌++◌, map}
use lib.Dec.{T}
use lib.Ieee.{Float, binary32, binary64, lt, add, sub}
use Rattle.ieee.specs.Constants.{plus_zero32}
use Rattle.picks.specs.Pick.{pick}
use Rattle.rows.specs.Rows.{quantized, quantized32, allowed_beat, on_grid}
use Rattle.rows.proofs.Allowed.{taken-allowed}
use Rattle.rows.proofs.OnGrid.{quantised_on_grid}
use Rattle.limits.specs.declared.Kind.TheVariants.{Beat}
use Rattle.limits.specs.Numbers.{range_of, in_range, all_in, every}
use Rattle.limits.proofs.Every.{every_rest}
use Rattle.order.specs.Entries.{first}
use Rattle.order.proofs.OrderedList.{Each}
use Rattle.process_raw.specs.RawLists.{raw_numbers}
use Rattle.process_raw.proofs.BothTaken.{both-taken}
use Rattle.process_sm_changes.specs.SmChanges.{sm_changes}
use Rattle.process_sm_machine.specs.declared.Change.{Change}
use Rattle.process_sm_machine.specs.declared.Change.TheVariants.{Tempo, Stop}
use Rattle.process_sm_machine.specs.declared.Warp.{Warp}
use Rattle.process_sm_machine.specs.declared.Warp.TheVariants.{Closed, Open}
use Rattle.process_sm_machine.specs.declared.State.{State}
use Rattle.process_sm_machine.specs.declared.Moved.{Moved}
use Rattle.process_sm_machine.specs.Machine.{fits, entry_at, warp_over, open_chart, owed_at, keep_warp, close_by_time, pass_in_warp, pass_by, pass, tempo_outside, tempo_by, meet_tempo, stop_outside, close_by_stop, begin_again, stop_in_warp, stop_by, meet_stop, beat_at, meet, time_passed, met, finish_warp, finish_by, finish}
use Rattle.process_sm_machine.proofs.Either.{either}
use Rattle.process_sm_walk.specs.Chart.{written_list, walk_changes, processed, opening_tempo, opening_places}
use Rattle.process_sm_walk.specs.Changes.{changes_left}
use Rattle.process_sm_laws.specs.Beats as beats
use Rattle.process_sm_laws.specs.Beats.{beat_key}
use Rattle.process_sm_laws.proofs.Segments.{each_append}
use Rattle.process_sm_laws.proofs.ChangesTaken.{changes-good, changes-most, in_order}
use Rattle.process_sm_laws.proofs.ArrowsKeepBounds.{WarpWithin, Within}
use Rattle.process_sm_laws.proofs.WalkWithin.{Along, all-states}
use Rattle.process_sm_laws.proofs.AssemblyTakes.{sm_warps_taken}
use Rattle.chart.specs.declared.TimingFormat.{TimingFormat}
use Rattle.chart.specs.declared.TimingFormat.TheVariants.{Sm, Ssc}
use Rattle.process.specs.ByFormat.{tempo_beats_of, tempo_values_of, lists_by, processed_lists}
use Rattle.process.proofs.NoneGiven.{given-number}
use Rattle.process.proofs.StopsOnRows.{OnItsRow, on_its_row_lem}

-- ---- a warp is written at its start, on its row
abbrev On : Option Entry → Type 0
On w = Each (beat_key binary64) OnItsRow (written_list w)

over : (start end : Float) → beats.Beat start → On (warp_over start end)
unfolding warp_over
over start end b = either On (lt start end) (entry_at start (quantized32 (sub binary32 end start))) None (on_its_row_lem start b.allowed, tt) tt

module _ (n : ℕ) where
  passing : (state : State) (beat : Float) → Within n state → On (pass state beat).warp
  unfolding pass pass_in_warp close_by_time keep_warp
  passing state beat w = go state.warp w.warp
    where
      go : (warp : Warp) → WarpWithin n warp → On (pass_by warp state.tempo state.beat beat).warp
      go Closed o = tt
      go (Open warp) o = either (λ (m : Moved). On m.warp) (fits state.tempo && lt plus_zero32 (owed_at state.tempo state.beat warp.owed beat)) _ _ (over warp.start _ o.start) tt

  at-stop : (state : State) (length : Float) → Within n state → On (meet_stop state length).warp
  unfolding meet_stop stop_outside stop_in_warp close_by_stop begin_again keep_warp
  at-stop state length w = go state.warp w.warp
    where
      go : (warp : Warp) → WarpWithin n warp → On (stop_by warp state.tempo state.beat length).warp
      go Closed o = either (λ (m : Moved). On m.warp) (lt length plus_zero32) _ _ tt tt
      go (Open warp) o =
          either (λ (m : Moved). On m.warp) (lt plus_zero32 length && lt plus_zero32 (add binary32 warp.owed length)) _ _
          (either (λ (m : Moved). On m.warp) (fits state.tempo) _ _ (over warp.start state.beat o.start) (over warp.start state.beat o.start)) tt

  at-tempo : (state : State) (tempo : Float) → On (meet_tempo state tempo).warp
  unfolding meet_tempo tempo_outside
  at-tempo state tempo = go state.warp
    where
      go : (warp : Warp) → On (tempo_by warp state.tempo state.beat tempo).warp
      go Closed = either (λ (m : Moved). On m.warp) (fits tempo) _ _ tt tt
      go (Open warp) = tt

  meeting : (state : State) (change : Change) → Within n state → On (meet state change).warp
  meeting state (Tempo entry) w = at-tempo state entry.value
  meeting state (Stop entry) w = at-stop state entry.value w

  ending : (state : State) → Within n state → On (finish state).warp
  unfolding finish finish_warp
  ending state w = go state.warp w.warp
    where
      go : (warp : Warp) → WarpWithin n warp → On (finish_by warp state.tempo state.beat).warp
      go Closed o = tt
      go (Open warp) o = over warp.start _ o.start

  walk-on : (changes : List Change) (state : State) → Along (Within n) changes state → Each (beat_key binary64) OnItsRow (walk_changes changes state).warps
  unfolding walk_changes
  walk-on [] state a = ending state a.0
  walk-on (change ∷ changes) state a =
      each_append (beat_key binary64) OnItsRow (written_list (time_passed state change).warp ++ written_list (met state change).warp) (walk_changes changes (met state change).state).warps
      (each_append (beat_key binary64) OnItsRow (written_list (time_passed state change).warp) (written_list (met state change).warp) (passing state (beat_at change) a.0) (meeting (time_passed state change).state change a.1))
      (walk-on changes (met state change).state a.2)

-- ---- what is on its row and allowed is on the grid
all_on_grid : (list : List (Float × Float)) → Each (beat_key binary64) OnItsRow list → all_in (range_of Beat) (map first list) ≡ true → every on_grid (map first list) ≡ true
unfolding every
all_on_grid [] rows h = refl
all_on_grid (e ∷ list) rows h =
    let p = every_rest (in_range (range_of Beat)) e.0 (map first list) h in
    let here : on_grid e.0 ≡ true = subst (λ (beat : Float). on_grid beat ≡ true) rows.0 (quantised_on_grid e.0 (taken-allowed e.0 p.0)) in
    rw (here, all_on_grid list rows.1 p.1)

sm_warps : (tempo_beats tempo_values stop_beats stop_values : List Float) → raw_numbers tempo_beats tempo_values stop_beats stop_values ≡ 0
    → every on_grid (map first (processed (sm_changes tempo_beats tempo_values) (sm_changes stop_beats stop_values)).warps) ≡ true
unfolding open_chart
sm_warps tempo_beats tempo_values stop_beats stop_values h =
    let both = both-taken h in
    let t = both.tempos in
    let s = both.stops in
    let tempos = sm_changes tempo_beats tempo_values in
    let stops = sm_changes stop_beats stop_values in
    let states = all-states tempos stops (changes-good tempo_beats tempo_values t) (in_order tempo_beats tempo_values t) (changes-good stop_beats stop_values s) (in_order stop_beats stop_values s) (changes-most tempo_beats tempo_values t) (changes-most stop_beats stop_values s) in
    all_on_grid (processed tempos stops).warps
    (walk-on 4096 (changes_left tempos stops (opening_places tempos stops)) (open_chart (opening_tempo tempos)).state states)
    (sm_warps_taken tempo_beats tempo_values stop_beats stop_values h).0

by_format : (format : TimingFormat) (tempo_beats tempo_values stop_beats stop_values : List Float) → raw_numbers tempo_beats tempo_values stop_beats stop_values ≡ 0
    → every on_grid (map first (lists_by format tempo_beats tempo_values stop_beats stop_values).warps) ≡ true
by_format Sm tempo_beats tempo_values stop_beats stop_values h = sm_warps tempo_beats tempo_values stop_beats stop_values h
by_format Ssc tempo_beats tempo_values stop_beats stop_values h = unfold every in refl

-- of raw lists that are taken, in either format
pub made_on_grid : (format : TimingFormat) (tempo_beats tempo_values stop_beats stop_values : List Float) → raw_numbers tempo_beats tempo_values stop_beats stop_values ≡ 0
    → every on_grid (map first (processed_lists format tempo_beats tempo_values stop_beats stop_values).warps) ≡ true
unfolding processed_lists
made_on_grid format tempo_beats tempo_values stop_beats stop_values h =
    by_format format (tempo_beats_of tempo_beats tempo_values) (tempo_values_of tempo_beats tempo_values) stop_beats stop_values (given-number tempo_beats tempo_values stop_beats stop_values ∙ h)
