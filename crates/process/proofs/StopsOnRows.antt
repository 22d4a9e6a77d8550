-- Stops that are processed lie on rows: quantising their beats again changes nothing. In SM their lengths are f32s. Assumes nothing.
use Rattle.process_sm_machine.specs.declared.Entry.{Entry}
use Rattle.std.specs.Prelude.{Option}
use mathlib.Core.Path.{◌≡◌, refl, sym, ap, ◌∙◌, subst}
use mathlib.Core.Bool.{Bool, true, false, ◌&&◌}
use mathlib.Core.List.{List, [], ◌∷◌, ◌++◌, map}
use Prim.Native.Nat.{ℕ}
use native.Mathlib.Omega.{arith}
use lib.Dec.{T}
use lib.IntN.{pos}
use lib.Ieee.{Float, nan, inf, fin, binary32, of_int, lt, add}
use lib.Ieee.Fits.{div-fits, add-fits}
use lib.Ieee.Scale.{finite}
use Rattle.ieee.specs.Constants.{plus_zero32}
use Rattle.picks.specs.Pick.{pick}
use Rattle.ieee.proofs.Narrow.{narrow-own}
use Rattle.rows.specs.Rows.{row, quantized, quantized32, allowed_beat}
use Rattle.rows.proofs.Quantizing.{quantized32-twice, quantized-twice}
use Rattle.limits.specs.declared.Kind.TheVariants.{RawBeat}
use Rattle.limits.specs.Numbers.{range_of, in_range, all_in, every, up_to}
use Rattle.limits.proofs.Every.{every_rest}
use Rattle.limits.proofs.TakenWithin.{finite-taken}
use Rattle.order.specs.Entries.{entries, first}
use Rattle.order.proofs.OrderedList.{Each}
use Rattle.order.proofs.EachEntry.{each_so}
use Rattle.columns.specs.Kept.{kept}
use Rattle.process_ssc.specs.Ssc.{stays_ssc, quantized_entry, stayed_ssc}
use Rattle.process_sm_machine.specs.declared.Change.{Change}
use Rattle.process_sm_machine.specs.declared.Change.TheVariants.{Tempo, Stop}
use Rattle.process_sm_machine.specs.declared.Warp.{Warp}
use Rattle.process_sm_machine.specs.declared.Warp.TheVariants.{Closed, Open}
use Rattle.process_sm_machine.specs.declared.State.{State}
use Rattle.process_sm_machine.specs.declared.Moved.{Moved}
use Rattle.process_sm_machine.specs.Machine.{fits, entry_at, open_chart, owed_at, keep_warp, close_by_time, pass_in_warp, pass_by, pass, tempo_outside, tempo_by, meet_tempo, stop_outside, close_by_stop, begin_again, stop_in_warp, stop_by, meet_stop, beat_at, meet, time_passed, met, finish_warp, finish_by, finish}
use Rattle.process_sm_machine.proofs.Either.{either}
use Rattle.process_sm_machine.proofs.Reached.{pass-reaches}
use Rattle.process_sm_walk.specs.Chart.{written_list, walk_changes, processed, opening_tempo, opening_places}
use Rattle.process_sm_walk.specs.Changes.{changes_left}
use Rattle.process_sm_laws.specs.Beats.{Beat, beat_key}
use Rattle.process_sm_laws.proofs.Segments.{each_append}
use Rattle.process_sm_laws.proofs.ChangesInOrder.{change_key}
use Rattle.rows.proofs.Allowed.{taken-allowed}
use Rattle.process.proofs.ChangesF32.{F32, ValueF32, ChangeF32}

abbrev pub OnItsRow : Float × Float → Type 0
OnItsRow e = quantized e.0 ≡ e.0

-- an f32 beat that is quantised
pub on_its_row_lem : (beat : Float) → T (allowed_beat beat) → quantized (quantized32 beat) ≡ quantized32 beat
on_its_row_lem beat h =
    ap (λ (x : Float). quantized32 x) (narrow-own (quantized32 beat) (div-fits binary32 (of_int binary32 (row binary32 beat)) (of_int binary32 (pos 48)))) ∙ quantized32-twice beat h

-- ---- SM: a stop is written at the beat that is reached, on its row, with a length that is given or a sum

abbrev SmStop : Float × Float → Type 0
SmStop e = OnItsRow e × ValueF32 e

abbrev On : Option Entry → Type 0
On w = Each (beat_key binary32) SmStop (written_list w)

entry-on : (beat value : Float) → Beat beat → F32 value → On (entry_at beat value)
entry-on beat value b v = ((on_its_row_lem beat b.allowed, v), tt)

none_in_passing : (state : State) (beat : Float) → On (pass state beat).stop
unfolding pass pass_in_warp close_by_time keep_warp
none_in_passing state beat = go state.warp
  where
    go : (warp : Warp) → On (pass_by warp state.tempo state.beat beat).stop
    go Closed = tt
    go (Open warp) = either (λ (m : Moved). On m.stop) (fits state.tempo && lt plus_zero32 (owed_at state.tempo state.beat warp.owed beat)) _ _ tt tt

stop-on : (state : State) (length : Float) → Beat state.beat → F32 length → On (meet_stop state length).stop
unfolding meet_stop stop_outside stop_in_warp close_by_stop begin_again keep_warp
stop-on state length b v = go state.warp
  where
    go : (warp : Warp) → On (stop_by warp state.tempo state.beat length).stop
    go Closed = either (λ (m : Moved). On m.stop) (lt length plus_zero32) _ _ tt (entry-on state.beat length b v)
    go (Open warp) =
        either (λ (m : Moved). On m.stop) (lt plus_zero32 length && lt plus_zero32 (add binary32 warp.owed length)) _ _
        (either (λ (m : Moved). On m.stop) (fits state.tempo) _ _ (entry-on state.beat (add binary32 warp.owed length) b (add-fits binary32 warp.owed length)) (entry-on state.beat (add binary32 warp.owed length) b (add-fits binary32 warp.owed length))) tt

none_at_tempo : (state : State) (tempo : Float) → On (meet_tempo state tempo).stop
unfolding meet_tempo tempo_outside
none_at_tempo state tempo = go state.warp
  where
    go : (warp : Warp) → On (tempo_by warp state.tempo state.beat tempo).stop
    go Closed = either (λ (m : Moved). On m.stop) (fits tempo) _ _ tt tt
    go (Open warp) = tt

meet-on : (state : State) (change : Change) → Beat state.beat → ChangeF32 change → On (meet state change).stop
meet-on state (Tempo entry) b v = none_at_tempo state entry.value
meet-on state (Stop entry) b v = stop-on state entry.value b v

none_at_the_end : (state : State) → On (finish state).stop
unfolding finish finish_warp
none_at_the_end state = go state.warp
  where
    go : (warp : Warp) → On (finish_by warp state.tempo state.beat).stop
    go Closed = tt
    go (Open warp) = tt

walk-on : (changes : List Change) (state : State) → Each change_key (λ (change : Change). Beat (beat_at change)) changes → Each change_key ChangeF32 changes → Each (beat_key binary32) SmStop (walk_changes changes state).stops
unfolding walk_changes
walk-on [] state b v = none_at_the_end state
walk-on (change ∷ changes) state b v =
    let here : Beat (time_passed state change).state.beat = subst Beat (sym (pass-reaches state (beat_at change))) b.0 in
    each_append (beat_key binary32) SmStop (written_list (time_passed state change).stop ++ written_list (met state change).stop) (walk_changes changes (met state change).state).stops
    (each_append (beat_key binary32) SmStop (written_list (time_passed state change).stop) (written_list (met state change).stop) (none_in_passing state (beat_at change)) (meet-on (time_passed state change).state change here v.0))
    (walk-on changes (met state change).state b.1 v.1)

module _ (tempos stops : List (Float × Float)) (beats : Each change_key (λ (change : Change). Beat (beat_at change)) (changes_left tempos stops (opening_places tempos stops))) (values : Each change_key ChangeF32 (changes_left tempos stops (opening_places tempos stops))) where
  stops-on : Each (beat_key binary32) SmStop (processed tempos stops).stops
  unfolding open_chart
  stops-on = walk-on (changes_left tempos stops (opening_places tempos stops)) (open_chart (opening_tempo tempos)).state beats values

  pub sm_on_rows : map quantized (map first (processed tempos stops).stops) ≡ map first (processed tempos stops).stops
  sm_on_rows = go (processed tempos stops).stops stops-on
    where
      go : (list : List (Float × Float)) → Each (beat_key binary32) SmStop list → map quantized (map first list) ≡ map first list
      go [] h = refl
      go (e ∷ list) h = rw (h.0.0, go list h.1)

  pub sm_lengths_f32 : Each (beat_key binary32) ValueF32 (processed tempos stops).stops
  sm_lengths_f32 = each_so (beat_key binary32) (λ e h. h.1) (processed tempos stops).stops stops-on

-- ---- SSC: what stays is quantised

stays-finite : (beat value : Float) → stays_ssc (beat, value) ≡ true → T (finite beat)
unfolding stays_ssc
stays-finite nan value h = let z : ◌≡◌ {A = ℕ} 0 1 = cc in absurd (omega arith)
stays-finite (inf s) value h = let z : ◌≡◌ {A = ℕ} 0 1 = cc in absurd (omega arith)
stays-finite (fin s m e) value h = tt

pub ssc_on_rows : (beats values : List Float) → all_in (range_of RawBeat) beats ≡ true → map quantized (map first (stayed_ssc beats values)) ≡ map first (stayed_ssc beats values)
unfolding entries kept every
ssc_on_rows [] values b = refl
ssc_on_rows (beat ∷ beats) [] b = refl
ssc_on_rows (beat ∷ beats) (value ∷ values) b =
    let bs = every_rest (in_range (range_of RawBeat)) beat beats b in
    go (stays_ssc (beat, value)) refl bs.0 (ssc_on_rows beats values bs.1)
  where
    go : (t : Bool) → stays_ssc (beat, value) ≡ t → in_range (range_of RawBeat) beat ≡ true → map quantized (map first (stayed_ssc beats values)) ≡ map first (stayed_ssc beats values)
        → map quantized (map first (pick t (quantized_entry (beat, value) ∷ stayed_ssc beats values) (stayed_ssc beats values))) ≡ map first (pick t (quantized_entry (beat, value) ∷ stayed_ssc beats values) (stayed_ssc beats values))
    go true e i rest = rw (quantized-twice beat (taken-allowed beat (sym (finite-taken (up_to 16) beat (stays-finite beat value e)) ∙ i)), rest)
    go false e i rest = rest
