-- The tempos that SSC keeps and those that SM's walk writes lie on rows from beat 0 on, and each is one that the clock takes. Assumes nothing.
use Rattle.process_sm_machine.specs.declared.Entry.{Entry}
use Rattle.std.specs.Prelude.{Option, None}
use Prim.Native.Nat.{ℕ, ◌*◌, ◌≤◌}
use mathlib.Core.Path.{◌≡◌, refl, sym, ap, ◌∙◌, subst}
use mathlib.Core.Bool.{Bool, true, false, ◌&&◌}
use mathlib.Core.List.{List, [], ◌∷◌, ◌++◌}
use native.Mathlib.Omega.{arith}
use borrow.Author.Tests.{ne_eqb, ltb-true, leb-true}
use lib.Dec.{T}
use lib.IntN.{ℤ}
use lib.Ieee.{Float, nan, inf, fin, binary32, binary64, of_int, of_bits, lt, le, eq, neg, add, div, fits, up, down}
use lib.Ieee.Bits.{is_true}
use lib.Ieee.Scale.{finite}
use Rattle.ieee.specs.Constants.{plus_zero, plus_zero32, sixty32}
use Rattle.picks.specs.Pick.{pick}
use Rattle.ieee.specs.Narrowing.{narrow}
use Rattle.ieee.specs.Magnitude.{within_power}
use Rattle.ieee.proofs.Narrow.{narrow-own, narrow-fits, narrow_keeps_order}
use Rattle.rows.specs.Rows.{beat_of, quantized, quantized32, allowed_beat}
use Rattle.rows.proofs.RowOfZero.{row_of_zero}
use Rattle.rows.proofs.Quantizing.{narrow-allowed, quantized-twice, quantized-allowed}
use Rattle.limits.specs.declared.Kind.TheVariants as kind
use Rattle.limits.specs.declared.Kind.TheVariants.{RawBeat, RawTempo}
use Rattle.limits.specs.Numbers.{range_of, in_range, all_in, every, up_to}
use Rattle.limits.proofs.Every.{every_rest}
use Rattle.limits.proofs.TakenWithin.{finite-taken}
use Rattle.order.specs.Order.{From}
use Rattle.order.specs.Entries.{entries}
use Rattle.order.specs.FloatKey.{float_key}
use Rattle.order.proofs.OrderedList.{Each}
use Rattle.columns.specs.Kept.{kept}
use Rattle.tidy_tempos.specs.TempoTidying.{beat_key_of}
use Rattle.process_ssc.specs.Ssc as ssc
use Rattle.process_raw.specs.RawLists.{raw_number}
use Rattle.process_sm_changes.specs.SmChanges as changes
use Rattle.process_sm_changes.proofs.Narrowed.{value_taken}
use Rattle.process_sm_machine.specs.declared.Change.{Change}
use Rattle.process_sm_machine.specs.declared.Change.TheVariants.{Tempo, Stop}
use Rattle.process_sm_machine.specs.declared.Opened.{Opened}
use Rattle.process_sm_machine.specs.declared.Warp.{Warp}
use Rattle.process_sm_machine.specs.declared.Warp.TheVariants.{Closed, Open}
use Rattle.process_sm_machine.specs.declared.State.{State}
use Rattle.process_sm_machine.specs.declared.Moved.{Moved}
use Rattle.process_sm_machine.specs.Machine as machine
use Rattle.process_sm_machine.specs.Machine.{entry_at, tempo_after, open_chart, owed_at, keep_warp, close_by_time, pass_in_warp, pass_by, pass, tempo_outside, tempo_by, meet_tempo, stop_outside, close_by_stop, begin_again, stop_in_warp, stop_by, meet_stop, beat_at, meet, time_passed, met, finish_warp, finish_by, finish}
use Rattle.process_sm_machine.proofs.Either.{either}
use Rattle.process_sm_walk.specs.Chart.{written_list, walk_changes, processed, opening_tempo, opening_places}
use Rattle.process_sm_walk.specs.Changes.{changes_left}
use Rattle.process_sm_laws.proofs.Segments.{each_append}
use Rattle.process_sm_laws.proofs.ArrowsKeepOrder.{OneOf}
use Rattle.process_sm_laws.proofs.WrittenInOrder.{all-behind}
use Rattle.process_sm_laws.proofs.ChangesTaken.{changes-good, changes-most, in_order, on-beats, tempos_in}
use Rattle.process_sm_laws.proofs.ArrowsKeepBounds.{WarpWithin, Within}
use Rattle.process_sm_laws.proofs.WalkWithin.{Along, all-states}
use Rattle.process_sm_laws.specs.Beats.{Beat, beat_key}
use Rattle.process_sm_laws.specs.inside.Keys.{at, spot}
use Rattle.process_sm_laws.proofs.BeatsOnRows.{at_le, spot_mono}
use Rattle.rows.proofs.Allowed.{taken-allowed, within-allowed}
use Rattle.process.proofs.ChangesF32.{F32, ValueF32, changes_f32}
use Rattle.process.proofs.StopsOnRows.{OnItsRow, on_its_row_lem}

-- an f32 beat on its row, not before 0, with a tempo of a kind
pub record OnGrid (Kind : Float → Type 0) (e : Float × Float) : Type 0 where
  pub beat_on_row : quantized e.0 ≡ e.0
  pub allowed : T (allowed_beat e.0)
  pub forth : float_key binary64 plus_zero ≤ float_key binary64 e.0
  pub tempo : Kind e.1

-- one that the clock takes, narrowed or not
abbrev pub Narrowed : Float → Type 0
Narrowed v = in_range (range_of kind.Tempo) (narrow v) ≡ true

-- ---- beats from 0 on

pub zero_on_row : quantized plus_zero ≡ plus_zero
unfolding div of_int narrow
zero_on_row = ap (λ (r : ℤ). beat_of binary32 r) (row_of_zero binary32 (narrow plus_zero) (unfold eq in refl))

pub zero-allowed : T (allowed_beat plus_zero)
unfolding within_power le
zero-allowed = within-allowed plus_zero tt

zero-beat : Beat plus_zero
unfolding fits
zero-beat = record { held = tt; allowed = zero-allowed }

-- a beat that is not before 0 is not before it on its row
forth_of : (beat : Float) → T (allowed_beat beat) → T (le plus_zero beat) → float_key binary64 plus_zero ≤ float_key binary64 (quantized beat)
forth_of beat h l =
    let b : Beat (narrow beat) = record { held = narrow-fits beat; allowed = narrow-allowed beat h } in
    let own : narrow plus_zero ≡ plus_zero = narrow-own plus_zero zero-beat.held in
    let less : T (le plus_zero (narrow beat)) = subst (λ (x : Float). T (le x (narrow beat))) own (narrow_keeps_order plus_zero beat l) in
    let keys : at plus_zero ≤ at (narrow beat) = leb-true (at plus_zero) (at (narrow beat)) (sym (at_le plus_zero (narrow beat) zero-beat b) ∙ is_true (le plus_zero (narrow beat)) less) in
    let on : quantized32 plus_zero ≡ plus_zero = ap (λ (x : Float). quantized32 x) (sym own) ∙ zero_on_row in
    subst (λ (x : Float). float_key binary64 x ≤ float_key binary64 (quantized beat)) on (spot_mono plus_zero (narrow beat) zero-beat b binary64 keys)

zero_row : quantized32 plus_zero ≡ plus_zero
zero_row = ap (λ (x : Float). quantized32 x) (sym (narrow-own plus_zero zero-beat.held)) ∙ zero_on_row

-- ---- SSC

four : (a b c d : Bool) → pick a (pick b (pick c d false) false) false ≡ true → T a × T b × T c × (d ≡ true)
four true true true d h = (tt, tt, tt, h)
four false b c d h = let z : ◌≡◌ {A = ℕ} 0 1 = cc in absurd (omega arith)
four true false c d h = let z : ◌≡◌ {A = ℕ} 0 1 = cc in absurd (omega arith)
four true true false d h = let z : ◌≡◌ {A = ℕ} 0 1 = cc in absurd (omega arith)

above-nothing : (value : Float) → lt plus_zero value ≡ true → eq value plus_zero ≡ false
unfolding lt eq
above-nothing nan h = refl
above-nothing (inf s) h = refl
above-nothing (fin true m e) h = let z : ◌≡◌ {A = ℕ} 0 1 = cc in absurd (omega arith)
above-nothing (fin false m e) h = rw (ne_eqb (m * up e * 1) (0 * 1 * down e) (λ z. omega (arith, ltb-true (0 * 1 * down e) (m * up e * 1) h)))

ssc-one : (beat value : Float) → ssc.stays_ssc (beat, value) ≡ true → in_range (range_of RawBeat) beat ≡ true → in_range (range_of RawTempo) value ≡ true → OnGrid Narrowed (quantized beat, value)
unfolding ssc.stays_ssc
ssc-one beat value h b v =
    let says = four (finite beat) (finite value) (le plus_zero beat) (lt plus_zero value) h in
    let allowed : T (allowed_beat beat) = taken-allowed beat (sym (finite-taken (up_to 16) beat says.0) ∙ b) in
    record { beat_on_row = quantized-twice beat allowed; allowed = quantized-allowed beat allowed; forth = forth_of beat allowed says.2; tempo = value_taken false value says.1 (above-nothing value says.3) v }

pub ssc_grid : (beats values : List Float) → all_in (range_of RawBeat) beats ≡ true → all_in (range_of RawTempo) values ≡ true → Each beat_key_of (OnGrid Narrowed) (ssc.stayed_ssc beats values)
unfolding entries kept every
ssc_grid [] values b v = tt
ssc_grid (beat ∷ beats) [] b v = tt
ssc_grid (beat ∷ beats) (value ∷ values) b v =
    let bs = every_rest (in_range (range_of RawBeat)) beat beats b in
    let vs = every_rest (in_range (range_of RawTempo)) value values v in
    go (ssc.stays_ssc (beat, value)) refl (ssc_grid beats values bs.1 vs.1) (λ h. ssc-one beat value h bs.0 vs.0)
  where
    go : (t : Bool) → ssc.stays_ssc (beat, value) ≡ t → Each beat_key_of (OnGrid Narrowed) (ssc.stayed_ssc beats values) → (ssc.stays_ssc (beat, value) ≡ true → OnGrid Narrowed (quantized beat, value))
        → Each beat_key_of (OnGrid Narrowed) (pick t (ssc.quantized_entry (beat, value) ∷ ssc.stayed_ssc beats values) (ssc.stayed_ssc beats values))
    go true e rest one = (one e, rest)
    go false e rest one = rest

-- ---- SM: a tempo is written at the beat that is reached, or where a warp starts, on its row

abbrev On : Option Entry → Type 0
On w = Each (beat_key binary64) OnItsRow (written_list w)

entry-on : (beat value : Float) → Beat beat → On (entry_at beat value)
entry-on beat value b = (on_its_row_lem beat b.allowed, tt)

after-warp : (warp : Opened) (tempo : Float) → Beat warp.start → On (tempo_after warp tempo)
unfolding tempo_after
after-warp warp tempo b = either On (eq tempo warp.former) None (entry_at warp.start tempo) tt (entry-on warp.start tempo b)

module _ (n : ℕ) where
  passing : (state : State) (beat : Float) → Within n state → On (pass state beat).tempo
  unfolding pass pass_in_warp close_by_time keep_warp
  passing state beat w = go state.warp w.warp
    where
      go : (warp : Warp) → WarpWithin n warp → On (pass_by warp state.tempo state.beat beat).tempo
      go Closed o = tt
      go (Open warp) o = either (λ (m : Moved). On m.tempo) (machine.fits state.tempo && lt plus_zero32 (owed_at state.tempo state.beat warp.owed beat)) _ _ (after-warp warp state.tempo o.start) tt

  at-stop : (state : State) (length : Float) → Within n state → On (meet_stop state length).tempo
  unfolding meet_stop stop_outside stop_in_warp close_by_stop begin_again keep_warp
  at-stop state length w = go state.warp w.warp
    where
      go : (warp : Warp) → WarpWithin n warp → On (stop_by warp state.tempo state.beat length).tempo
      go Closed o = either (λ (m : Moved). On m.tempo) (lt length plus_zero32) _ _ tt tt
      go (Open warp) o =
          either (λ (m : Moved). On m.tempo) (lt plus_zero32 length && lt plus_zero32 (add binary32 warp.owed length)) _ _
          (either (λ (m : Moved). On m.tempo) (machine.fits state.tempo) _ _ (after-warp warp state.tempo o.start) tt) tt

  at-tempo : (state : State) (tempo : Float) → Within n state → On (meet_tempo state tempo).tempo
  unfolding meet_tempo tempo_outside
  at-tempo state tempo w = go state.warp
    where
      go : (warp : Warp) → On (tempo_by warp state.tempo state.beat tempo).tempo
      go Closed = either (λ (m : Moved). On m.tempo) (machine.fits tempo) _ _ (entry-on state.beat tempo w.beat) tt
      go (Open warp) = tt

  meeting : (state : State) (change : Change) → Within n state → On (meet state change).tempo
  meeting state (Tempo entry) w = at-tempo state entry.value w
  meeting state (Stop entry) w = at-stop state entry.value w

  ending : (state : State) → Within n state → On (finish state).tempo
  unfolding finish finish_warp
  ending state w = go state.warp w.warp
    where
      go : (warp : Warp) → WarpWithin n warp → On (finish_by warp state.tempo state.beat).tempo
      go Closed o = tt
      go (Open warp) o = after-warp warp state.tempo o.start

  walk-on : (changes : List Change) (state : State) → Along (Within n) changes state → Each (beat_key binary64) OnItsRow (walk_changes changes state).tempos
  unfolding walk_changes
  walk-on [] state a = ending state a.0
  walk-on (change ∷ changes) state a =
      each_append (beat_key binary64) OnItsRow (written_list (time_passed state change).tempo ++ written_list (met state change).tempo) (walk_changes changes (met state change).state).tempos
      (each_append (beat_key binary64) OnItsRow (written_list (time_passed state change).tempo) (written_list (met state change).tempo) (passing state (beat_at change) a.0) (meeting (time_passed state change).state change a.1))
      (walk-on changes (met state change).state a.2)

-- all that is said of each tempo
together : (Kind : Float → Type 0) (list : List (Float × Float)) → Each (beat_key binary64) OnItsRow list → Each (beat_key binary64) (OneOf binary64 Kind) list → From (beat_key binary64) (float_key binary64 plus_zero) list → Each beat_key_of (OnGrid Kind) list
together Kind [] a b f = tt
together Kind (e ∷ list) a b f = (record { beat_on_row = a.0; allowed = b.0.0; forth = f.0; tempo = b.0.1 }, together Kind list a.1 b.1 f.1)

-- SM's tempos are f32s that the clock takes
abbrev pub SmTempo : Float → Type 0
SmTempo v = (in_range (range_of kind.Tempo) v ≡ true) × F32 v

pub sixty-taken : SmTempo sixty32
unfolding in_range of_bits lt le neg eq fits
sixty-taken = (refl, tt)

pub sm_narrowed : (v : Float) → SmTempo v → Narrowed v
sm_narrowed v h = subst (λ (x : Float). in_range (range_of kind.Tempo) x ≡ true) (sym (narrow-own v h.1)) h.0

sm_tempos : (list : List (Float × Float)) → Each changes.beat_key32 (λ (e : Float × Float). in_range (range_of kind.Tempo) e.1 ≡ true) list → Each changes.beat_key32 ValueF32 list → Each changes.beat_key32 (λ (e : Float × Float). SmTempo e.1) list
sm_tempos [] a b = tt
sm_tempos (e ∷ list) a b = ((a.0, b.0), sm_tempos list a.1 b.1)

module _ (tempo_beats tempo_values stop_beats stop_values : List Float) (t : raw_number tempo_beats tempo_values ≡ 0) (s : raw_number stop_beats stop_values ≡ 0) where
  abbrev T' : List (Float × Float)
  T' = changes.sm_changes tempo_beats tempo_values

  abbrev S' : List (Float × Float)
  S' = changes.sm_changes stop_beats stop_values

  on-rows : Each (beat_key binary64) OnItsRow (processed T' S').tempos
  unfolding open_chart of_bits
  on-rows =
      let states = all-states T' S' (changes-good tempo_beats tempo_values t) (in_order tempo_beats tempo_values t) (changes-good stop_beats stop_values s) (in_order stop_beats stop_values s) (changes-most tempo_beats tempo_values t) (changes-most stop_beats stop_values s) in
      each_append (beat_key binary64) OnItsRow (written_list (open_chart (opening_tempo T')).tempo) (walk_changes (changes_left T' S' (opening_places T' S')) (open_chart (opening_tempo T')).state).tempos
      (either On (machine.fits (opening_tempo T')) (entry_at plus_zero32 (opening_tempo T')) None (entry-on plus_zero32 (opening_tempo T') naught_beat) tt)
      (walk-on 4096 (changes_left T' S' (opening_places T' S')) (open_chart (opening_tempo T')).state states)
    where
      naught_beat : Beat plus_zero32
      naught_beat = zero-beat

  pub sm_grid : Each beat_key_of (OnGrid SmTempo) (processed T' S').tempos
  unfolding open_chart of_bits
  sm_grid =
      let all = all-behind binary64 SmTempo T' S' (on-beats tempo_beats tempo_values t) (in_order tempo_beats tempo_values t) (on-beats stop_beats stop_values s) (in_order stop_beats stop_values s) sixty-taken (sm_tempos T' (tempos_in tempo_beats tempo_values t) (changes_f32 tempo_beats tempo_values)) in
      together SmTempo (processed T' S').tempos on-rows all.tempos_are (from_zero (processed T' S').tempos all.tempo_order.from)
    where
      from_zero : (list : List (Float × Float)) → From (beat_key binary64) (spot binary64 plus_zero32) list → From (beat_key binary64) (float_key binary64 plus_zero) list
      from_zero list f = subst (λ (x : Float). From (beat_key binary64) (float_key binary64 x) list) zero_row f
