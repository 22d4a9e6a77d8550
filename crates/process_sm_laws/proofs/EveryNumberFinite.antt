-- No number on SM's way is infinite or a NaN: what is reckoned for the time up to a change, for a stop in a warp and for a warp's end is finite, at every step of the walk. Assumes nothing.
use mathlib.Core.Bool.{false}
use mathlib.Core.List.{List, [], ◌∷◌}
use mathlib.Core.Path.{◌≡◌, refl}
use native.Mathlib.Nat.{zero-lt-suc}
use lib.IntN.{pos}
use lib.Dec.{T, lit≤, lit<}
use lib.Ieee.{Float, binary32, add, sub, mul, div, of_int, of_bits}
use lib.Ieee.Scale.{finite}
use Rattle.ieee.specs.Constants.{sixty32}
use Rattle.ieee.proofs.Magnitude.{AtMost, Sized}
use Rattle.ieee.proofs.SizesAddUp.{AtLeast, power_of_format, at_most_finite, at_most_wider, sub_at_most, mul_at_most, div_at_most}
use Rattle.limits.proofs.TempoSizes.{tempo_at_most}
use Rattle.rows.proofs.RowValue.{like_48}
use Rattle.order.proofs.OrderedList.{Each}
use Rattle.process_raw.specs.RawLists.{raw_number, raw_numbers}
use Rattle.process_raw.proofs.BothTaken.{both-taken}
use Rattle.process_sm_changes.specs.SmChanges.{sm_changes}
use Rattle.process_sm_machine.specs.declared.Change.{Change}
use Rattle.process_sm_machine.specs.declared.Change.TheVariants.{Tempo, Stop}
use Rattle.process_sm_machine.specs.declared.Opened.{Opened}
use Rattle.process_sm_machine.specs.declared.Warp.{Warp}
use Rattle.process_sm_machine.specs.declared.Warp.TheVariants.{Closed, Open}
use Rattle.process_sm_machine.specs.declared.State.{State}
use Rattle.process_sm_machine.specs.Machine.{endless, owed_at, settled_at, open_chart, beat_at, time_passed, met}
use Rattle.process_sm_walk.specs.Changes.{changes_left}
use Rattle.process_sm_walk.specs.Chart.{opening_tempo, opening_places}
use Rattle.rows.proofs.Allowed.{allowed-sized}
use Rattle.process_sm_laws.specs.Beats.{Beat}
use Rattle.process_sm_laws.proofs.ChangesInOrder.{change_key}
use Rattle.process_sm_laws.proofs.ChangesTaken.{IsTempo, changes-good, changes-most, in_order}
use Rattle.process_sm_laws.proofs.ArrowsKeepBounds.{WarpWithin, Within, between, sixtyfold, seconds, between_at_most, sixtyfold_at_most, seconds_at_most, more_at_most, owed_at_most, rest-within}
use Rattle.process_sm_laws.proofs.WalkWithin.{GoodChange, Along, all-good, all-states}

-- ---- what is reckoned

-- a warp from its start to an end
pub record LengthReckoned (start end : Float) : Type 0 where
  pub length : T (finite (sub binary32 end start))
  pub rows : T (finite (mul binary32 (sub binary32 end start) (of_int binary32 (pos 48))))

-- where nothing was owed, and the warp up to there or without an end
pub record EndReckoned (tempo beat : Float) (start owed : Float) : Type 0 where
  pub product : T (finite (mul binary32 owed tempo))
  pub quotient : T (finite (div binary32 (mul binary32 owed tempo) sixty32))
  pub settled : T (finite (settled_at tempo beat owed))
  pub ended : LengthReckoned start (settled_at tempo beat owed)
  pub unended : LengthReckoned start endless

-- the time from one beat to another in a warp, and the end that it may bring
pub record TimeReckoned (tempo last beat : Float) (warp : Opened) : Type 0 where
  pub beats : T (finite (between last beat))
  pub product : T (finite (sixtyfold last beat))
  pub quotient : T (finite (seconds tempo last beat))
  pub sum : T (finite (add binary32 warp.owed (seconds tempo last beat)))
  pub end : EndReckoned tempo beat warp.start (owed_at tempo last warp.owed beat)

-- a stop in a warp, and the end that it may bring
pub record StopReckoned (beat length : Float) (warp : Opened) : Type 0 where
  pub rest : T (finite (add binary32 warp.owed length))
  pub end : LengthReckoned warp.start beat

-- ---- by state: outside a warp nothing is reckoned
abbrev pub AtTime : Warp → Float → Float → Float → Type 0
AtTime Closed tempo last beat = Unit {0}
AtTime (Open warp) tempo last beat = TimeReckoned tempo last beat warp

abbrev pub AtStop : Warp → Float → Change → Type 0
AtStop Closed beat change = Unit {0}
AtStop (Open warp) beat (Tempo entry) = Unit {0}
AtStop (Open warp) beat (Stop entry) = StopReckoned beat entry.value warp

abbrev pub AtEnd : Warp → Float → Float → Type 0
AtEnd Closed tempo beat = Unit {0}
AtEnd (Open warp) tempo beat = EndReckoned tempo beat warp.start warp.owed

-- all of the walk: the time up to each change, the change, and the end
abbrev pub Reckoned : List Change → State → Type 0
Reckoned [] state = AtEnd state.warp state.tempo state.beat
Reckoned (change ∷ changes) state =
    AtTime state.warp state.tempo state.beat (beat_at change)
    × AtStop (time_passed state change).state.warp (time_passed state change).state.beat change
    × Reckoned changes (met state change).state

-- ---- bounds
sixty_at_least : AtLeast 0 sixty32
unfolding of_bits
sixty_at_least = record { negative = false; num = 60; den = 1; den_pos = zero-lt-suc 0; value = (refl, refl); large = lit≤ tt }

forty_eight : AtMost 48 (of_int binary32 (pos 48))
forty_eight = record { negative = false; num = 48; den = 1; den_pos = zero-lt-suc 0; value = like_48 binary32; small = lit≤ tt }

endless_at_most : Sized 27 endless
unfolding of_bits
endless_at_most = record { negative = false; num = 100000000; den = 1; den_pos = zero-lt-suc 0; value = (refl, refl); small = lit≤ tt }

length_reckoned : (start end : Float) → Beat start → Sized 90 end → LengthReckoned start end
length_reckoned start end b e =
    let long = sub_at_most binary32 (power_of_format binary32 91 (lit≤ tt)) end start e (allowed-sized start b.allowed) (lit≤ tt) in
    record { length = at_most_finite long; rows = at_most_finite (mul_at_most binary32 (power_of_format binary32 97 (lit≤ tt)) (sub binary32 end start) (of_int binary32 (pos 48)) long forty_eight (lit≤ tt)) }

-- at most 4,096 + 1 spans are owed
module _ (tempo beat start owed : Float) (t : IsTempo tempo) (b : Beat beat) (s : Beat start) (o : Sized 56 owed) where
  product_at_most : Sized 86 (mul binary32 owed tempo)
  product_at_most = mul_at_most binary32 (power_of_format binary32 86 (lit≤ tt)) owed tempo o (tempo_at_most false tempo t) (lit≤ tt)

  quotient_at_most : Sized 86 (div binary32 (mul binary32 owed tempo) sixty32)
  quotient_at_most = div_at_most binary32 (power_of_format binary32 86 (lit≤ tt)) (mul binary32 owed tempo) sixty32 product_at_most sixty_at_least (lit≤ tt)

  settled_at_most : Sized 90 (settled_at tempo beat owed)
  settled_at_most = sub_at_most binary32 (power_of_format binary32 90 (lit≤ tt)) beat (div binary32 (mul binary32 owed tempo) sixty32) (allowed-sized beat b.allowed) quotient_at_most (lit≤ tt)

  pub end_reckoned : EndReckoned tempo beat start owed
  end_reckoned = record {
    product = at_most_finite product_at_most;
    quotient = at_most_finite quotient_at_most;
    settled = at_most_finite settled_at_most;
    ended = length_reckoned start (settled_at tempo beat owed) s settled_at_most;
    unended = length_reckoned start endless s (at_most_wider (lit≤ tt) endless_at_most);
  }

time_reckoned : (warp : Warp) (tempo last beat : Float) → WarpWithin 4096 warp → IsTempo tempo → Beat last → Beat beat → AtTime warp tempo last beat
time_reckoned Closed tempo last beat w t l b = tt
time_reckoned (Open warp) tempo last beat w t l b = record {
  beats = at_most_finite (between_at_most tempo last beat t l b);
  product = at_most_finite (sixtyfold_at_most tempo last beat t l b);
  quotient = at_most_finite (seconds_at_most tempo last beat t l b);
  sum = at_most_finite (more_at_most tempo last beat t l b 4096 (lit< tt) warp.owed w.owed);
  end = end_reckoned tempo beat warp.start (owed_at tempo last warp.owed beat) t b w.start (at_most_wider (lit≤ tt) (owed_at_most tempo last beat t l b 4096 (lit< tt) warp.owed w.owed));
}

stop_reckoned : (warp : Warp) (tempo beat : Float) (change : Change) → Within 4096 (record { tempo = tempo; beat = beat; warp = warp }) → GoodChange change → AtStop warp beat change
stop_reckoned Closed tempo beat change w g = tt
stop_reckoned (Open warp) tempo beat (Tempo entry) w g = tt
stop_reckoned (Open warp) tempo beat (Stop entry) w g = record {
  rest = at_most_finite (rest-within 4096 (lit< tt) tempo beat entry.value w.tempo w.beat g.1 warp w.warp);
  end = length_reckoned warp.start beat w.warp.start (at_most_wider (lit≤ tt) (allowed-sized beat w.beat.allowed));
}

at-end : (warp : Warp) (tempo beat : Float) → Within 4096 (record { tempo = tempo; beat = beat; warp = warp }) → AtEnd warp tempo beat
at-end Closed tempo beat w = tt
at-end (Open warp) tempo beat w = end_reckoned tempo beat warp.start warp.owed w.tempo w.beat w.warp.start (at_most_wider (lit≤ tt) w.warp.owed)

walk_reckoned : (changes : List Change) (state : State) → Along (Within 4096) changes state → Each change_key GoodChange changes → Reckoned changes state
walk_reckoned [] state a e = at-end state.warp state.tempo state.beat a.0
walk_reckoned (change ∷ changes) state a e = (
  time_reckoned state.warp state.tempo state.beat (beat_at change) a.0.warp a.0.tempo a.0.beat e.0.0,
  stop_reckoned (time_passed state change).state.warp (time_passed state change).state.tempo (time_passed state change).state.beat change a.1 e.0,
  walk_reckoned changes (met state change).state a.2 e.1,
)

-- ---- of raw lists that are taken
module _ (tempo_beats tempo_values stop_beats stop_values : List Float) (taken : raw_numbers tempo_beats tempo_values stop_beats stop_values ≡ 0) where
  abbrev tempos : List (Float × Float)
  tempos = sm_changes tempo_beats tempo_values

  abbrev stops : List (Float × Float)
  stops = sm_changes stop_beats stop_values

  abbrev opened : State
  opened = (open_chart (opening_tempo tempos)).state

  abbrev changes : List Change
  changes = changes_left tempos stops (opening_places tempos stops)

  t : raw_number tempo_beats tempo_values ≡ 0
  t = (both-taken taken).tempos

  s : raw_number stop_beats stop_values ≡ 0
  s = (both-taken taken).stops

  -- every state of the walk has a taken tempo, allowed beats, and in a warp at most 2 ^ 55 seconds owed, never above 0
  pub sm_states_within : Along (Within 4096) changes opened
  sm_states_within =
      all-states tempos stops (changes-good tempo_beats tempo_values t) (in_order tempo_beats tempo_values t) (changes-good stop_beats stop_values s) (in_order stop_beats stop_values s)
      (changes-most tempo_beats tempo_values t) (changes-most stop_beats stop_values s)

  pub sm_numbers_finite : Reckoned changes opened
  sm_numbers_finite =
      walk_reckoned changes opened sm_states_within
      (all-good tempos stops (changes-good tempo_beats tempo_values t) (in_order tempo_beats tempo_values t) (changes-good stop_beats stop_values s) (in_order stop_beats stop_values s)
      (changes-most tempo_beats tempo_values t) (changes-most stop_beats stop_values s))
