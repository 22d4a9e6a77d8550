-- What is known of a timing that is taken, and of one whose tempos are filled in. Assumes nothing.
use Rattle.std.proofs.Common.{◌≡◌, ℕ, ◌+◌, Bool, true, false, refl, arith}
use lib.Ieee.{Float}
use Rattle.picks.specs.Pick.{pick}
use Rattle.limits.specs.Numbers.{range_of, in_range}
use Rattle.limits.specs.Refusals.{list_number}
use Rattle.limits.specs.declared.Kind.TheVariants.{Beat, Tempo, Pause, Value, Offset}
use Rattle.limits.proofs.NoRefusal.{lower-none}
use Rattle.limits.proofs.ListTaken.{Taken, list-taken}
use Rattle.chart.specs.Timing.{Timing}
use Rattle.clock_tests.specs.TimingNumbers.{rises, starts_at_zero, timing_lists_number, offset_number, offsets_number, order_number, timing_number, beat_number}

pub record TimingTaken (t : Timing) (offset global : Float) : Type 0 where
  pub tempos : Taken (range_of Beat) (range_of Tempo) t.tempo_beats t.tempo_values
  pub stops : Taken (range_of Beat) (range_of Pause) t.stop_beats t.stop_values
  pub delays : Taken (range_of Beat) (range_of Pause) t.delay_beats t.delay_values
  pub warps : Taken (range_of Beat) (range_of Value) t.warp_beats t.warp_lengths
  pub offset_in : in_range (range_of Offset) offset ≡ true
  pub global_in : in_range (range_of Offset) global ≡ true
  pub tempos_rise : rises t.tempo_beats ≡ true
  pub stops_rise : rises t.stop_beats ≡ true
  pub delays_rise : rises t.delay_beats ≡ true
  pub warps_rise : rises t.warp_beats ≡ true
  pub starts : starts_at_zero t.tempo_beats ≡ true

-- a test that answers 0 was passed
by-test : (b : Bool) (k : ℕ) → pick b 0 (1 + k) ≡ 0 → b ≡ true
by-test true k h = refl
by-test false k h = absurd (omega arith)

by_order : (a b c d e : Bool) → ◌≡◌ {A = ℕ} (pick a (pick b (pick c (pick d (pick e 0 5) 5) 5) 5) 5) 0 → (a ≡ true) × (b ≡ true) × (c ≡ true) × (d ≡ true) × (e ≡ true)
by_order true true true true true h = (refl, refl, refl, refl, refl)
by_order false b c d e h = absurd (omega arith)
by_order true false c d e h = absurd (omega arith)
by_order true true false d e h = absurd (omega arith)
by_order true true true false e h = absurd (omega arith)
by_order true true true true false h = absurd (omega arith)

pub timing-taken : {t : Timing} {offset global : Float} → timing_number t offset global ≡ 0 → TimingTaken t offset global
unfolding timing_number timing_lists_number offsets_number offset_number order_number
timing-taken {t} {offset} {global} h =
    let all = lower-none (timing_lists_number t) _ h in
    let tempos = lower-none (list_number (range_of Beat) (range_of Tempo) t.tempo_beats t.tempo_values) _ all.0 in
    let stops = lower-none (list_number (range_of Beat) (range_of Pause) t.stop_beats t.stop_values) _ tempos.1 in
    let delays = lower-none (list_number (range_of Beat) (range_of Pause) t.delay_beats t.delay_values) _ stops.1 in
    let rest = lower-none (offsets_number offset global) (order_number t) all.1 in
    let offsets = lower-none (offset_number offset) (offset_number global) rest.0 in
    let order = by_order (rises t.tempo_beats) (rises t.stop_beats) (rises t.delay_beats) (rises t.warp_beats) (starts_at_zero t.tempo_beats) rest.1 in
    record {
      tempos = list-taken tempos.0;
      stops = list-taken stops.0;
      delays = list-taken delays.0;
      warps = list-taken delays.1;
      offset_in = by-test (in_range (range_of Offset) offset) 3 offsets.0;
      global_in = by-test (in_range (range_of Offset) global) 3 offsets.1;
      tempos_rise = order.0;
      stops_rise = order.1;
      delays_rise = order.2;
      warps_rise = order.3;
      starts = order.4;
    }

pub beat-taken : (beat : Float) → beat_number beat ≡ 0 → in_range (range_of Beat) beat ≡ true
unfolding beat_number
beat-taken beat h = by-test (in_range (range_of Beat) beat) 2 h
