-- A run that is refused leaves its columns, and one that is taken has a place for each time and answers all. Assumes nothing.
use Prim.Native.Nat.{ℕ, ◌<◌, ◌≤◌}
use mathlib.Core.List.{List}
use mathlib.Core.Path.{◌≡◌, ◌∙◌, subst}
use native.Mathlib.Omega.{arith}
use lib.ListN.{length}
use lib.Ieee.{Float}
use Rattle.order.specs.Order.{laid}
use Rattle.columns.specs.Laying.{room_number, given}
use Rattle.columns.proofs.Rooms.{nothing-given, number_of_tests, number_no_room, number-taken}
use Rattle.columns.proofs.EachOverFront.{each_over_front}
use Rattle.chart.specs.Timing.{Timing}
use Rattle.clock_tests.specs.TimingNumbers.{timing_number}
use Rattle.clock_by_time.specs.BeatAt.{beat_info_checked}
use Rattle.clock_by_time.specs.ManyTimes.{InfoColumns, freeze_mark, delay_mark, shortest_of, info_places, BeatInfosLaid}
use Rattle.clock_by_time.specs.declared.BeatInfo.{BeatInfo}
use Rattle.clock_by_time.specs.inside.AllTimes.{RoomFor, AllTimes}

pub answered-alike : {first second : Float → BeatInfo} {times : List Float} {old new : InfoColumns} → first ≡ second → AllTimes first times old new → AllTimes second times old new
answered-alike {first} {second} {times} {old} {new} same all = subst (λ (answer : Float → BeatInfo). AllTimes answer times old new) same all

module _ (t : Timing) (offset global : Float) (times : List Float) (old : InfoColumns) where
  left_alone : (n : ℕ) → (n ≡ 0 → ⊥) → n ≡ room_number (timing_number t offset global) (length times) (info_places old) → BeatInfosLaid t offset global times n old old
  unfolding laid
  left_alone n h e = record {
    number_is = e;
    numbers_are = rw (nothing-given times n h);
    beats_are = rw (nothing-given times n h);
    freezes_are = rw (nothing-given times n h);
    delays_are = rw (nothing-given times n h);
    counts_are = rw (nothing-given times n h);
  }

  pub refused-run : (n : ℕ) → n ≡ timing_number t offset global → (n ≡ 0 → ⊥) → BeatInfosLaid t offset global times n old old
  refused-run n e h = left_alone n h (e ∙ number_of_tests _ _ _ (λ z. h (e ∙ z)))

  pub run_without_room : timing_number t offset global ≡ 0 → info_places old < length times → BeatInfosLaid t offset global times 7 old old
  run_without_room e l = left_alone 7 (λ z. omega arith) (number_no_room _ _ _ e l)

  module _ (l : length times ≤ info_places old) where
    pub room_for_all : RoomFor (length times) old
    unfolding shortest_of
    room_for_all = record { in_numbers = omega arith; in_beats = omega arith; in_freezes = omega arith; in_delays = omega arith; in_counts = omega arith }

    pub taken-run : (new : InfoColumns) → timing_number t offset global ≡ 0 → AllTimes (beat_info_checked t offset global) times old new → BeatInfosLaid t offset global times 0 old new
    unfolding given
    taken-run new e all =
        let r = room_for_all in
        record {
          number_is = number-taken _ _ _ e l;
          numbers_are = all.numbers_are ∙ each_over_front (λ (time : Float). (beat_info_checked t offset global time).number) times old.numbers r.in_numbers;
          beats_are = all.beats_are ∙ each_over_front (λ (time : Float). (beat_info_checked t offset global time).beat) times old.beats r.in_beats;
          freezes_are = all.freezes_are ∙ each_over_front (λ (time : Float). freeze_mark (beat_info_checked t offset global time)) times old.freezes r.in_freezes;
          delays_are = all.delays_are ∙ each_over_front (λ (time : Float). delay_mark (beat_info_checked t offset global time)) times old.delays r.in_delays;
          counts_are = all.counts_are ∙ each_over_front (λ (time : Float). (beat_info_checked t offset global time).count) times old.counts r.in_counts;
        }
