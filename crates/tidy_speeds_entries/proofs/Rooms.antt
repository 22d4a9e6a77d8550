-- A refusal leaves the four rooms as they were, and a taken call lays its result over their fronts. Assumes nothing.
use Prim.Native.Nat.{ℕ, ◌≤◌, ◌<◌, min}
use mathlib.Core.Path.{◌≡◌, refl, sym, ap, ◌∙◌}
use mathlib.Core.List.{List, []}
use native.Mathlib.Omega.{arith}
use lib.ListN.{length}
use lib.Ieee.{Float}
use borrow.Author.Tests.{eq-eqb, ne_eqb, le-leb, lt-leb}
use Rattle.order.specs.Order.{laid}
use Rattle.columns.specs.Laying.{room_number, refused_by, given}
use Rattle.columns.proofs.Rooms.{nothing-given}
use Rattle.tidy_speeds_entries.specs.Speed.{SpeedEntry}
use Rattle.tidy_speeds_entries.specs.LaidSpeeds.{least_of, LaidSpeeds}
use Rattle.tidy_speeds_entries.specs.inside.LaidRooms.{LaidRooms}

module _ (tests : ℕ) (result : List SpeedEntry) (beats_old ratios_old delays_old : List Float) (units_old : List ℕ) where
  left_alone : (n : ℕ) → (n ≡ 0 → ⊥) → n ≡ room_number tests (length result) (least_of (length beats_old) (length ratios_old) (length delays_old) (length units_old)) → LaidSpeeds tests result (refused_by n) beats_old beats_old ratios_old ratios_old delays_old delays_old units_old units_old
  unfolding laid
  left_alone n h e =
      record {
        number = e;
        count = rw (nothing-given result n h);
        beats_are = rw (nothing-given result n h);
        ratios_are = rw (nothing-given result n h);
        delays_are = rw (nothing-given result n h);
        units_are = rw (nothing-given result n h);
      }

  -- by the tests before
  pub refused_by_tests : (tests ≡ 0 → ⊥) → LaidSpeeds tests result (refused_by tests) beats_old beats_old ratios_old ratios_old delays_old delays_old units_old units_old
  unfolding room_number
  refused_by_tests h = left_alone tests h (rw (ne_eqb tests 0 h))

  -- for want of room
  pub refused_for_room : tests ≡ 0 → (least_of (length beats_old) (length ratios_old) (length delays_old) (length units_old)) < length result → LaidSpeeds tests result (refused_by 7) beats_old beats_old ratios_old ratios_old delays_old delays_old units_old units_old
  unfolding room_number
  refused_for_room h l = left_alone 7 (λ e. omega arith) (rw (eq-eqb tests 0 h, lt-leb _ _ l))

  pub taken : (count : ℕ) (beats_new ratios_new delays_new : List Float) (units_new : List ℕ) → tests ≡ 0 → length result ≤ (least_of (length beats_old) (length ratios_old) (length delays_old) (length units_old)) → count ≡ length result
      → LaidRooms result beats_old beats_new ratios_old ratios_new delays_old delays_new units_old units_new → LaidSpeeds tests result (record { number = 0; count = count }) beats_old beats_new ratios_old ratios_new delays_old delays_new units_old units_new
  unfolding room_number given
  taken count beats_new ratios_new delays_new units_new h l c r =
      record { number = rw (eq-eqb tests 0 h, le-leb _ _ l); count = c; beats_are = r.beats_are; ratios_are = r.ratios_are; delays_are = r.delays_are; units_are = r.units_are }
