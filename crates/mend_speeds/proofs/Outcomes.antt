-- The outcome of mending speeds: refused by the tests or for want of room, or laid. Assumes nothing.
use mathlib.Core.Path.{◌≡◌, ap, sym, subst, ◌∙◌}
use mathlib.Core.List.{List}
use Prim.Native.Nat.{ℕ, ◌≤◌, ◌<◌}
use native.Mathlib.Omega.{arith}
use lib.ListN.{length, take, get_or}
use lib.Ieee.{Float, nan}
use Rattle.columns.specs.Each.{laid_each}
use Rattle.columns.specs.Laying.{room_number, refused_by}
use Rattle.columns.proofs.Rooms.{number_of_tests, number_no_room, number-taken}
use Rattle.chart.specs.ChartColumns.{SpeedColumns, speed_columns}
use Rattle.tidy_speeds_entries.specs.Speed.{SpeedValue, near_speed, no_speed, speed_values}
use Rattle.tidy_speeds_entries.specs.LaidSpeeds.{least_length}
use Rattle.tidy_speeds_entries.proofs.Rooms as rooms
use Rattle.tidy_speeds.proofs.ListTaken.{speeds-taken}
use Rattle.mend_fates.specs.inside.Walking.{WalkedBeats}
use Rattle.mend_fates.proofs.LaidByPlaces.{fates-left, many-written, found-long, fates-laid, beats-laid, values-laid}
use Rattle.mend_speeds.specs.MendedSpeeds.{mended_speeds, speed_fates, speed_tests, SpeedsMended}
use Rattle.mend_speeds.specs.inside.EvenValues.{EvenValues}
use Rattle.mend_speeds.proofs.SpeedAtPlace.{values-long, speed_at_place}

-- ---- a list that is taken has columns of one length
module _ (speeds : SpeedColumns) (h : speed_tests speeds ≡ 0) where
  pub even-values : EvenValues speeds.ratios speeds.delays speeds.units
  even-values =
      let taken = speeds-taken h in
      record { delays_even = sym taken.ratios_even ∙ taken.delays_even; units_even = sym taken.ratios_even ∙ taken.units_even }

  pub few-speeds : length speeds.beats ≤ 1024
  few-speeds = (speeds-taken h).few

  pub ratios-even : length speeds.beats ≡ length speeds.ratios
  ratios-even = (speeds-taken h).ratios_even

  even : length speeds.beats ≡ length (speed_values speeds.ratios speeds.delays speeds.units)
  even = ratios-even ∙ sym (values-long even-values)

module _ (speeds old : SpeedColumns) (fates_old : List ℕ) where
  abbrev values : List SpeedValue
  values = speed_values speeds.ratios speeds.delays speeds.units

  abbrev tests : ℕ
  tests = room_number (speed_tests speeds) (length speeds.beats) (length fates_old)

  -- by the tests, those of the fates' room among them
  refused_with_lem : (n : ℕ) → tests ≡ n → (n ≡ 0 → ⊥) → SpeedsMended speeds (refused_by n) old old fates_old fates_old
  refused_with_lem n e h =
      subst (λ (m : ℕ). SpeedsMended speeds (refused_by m) old old fates_old fates_old) e
      (record {
        list = rooms.refused_by_tests tests (mended_speeds speeds) old.beats old.ratios old.delays old.units (λ z. h (sym e ∙ z));
        fates_are = fates-left tests (speed_fates speeds) fates_old (λ z. h (sym e ∙ z));
      })

  pub refused_by_tests : (speed_tests speeds ≡ 0 → ⊥) → SpeedsMended speeds (refused_by (speed_tests speeds)) old old fates_old fates_old
  refused_by_tests h = refused_with_lem (speed_tests speeds) (sym (number_of_tests _ _ _ h)) h

  module _ (h : speed_tests speeds ≡ 0) {count : ℕ} {found kept : List ℕ} (w : WalkedBeats no_speed near_speed speeds.beats values count found kept) where
    long : length found ≡ length speeds.beats
    long = found-long no_speed near_speed speeds.beats values (even speeds h) w

    many : count ≡ length (mended_speeds speeds)
    many = many-written no_speed near_speed speeds.beats values (even speeds h) w

    pub fates_too_long : length fates_old < length found → SpeedsMended speeds (refused_by 7) old old fates_old fates_old
    fates_too_long l = refused_with_lem 7 (sym (number_no_room _ _ _ h (omega (arith, long)))) (λ e. omega arith)

    passed : length found ≤ length fates_old → tests ≡ 0
    passed l = sym (number-taken _ _ _ h (omega (arith, long)))

    pub list_too_long : length found ≤ length fates_old → least_length old < count → SpeedsMended speeds (refused_by 7) old old fates_old fates_old
    list_too_long l k = record {
      list = rooms.refused_for_room tests (mended_speeds speeds) old.beats old.ratios old.delays old.units (passed l) (omega (arith, many));
      fates_are = fates-left 7 (speed_fates speeds) fates_old (λ e. omega arith);
    }

    pub all_laid : {beats_new ratios_new delays_new : List Float} {units_new fates_new : List ℕ} → length found ≤ length fates_old → count ≤ least_length old
        → beats_new ≡ laid_each (λ (p : ℕ). get_or speeds.beats p nan) (take count kept) old.beats
        → ratios_new ≡ laid_each (λ (p : ℕ). get_or speeds.ratios p nan) (take count kept) old.ratios
        → delays_new ≡ laid_each (λ (p : ℕ). get_or speeds.delays p nan) (take count kept) old.delays
        → units_new ≡ laid_each (λ (p : ℕ). get_or speeds.units p 0) (take count kept) old.units
        → fates_new ≡ laid_each (λ (x : ℕ). x) found fates_old
        → SpeedsMended speeds (record { number = 0; count = count }) old (speed_columns beats_new ratios_new delays_new units_new) fates_old fates_new
    all_laid {beats_new} {ratios_new} {delays_new} {units_new} l k b r d u f =
        let same = even speeds h in
        let at = speed_at_place (even-values speeds h) in
        record {
          list =
              rooms.taken tests (mended_speeds speeds) old.beats old.ratios old.delays old.units count beats_new ratios_new delays_new units_new (passed l) (omega (arith, many)) many
              (record {
                beats_are = beats-laid no_speed near_speed speeds.beats values same w old.beats (omega arith) b;
                ratios_are = values-laid no_speed near_speed speeds.beats values same w (λ (v : SpeedValue). v.0) speeds.ratios nan old.ratios (λ p. ap (λ (v : SpeedValue). v.0) (at p)) (omega arith) r;
                delays_are = values-laid no_speed near_speed speeds.beats values same w (λ (v : SpeedValue). v.1.0) speeds.delays nan old.delays (λ p. ap (λ (v : SpeedValue). v.1.0) (at p)) (omega arith) d;
                units_are = values-laid no_speed near_speed speeds.beats values same w (λ (v : SpeedValue). v.1.1) speeds.units 0 old.units (λ p. ap (λ (v : SpeedValue). v.1.1) (at p)) (omega arith) u;
              });
          fates_are = fates-laid no_speed near_speed speeds.beats values same w fates_old l f;
        }
