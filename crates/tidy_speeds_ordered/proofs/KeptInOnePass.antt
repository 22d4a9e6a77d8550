-- What the pass writes is what is kept of speeds in order, and no more than come; and the outcomes. Assumes nothing.
use Prim.Native.Nat.{ℕ, ◌≤◌, ◌<◌}
use mathlib.Core.Path.{◌≡◌, refl}
use mathlib.Core.Bool.{true}
use mathlib.Core.List.{List, [], map, reverse}
use native.Mathlib.Omega.{arith}
use lib.Ieee.{Float}
use Rattle.columns.specs.Laying.{refused_by}
use lib.ListN.{length, length-map}
use Rattle.order.specs.Order.{run, never_falls}
use Rattle.rows.specs.RowKey.{row_key_at}
use Rattle.tidy_kept.specs.Keeping.{row_of, keep}
use Rattle.tidy_kept.proofs.InOnePass.{in_one_pass, few-written}
use Rattle.tidy_speeds_entries.specs.Speed.{SpeedEntry, near_speed, no_speed, speed_on_row}
use Rattle.tidy_speeds_entries.specs.LaidSpeeds.{least_of, LaidSpeeds}
use Rattle.tidy_speeds_entries.specs.inside.LaidRooms.{LaidRooms}
use Rattle.tidy_speeds_entries.proofs.Rooms.{refused_for_room, taken}
use Rattle.tidy_speeds_entries.proofs.NearNoSpeed.{near_no_speed}
use Rattle.tidy_speeds_ordered.specs.OrderedSpeeds.{no_speed_held, kept_speeds}

pub few-kept : (list : List SpeedEntry) → length (kept_speeds list) ≤ length list
few-kept list = few-written row_key_at near_speed no_speed_held list refl

pub kept_in_order : (list : List SpeedEntry) → never_falls (row_of row_key_at near_speed) list ≡ true → reverse (run (keep row_key_at near_speed) [] list) ≡ kept_speeds list
kept_in_order list h = in_one_pass row_key_at near_speed no_speed near_no_speed 0 (no_speed_held.beat, no_speed) list h

module _ (list : List SpeedEntry) (beats_old ratios_old delays_old : List Float) (units_old : List ℕ) where
  many-rows : length (map speed_on_row (kept_speeds list)) ≡ length (kept_speeds list)
  many-rows = simp length-map

  pub ordered-refused : least_of (length beats_old) (length ratios_old) (length delays_old) (length units_old) < length (kept_speeds list)
      → LaidSpeeds 0 (map speed_on_row (kept_speeds list)) (refused_by 7) beats_old beats_old ratios_old ratios_old delays_old delays_old units_old units_old
  ordered-refused h = refused_for_room 0 (map speed_on_row (kept_speeds list)) beats_old ratios_old delays_old units_old refl (omega (arith, many-rows))

  pub ordered-laid : (count : ℕ) (beats_new ratios_new delays_new : List Float) (units_new : List ℕ)
      → length (kept_speeds list) ≤ least_of (length beats_old) (length ratios_old) (length delays_old) (length units_old) → count ≡ length (kept_speeds list)
      → LaidRooms (map speed_on_row (kept_speeds list)) beats_old beats_new ratios_old ratios_new delays_old delays_new units_old units_new
      → LaidSpeeds 0 (map speed_on_row (kept_speeds list)) (record { number = 0; count = count }) beats_old beats_new ratios_old ratios_new delays_old delays_new units_old units_new
  ordered-laid count beats_new ratios_new delays_new units_new h c l =
      taken 0 (map speed_on_row (kept_speeds list)) beats_old ratios_old delays_old units_old count beats_new ratios_new delays_new units_new refl (omega (arith, many-rows)) (omega (arith, many-rows)) l
