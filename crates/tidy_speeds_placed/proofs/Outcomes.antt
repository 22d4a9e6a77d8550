-- What placing is to answer and to lay. Assumes nothing.
use Prim.Native.Nat.{ℕ, ◌≤◌, ◌<◌}
use mathlib.Core.Path.{◌≡◌, sym, ap, ◌∙◌}
use mathlib.Core.Bool.{Bool, true, false}
use mathlib.Core.List.{List, [], map}
use native.Mathlib.Omega.{arith}
use lib.ListN.{length, length-map}
use lib.Ieee.{Float}
use borrow.Author.Tests.{lt-ltb, le-ltb}
use Rattle.picks.specs.Pick.{pick}
use Rattle.order.specs.Order.{run}
use Rattle.columns.specs.Laying.{refused_by}
use Rattle.rows.specs.RowKey.{row_key_at}
use Rattle.tidy_kept.specs.Keeping.{placed, falls_while, placing_number}
use Rattle.tidy_kept.specs.inside.Placing.{front_entries, PlacedAll}
use Rattle.tidy_kept.proofs.PlacedInColumns.{length-listed}
use Rattle.tidy_speeds_entries.specs.Speed.{SpeedValue, SpeedEntry, near_speed, speed_values, speed_on_row}
use Rattle.tidy_speeds_entries.specs.LaidSpeeds.{least_of, LaidSpeeds}
use Rattle.tidy_speeds_entries.specs.inside.LaidRooms.{LaidRooms}
use Rattle.tidy_speeds_entries.proofs.SpeedColumns.{many-values}
use Rattle.tidy_speeds_entries.proofs.Rooms.{refused_by_tests, refused_for_room, taken}

module _ (list : List SpeedEntry) (beats_old ratios_old delays_old : List Float) (units_old : List ℕ) where
  abbrev number : ℕ
  number = placing_number row_key_at near_speed list

  abbrev result : List SpeedEntry
  result = map speed_on_row (run (placed row_key_at near_speed) [] list)

  pub too_long : 1024 < length list → LaidSpeeds number result (refused_by 1) beats_old beats_old ratios_old ratios_old delays_old delays_old units_old units_old
  too_long h =
      let one : number ≡ 1 = unfold placing_number in rw (lt-ltb 1024 (length list) h) in
      rw (← one) (refused_by_tests number result beats_old ratios_old delays_old units_old (λ z. omega (arith, one, z)))

  module _ (short : length list ≤ 1024) (count : ℕ) (falls : Bool) (kept_beats kept_ratios kept_delays : List Float) (kept_units : List ℕ)
      (so : PlacedAll row_key_at near_speed list count falls kept_beats (speed_values kept_ratios kept_delays kept_units)) where
    abbrev kept_values : List SpeedValue
    kept_values = speed_values kept_ratios kept_delays kept_units

    number_so : number ≡ pick (falls_while row_key_at near_speed [] list) 6 0
    unfolding placing_number
    number_so = rw (le-ltb 1024 (length list) short)

    pub falls-refused : falls ≡ true → LaidSpeeds number result (refused_by 6) beats_old beats_old ratios_old ratios_old delays_old delays_old units_old units_old
    falls-refused f =
        let six : number ≡ 6 = number_so ∙ rw (sym so.falling ∙ f) in
        rw (← six) (refused_by_tests number result beats_old ratios_old delays_old units_old (λ z. omega (arith, six, z)))

    module _ (f : falls ≡ false) (room : count ≤ length kept_beats) (ratios_room : count ≤ length kept_ratios) (delays_room : count ≤ length kept_delays) (units_room : count ≤ length kept_units) where
      room' : count ≤ length kept_values
      room' = omega (arith, many-values kept_ratios kept_delays kept_units)

      zero_so : number ≡ 0
      zero_so = number_so ∙ rw (sym so.falling ∙ f)

      list_so : result ≡ map speed_on_row (front_entries count kept_beats kept_values)
      list_so = ap (map speed_on_row) (sym (so.all f))

      many_so : length result ≡ count
      many_so = ap length list_so ∙ simp length-map (length-listed count kept_beats kept_values room room')

      pub placed-refused : least_of (length beats_old) (length ratios_old) (length delays_old) (length units_old) < count → LaidSpeeds number result (refused_by 7) beats_old beats_old ratios_old ratios_old delays_old delays_old units_old units_old
      placed-refused h = refused_for_room number result beats_old ratios_old delays_old units_old zero_so (omega (arith, many_so))

      pub placed-laid : (beats_new ratios_new delays_new : List Float) (units_new : List ℕ) → count ≤ least_of (length beats_old) (length ratios_old) (length delays_old) (length units_old)
          → LaidRooms (map speed_on_row (front_entries count kept_beats kept_values)) beats_old beats_new ratios_old ratios_new delays_old delays_new units_old units_new → LaidSpeeds number result (record { number = 0; count = count }) beats_old beats_new ratios_old ratios_new delays_old delays_new units_old units_new
      placed-laid beats_new ratios_new delays_new units_new h l =
          taken number result beats_old ratios_old delays_old units_old count beats_new ratios_new delays_new units_new zero_so (omega (arith, many_so)) (sym many_so) (rw list_so l)
