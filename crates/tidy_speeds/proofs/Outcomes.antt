-- What the call is to answer and to lay, by the way that a list goes. Assumes nothing.
use Prim.Native.Nat.{ℕ, ◌≤◌}
use mathlib.Core.Path.{◌≡◌, ap, ◌∙◌}
use mathlib.Core.Bool.{Bool, true, false}
use mathlib.Core.List.{List, [], map}
use native.Mathlib.Omega.{arith}
use lib.Dec.{ltb, eqb}
use lib.ListN.{length}
use lib.Ieee.{Float}
use Rattle.picks.specs.Pick.{pick}
use Rattle.limits.specs.declared.Kind.TheVariants.{Beat, Value}
use Rattle.limits.specs.Numbers.{range_of, all_in, units_in}
use Rattle.order.specs.Order.{run, never_falls}
use Rattle.columns.specs.Laying.{refused_by}
use Rattle.rows.specs.RowKey.{row_key_at}
use Rattle.tidy_kept.specs.Keeping.{row_of, placed, placing_number}
use Rattle.tidy_kept.proofs.Answered as answered
use Rattle.tidy_kept.proofs.ColumnsPlaced.{never_falls_entries}
use Rattle.tidy_speeds_entries.specs.Speed.{SpeedEntry, near_speed, speed_values, speed_entries, speed_on_row}
use Rattle.tidy_speeds_entries.proofs.SpeedColumns.{many-values, many-speeds}
use Rattle.tidy_speeds_entries.proofs.Rooms.{refused_by_tests}
use Rattle.tidy_speeds_ordered.specs.OrderedSpeeds.{kept_speeds}
use Rattle.tidy_speeds_ordered.proofs.KeptInOnePass.{kept_in_order}
use Rattle.tidy_speeds.specs.SpeedTidying.{values_number, speed_list_number, tidy_speeds, speeds_number, SpeedsTidied}
use Rattle.tidy_speeds.proofs.ListTaken.{speeds-taken}

-- what the tests of a list answer, test by test
abbrev answer : (long long' long'' long''' even even' even'' beats ratios delays units : Bool) → ℕ
answer long long' long'' long''' even even' even'' beats ratios delays units =
    pick long 1 (pick long' 1 (pick long'' 1 (pick long''' 1 (pick even (pick even' (pick even'' (pick beats (pick ratios (pick delays (pick units 0 4) 4) 4) 3) 2) 2) 2))))

pick_few : (b : Bool) (m n : ℕ) → m ≤ 6 → n ≤ 6 → pick b m n ≤ 6
pick_few true m n h k = h
pick_few false m n h k = k

answer-few : (long long' long'' long''' even even' even'' beats ratios delays units : Bool) → answer long long' long'' long''' even even' even'' beats ratios delays units ≤ 6
answer-few long long' long'' long''' even even' even'' beats ratios delays units =
    pick_few long 1 _ (omega arith) (pick_few long' 1 _ (omega arith) (pick_few long'' 1 _ (omega arith) (pick_few long''' 1 _ (omega arith)
    (pick_few even _ 2 (pick_few even' _ 2 (pick_few even'' _ 2 (pick_few beats _ 3 (pick_few ratios _ 4 (pick_few delays _ 4 (pick_few units 0 4 (omega arith) (omega arith)) (omega arith)) (omega arith)) (omega arith)) (omega arith)) (omega arith)) (omega arith)))))

module _ (beats ratios delays : List Float) (units : List ℕ) where
  abbrev es : List SpeedEntry
  es = speed_entries beats ratios delays units

  abbrev tests : ℕ
  tests = speed_list_number beats ratios delays units

  tests-few : tests ≤ 6
  unfolding speed_list_number values_number
  tests-few =
      answer-few (ltb 1024 (length beats)) (ltb 1024 (length ratios)) (ltb 1024 (length delays)) (ltb 1024 (length units)) (eqb (length beats) (length ratios)) (eqb (length beats) (length delays)) (eqb (length beats) (length units))
      (all_in (range_of Beat) beats) (all_in (range_of Value) ratios) (all_in (range_of Value) delays) (units_in units)

  -- refused by the tests of the list
  pub list-refused : (beats_old ratios_old delays_old : List Float) (units_old : List ℕ) → (tests ≡ 0 → ⊥)
      → SpeedsTidied beats ratios delays units (refused_by tests) beats_old beats_old ratios_old ratios_old delays_old delays_old units_old units_old
  unfolding speeds_number
  list-refused beats_old ratios_old delays_old units_old h =
      rw (answered.tests-first row_key_at near_speed es tests h tests-few) (refused_by_tests tests (tidy_speeds beats ratios delays units) beats_old ratios_old delays_old units_old h)

  module _ (none : tests ≡ 0) where
    even : length beats ≡ length (speed_values ratios delays units)
    even = let taken = speeds-taken none in omega (arith, many-values ratios delays units, taken.ratios_even, taken.delays_even, taken.units_even)

    few : length es ≤ 1024
    few = omega (arith, many-speeds ratios delays units beats, (speeds-taken none).few)

    rows_so : never_falls (row_of row_key_at near_speed) es ≡ never_falls row_key_at beats
    rows_so = never_falls_entries row_key_at near_speed beats (speed_values ratios delays units) even

    module _ (ordered : never_falls row_key_at beats ≡ true) where
      pub ordered-number : speeds_number beats ratios delays units ≡ 0
      unfolding speeds_number
      ordered-number = answered.ordered-number row_key_at near_speed es tests none (rows_so ∙ ordered)

      pub ordered-list : tidy_speeds beats ratios delays units ≡ map speed_on_row (kept_speeds es)
      unfolding tidy_speeds
      ordered-list = ap (map speed_on_row) (answered.ordered-list row_key_at near_speed es tests none (rows_so ∙ ordered) ∙ kept_in_order es (rows_so ∙ ordered))

    module _ (unordered : never_falls row_key_at beats ≡ false) where
      pub placed-number : speeds_number beats ratios delays units ≡ placing_number row_key_at near_speed es
      unfolding speeds_number
      placed-number = answered.placed-number row_key_at near_speed es tests none (rows_so ∙ unordered) few

      pub placed-list : tidy_speeds beats ratios delays units ≡ map speed_on_row (run (placed row_key_at near_speed) [] es)
      unfolding tidy_speeds
      placed-list = ap (map speed_on_row) (answered.placed-list row_key_at near_speed es tests none (rows_so ∙ unordered))
