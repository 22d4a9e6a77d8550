-- What the call is to answer and to lay, by the way that a list goes. Assumes nothing.
use Prim.Native.Nat.{ℕ, ◌≤◌, ◌<◌, min}
use mathlib.Core.Path.{◌≡◌, refl, sym, ap, ◌∙◌}
use mathlib.Core.Bool.{Bool, true, false}
use mathlib.Core.List.{List, [], map}
use lib.Dec.{ltb, eqb}
use borrow.Author.Tests.{le-ltb}
use Rattle.limits.specs.Numbers.{all_in, range_of}
use Rattle.tidy_scrolls.specs.declared.Placed.{Placed}
use Rattle.tidy_kept.specs.inside.Placing.{front_entries, PlacedAll}
use Rattle.tidy_kept.specs.Keeping.{placing_number, row_of, placed, falls_while}
use Rattle.tidy_kept.proofs.PlacedInColumns.{length-listed}
use native.Mathlib.Omega.{arith}
use lib.ListN.{length, length-map}
use lib.Ieee.{Float, nan}
use Rattle.picks.specs.Pick.{pick}
use Rattle.limits.specs.declared.Kind.TheVariants.{Beat, Value}
use Rattle.limits.specs.Refusals.{list_number}
use Rattle.limits.proofs.ListTaken.{list-taken}
use Rattle.order.specs.Order.{run, never_falls}
use Rattle.order.specs.Entries.{entries}
use Rattle.order.proofs.Columns.{length-entries}
use Rattle.columns.specs.Laying.{refused_by}
use Rattle.columns.proofs.Rooms.{refused_by_tests, refused_for_room, taken}
use Rattle.rows.specs.RowKey.{row_key_at, on_its_row}
use Rattle.columns.specs.Laying.{Laid}
use Rattle.tidy_kept.specs.Near.{near_to}
use Rattle.tidy_kept.specs.Passing.{still_written}
use Rattle.tidy_kept.proofs.Answered as answered
use Rattle.tidy_kept.proofs.InOnePass.{in_one_pass, few-written}
use Rattle.tidy_kept.proofs.ColumnsPlaced.{never_falls_entries}
use Rattle.tidy_kept.proofs.NearNothing.{near-nothing}
use Rattle.tidy_scrolls.specs.ScrollTidying.{tidy_scrolls, scrolls_number, ScrollsTidied}
use Rattle.tidy_scrolls.specs.inside.Ways.{no_scroll_held, written_from}

list-few : (long longer even beats values : Bool) → pick {A = ℕ} long 1 (pick longer 1 (pick even (pick beats (pick values 0 4) 3) 2)) ≤ 6
list-few true longer even beats values = omega arith
list-few false true even beats values = omega arith
list-few false false false beats values = omega arith
list-few false false true false values = omega arith
list-few false false true true true = omega arith
list-few false false true true false = omega arith

module _ (beats values : List Float) where
  abbrev es : List (Float × Float)
  es = entries beats values

  abbrev tests : ℕ
  tests = list_number (range_of Beat) (range_of Value) beats values

  tests-few : tests ≤ 6
  unfolding list_number
  tests-few = list-few (ltb 1024 (length beats)) (ltb 1024 (length values)) (eqb (length beats) (length values)) (all_in (range_of Beat) beats) (all_in (range_of Value) values)

  -- refused by the tests of the list
  pub number_of_list : (tests ≡ 0 → ⊥) → scrolls_number beats values ≡ tests
  unfolding scrolls_number
  number_of_list h = answered.tests-first row_key_at near_to es tests h tests-few

  module _ (none : tests ≡ 0) where
    pub even-columns : length beats ≡ length values
    even-columns = (list-taken none).even

    few : length es ≤ 1024
    few = omega (arith, length-entries beats values even-columns, (list-taken none).few)

    rows_so : never_falls (row_of row_key_at near_to) es ≡ never_falls row_key_at beats
    rows_so = never_falls_entries row_key_at near_to beats values even-columns

    module _ (ordered : never_falls row_key_at beats ≡ true) where
      pub ordered-number : scrolls_number beats values ≡ 0
      unfolding scrolls_number
      ordered-number = answered.ordered-number row_key_at near_to es tests none (rows_so ∙ ordered)

      pub ordered-list : tidy_scrolls beats values ≡ written_from no_scroll_held es
      unfolding tidy_scrolls
      ordered-list = ap (map on_its_row) (answered.ordered-list row_key_at near_to es tests none (rows_so ∙ ordered) ∙ in_one_pass row_key_at near_to nan near-nothing 0 (no_scroll_held.beat, no_scroll_held.value) es (rows_so ∙ ordered))

    module _ (unordered : never_falls row_key_at beats ≡ false) where
      pub placed-number : (falls : Bool) → falls ≡ falls_while row_key_at near_to [] es → scrolls_number beats values ≡ pick falls 6 0
      unfolding scrolls_number placing_number
      placed-number falls f = answered.placed-number row_key_at near_to es tests none (rows_so ∙ unordered) few ∙ rw (le-ltb 1024 (length es) few, f)

      pub placed-list : tidy_scrolls beats values ≡ map on_its_row (run (placed row_key_at near_to) [] es)
      unfolding tidy_scrolls
      placed-list = ap (map on_its_row) (answered.placed-list row_key_at near_to es tests none (rows_so ∙ unordered))

-- ---- the outcomes
module _ (beats values beats_old values_old : List Float) where
  pub list-refused : (list_number (range_of Beat) (range_of Value) beats values ≡ 0 → ⊥) → ScrollsTidied beats values (refused_by (list_number (range_of Beat) (range_of Value) beats values)) beats_old beats_old values_old values_old
  list-refused h =
      rw (← number_of_list beats values h) (refused_by_tests (scrolls_number beats values) (tidy_scrolls beats values) beats_old values_old (λ z. h (sym (number_of_list beats values h) ∙ z)))

  module _ (tests : list_number (range_of Beat) (range_of Value) beats values ≡ 0) where
    module _ (ordered : never_falls row_key_at beats ≡ true) where
      kept-many : length (tidy_scrolls beats values) ≡ length (still_written row_key_at near_to no_scroll_held (entries beats values))
      kept-many = ap length (ordered-list beats values tests ordered) ∙ simp length-map

      pub ordered-refused : min (length beats_old) (length values_old) < length (still_written row_key_at near_to no_scroll_held (entries beats values)) → ScrollsTidied beats values (refused_by 7) beats_old beats_old values_old values_old
      ordered-refused h = refused_for_room (scrolls_number beats values) (tidy_scrolls beats values) beats_old values_old (ordered-number beats values tests ordered) (omega (arith, kept-many))

      pub ordered-laid : (count : ℕ) (beats_new values_new : List Float) → length (still_written row_key_at near_to no_scroll_held (entries beats values)) ≤ min (length beats_old) (length values_old)
          → count ≡ length (still_written row_key_at near_to no_scroll_held (entries beats values)) → Laid (written_from no_scroll_held (entries beats values)) beats_old beats_new values_old values_new
          → ScrollsTidied beats values (record { number = 0; count = count }) beats_old beats_new values_old values_new
      ordered-laid count beats_new values_new h c l =
          taken (scrolls_number beats values) (tidy_scrolls beats values) beats_old values_old count beats_new values_new (ordered-number beats values tests ordered) (omega (arith, kept-many)) (c ∙ sym kept-many)
          (rw (ordered-list beats values tests ordered) l.first_is) (rw (ordered-list beats values tests ordered) l.second_is)

    module _ (unordered : never_falls row_key_at beats ≡ false) (kept : Placed) (kept_beats kept_values : List Float) (so : PlacedAll row_key_at near_to (entries beats values) kept.count kept.falls kept_beats kept_values) where
      pub falls-refused : kept.falls ≡ true → ScrollsTidied beats values (refused_by 6) beats_old beats_old values_old values_old
      falls-refused f =
          let six : scrolls_number beats values ≡ 6 = placed-number beats values tests unordered true (sym f ∙ so.falling) in
          rw (← six) (refused_by_tests (scrolls_number beats values) (tidy_scrolls beats values) beats_old values_old (λ z. omega (arith, six, z)))

      module _ (f : kept.falls ≡ false) (room : kept.count ≤ length kept_beats) (room' : kept.count ≤ length kept_values) where
        zero_so : scrolls_number beats values ≡ 0
        zero_so = placed-number beats values tests unordered false (sym f ∙ so.falling)

        list_so : tidy_scrolls beats values ≡ map on_its_row (front_entries kept.count kept_beats kept_values)
        list_so = placed-list beats values tests unordered ∙ ap (map on_its_row) (sym (so.all f))

        many_so : length (tidy_scrolls beats values) ≡ kept.count
        many_so = ap length list_so ∙ simp length-map (length-listed kept.count kept_beats kept_values room room')

        pub placed-refused : min (length beats_old) (length values_old) < kept.count → ScrollsTidied beats values (refused_by 7) beats_old beats_old values_old values_old
        placed-refused h = refused_for_room (scrolls_number beats values) (tidy_scrolls beats values) beats_old values_old zero_so (omega (arith, many_so))

        pub placed-laid : (beats_new values_new : List Float) → kept.count ≤ min (length beats_old) (length values_old) → Laid (map on_its_row (front_entries kept.count kept_beats kept_values)) beats_old beats_new values_old values_new
            → ScrollsTidied beats values (record { number = 0; count = kept.count }) beats_old beats_new values_old values_new
        placed-laid beats_new values_new h l =
            taken (scrolls_number beats values) (tidy_scrolls beats values) beats_old values_old kept.count beats_new values_new zero_so (omega (arith, many_so)) (sym many_so)
            (rw list_so l.first_is) (rw list_so l.second_is)

pub few-kept : (beats values : List Float) → length (still_written row_key_at near_to no_scroll_held (entries beats values)) ≤ length (entries beats values)
few-kept beats values = few-written row_key_at near_to no_scroll_held (entries beats values) refl
