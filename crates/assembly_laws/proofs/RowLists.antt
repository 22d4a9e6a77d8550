-- A row list as assembly writes it passes the tests of the clock and of the lookups: its numbers are taken, and its rows rise strictly, as f64 and as f32. Assumes nothing.
use Prim.Native.Nat.{ℕ, ◌≤◌}
use mathlib.Core.Path.{◌≡◌, refl, sym, ap, ◌∙◌}
use mathlib.Core.Bool.{Bool, true, false}
use mathlib.Core.List.{List, [], ◌∷◌, map}
use borrow.Author.Tests.{lt-ltb, eq-eqb}
use lib.Signed.{lt_z}
use lib.Ieee.{Float, binary32, binary64}
use Rattle.picks.specs.Pick.{pick}
use Rattle.rows.specs.Rows.{row}
use Rattle.rows.proofs.RowWithin.{row_within, in_i32}
use Rattle.limits.specs.declared.Range.{Range}
use Rattle.limits.specs.declared.Kind.TheVariants.{Beat, Value, Pause}
use Rattle.limits.specs.Numbers.{range_of, in_range, all_in, every}
use Rattle.limits.specs.Refusals.{list_number}
use Rattle.limits.proofs.Every.{every_rest}
use Rattle.limits.proofs.ListTaken.{list-taken}
use Rattle.order.specs.Order.{Above, Rises}
use Rattle.order.specs.Entries.{first, second}
use Rattle.rows.specs.RowKey.{row_key}
use Rattle.rows.proofs.RowKeys.{rows-below}
use Rattle.clock_tests.specs.TimingNumbers.{rises_from, rises}
use Rattle.lookup.specs.Lookups.{is_below, rows_rise, rising_number}
use Rattle.assembly_rows.specs.AssembledRows.{assembled_rows, assembled_number}
use Rattle.assembly_rows.proofs.WrittenRises.{row_key_in, written-rises}
use Rattle.assembly_rows.proofs.WrittenTaken.{written-taken, written_pauses_taken}
use Rattle.rows.proofs.Allowed.{taken-allowed}

-- ---- rows that rise by key rise by the tests

-- f64 rows, as the clock compares them
above-rises : (a : Float) (beats : List Float) → in_range (range_of Beat) a ≡ true → all_in (range_of Beat) beats ≡ true → Above (row_key_in binary64) (row_key_in binary64 a) beats → Rises (row_key_in binary64) beats → rises_from (row binary64 a) beats ≡ true
unfolding rises_from every
above-rises a [] i h k r = refl
above-rises a (b ∷ beats) i h k r =
    let both = every_rest (in_range (range_of Beat)) b beats h in
    let wa = row_within binary64 a (taken-allowed a i) in
    let wb = row_within binary64 b (taken-allowed b both.0) in
    let below : lt_z (row binary64 a) (row binary64 b) ≡ true = rows-below (row binary64 a) (row binary64 b) (in_i32 (row binary64 a) wa) (in_i32 (row binary64 b) wb) ∙ lt-ltb (row_key_in binary64 a) (row_key_in binary64 b) k.0 in
    rw below (above-rises b beats both.0 both.1 r.0 r.1)

pub key-rises : (beats : List Float) → all_in (range_of Beat) beats ≡ true → Rises (row_key_in binary64) beats → rises beats ≡ true
unfolding rises
key-rises [] h r = refl
key-rises (b ∷ beats) h r = let both = every_rest (in_range (range_of Beat)) b beats h in above-rises b beats both.0 both.1 r.0 r.1

-- f32 rows, as the lookups compare them
first_below : (b : Float) (beats : List Float) → Above (row_key_in binary32) (row_key_in binary32 b) beats → is_below b beats ≡ true
unfolding is_below
first_below b [] k = refl
first_below b (next ∷ beats) k = lt-ltb (row_key_in binary32 b) (row_key_in binary32 next) k.0

pub key_rises32 : (beats : List Float) → Rises (row_key_in binary32) beats → rows_rise beats ≡ true
unfolding rows_rise
key_rises32 [] r = refl
key_rises32 (b ∷ beats) r = rw (first_below b beats r.0) (key_rises32 beats r.1)

-- ---- the tests of one list

pub record TidyRows (range : Range) (list : List (Float × Float)) : Type 0 where
  -- by the clock, and by SM stops: taken, and rising
  pub taken : list_number (range_of Beat) range (map first list) (map second list) ≡ 0
  pub rising : rises (map first list) ≡ true
  -- by the lookups
  pub found : rising_number range (map first list) (map second list) ≡ 0

rising-number : (range : Range) (beats values : List Float) → list_number (range_of Beat) range beats values ≡ 0 → rows_rise beats ≡ true → rising_number range beats values ≡ 0
unfolding rising_number
rising-number range beats values h r = rw (eq-eqb (list_number (range_of Beat) range beats values) 0 h, r)

module _ (change : Float → Float) (beats values : List Float) (h : assembled_number change beats values ≡ 0) where
  tidy-by : (range : Range) → list_number (range_of Beat) range (map first (assembled_rows change beats values)) (map second (assembled_rows change beats values)) ≡ 0 → TidyRows range (assembled_rows change beats values)
  tidy-by range taken = record {
    taken = taken;
    rising = key-rises (map first (assembled_rows change beats values)) (list-taken taken).beats_in (written-rises change beats values h binary64);
    found = rising-number range (map first (assembled_rows change beats values)) (map second (assembled_rows change beats values)) taken (key_rises32 (map first (assembled_rows change beats values)) (written-rises change beats values h binary32));
  }

  -- warps and fakes
  pub lengths-tidy : TidyRows (range_of Value) (assembled_rows change beats values)
  lengths-tidy = tidy-by (range_of Value) (written-taken change beats values h)

  -- stops and delays
  pub pauses-tidy : TidyRows (range_of Pause) (assembled_rows change beats values)
  pauses-tidy = tidy-by (range_of Pause) (written_pauses_taken change beats values h)
