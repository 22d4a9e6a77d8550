-- Over lists that `check_lookups` takes, each checked lookup answers what its tested twin answers, whatever is asked. Assumes nothing.
use Prim.Native.Nat.{ℕ, zero, suc, ◌+◌, ◌-◌, ◌≤◌, ◌<◌}
use mathlib.Core.Path.{◌≡◌, refl, sym, ap, ◌∙◌, subst}
use mathlib.Core.Bool.{Bool, true, false}
use mathlib.Core.List.{List}
use mathlib.Core.Logic.{⊎_elim, inl, inr}
use native.Mathlib.Omega.{arith}
use native.Mathlib.Numerals.{add-one}
use borrow.Author.Tests.{leb-true}
use lib.Dec.{T}
use lib.IntN.{ℤ, nat_abs}
use lib.Signed.{le_z}
use lib.ListN.{length, get_or}
use lib.Ieee.{Float, nan, binary32, le}
use lib.Ieee.Bits.{is_true}
use Rattle.picks.specs.Pick.{pick}
use Rattle.ieee.proofs.FloatOrder.{lt_or_le, lt_le}
use Rattle.rows.specs.Rows.{row, beat_of, allowed_beat}
use Rattle.rows.proofs.RowsKeepOrder.{row_mono}
use Rattle.rows.proofs.RowOfBeat.{row_of_beat}
use Rattle.rows.proofs.RowWithin.{row_within, in_i32}
use Rattle.rows.proofs.BeatsRise.{beat-allowed}
use Rattle.limits.specs.declared.Range.{Range}
use Rattle.limits.specs.declared.Kind.TheVariants.{Beat, Pause, Value}
use Rattle.limits.specs.Numbers.{range_of, in_range, row_in, most_row}
use Rattle.limits.specs.Refusals.{lower}
use Rattle.limits.proofs.NoRefusal.{lower-none}
use Rattle.limits.proofs.ListTaken.{Taken}
use Rattle.limits.proofs.Every.{every-at}
use Rattle.rows.specs.RowKey.{row_key}
use Rattle.order.proofs.Compare.{below?}
use Rattle.rows.proofs.RowKeys.{rows_at_most}
use Rattle.order_search.specs.Search.{place_of, SplitBy}
use Rattle.order_search.proofs.PlaceSplits.{place-splits}
use Rattle.ieee.proofs.FloatsInOrder.{float_le_trans}
use Rattle.lookup_tests.proofs.RowsRise.{Rising, rises}
use Rattle.lookup.specs.inside.Finding.{key_at, Passed, Split}
use Rattle.lookup.specs.Lookups.{ListColumns, WarpLists, LookupLists, but_fakes, key_of, rows_rise, rising_number, asked_number, warp_number, fake_number, judgable_number, warp_covers, fake_covers, of_last, last_passes, is_paused, is_warped, is_fake, is_judgable, asked_row, looked}
use Rattle.lookup.proofs.UsableLists.{rising-taken}
use Rattle.lookup.proofs.FoundEntries.{passed_to, past-from, last_found, pause_found_lem}
use Rattle.rows.proofs.Allowed.{taken-allowed, allowed-finite}
use Rattle.lookup_checked.specs.Checked.{is_on_row, last_covers, paused_by, unpaused_by, fake_by, warped_by, judgable_by, at_row}
use Rattle.lookup_checked.specs.SameAnswers.{SameAnswers}
use Rattle.lookup_checked.proofs.OffRow.{row-allowed}
use Rattle.lookup_checked.proofs.OnRow.{on_row, off-row}
use Rattle.lookup_checked.proofs.LastCounted.{next_last, warps-end, fakes-end}
use Rattle.lookup_checked.proofs.AnswersAtRow.{asked-allowed}

-- ---- a list: the entries that count are just those at or before the row
module _ (value : Range) (beats values : List Float) (taken : rising_number value beats values ≡ 0) (asked : ℤ) (allowed : nat_abs asked ≤ most_row) where
  list-is : Taken (range_of Beat) value beats values × (rows_rise beats ≡ true)
  list-is = rising-taken value beats values taken

  beat_in_lem : (place : ℕ) → place < length beats → T (allowed_beat (get_or beats place nan))
  beat_in_lem place h = taken-allowed (get_or beats place nan) (every-at (in_range (range_of Beat)) beats place nan list-is.0.beats_in h)

  abbrev at : Float
  at = beat_of binary32 asked

  own_row : row binary32 at ≡ asked
  own_row = row_of_beat binary32 binary32 asked allowed

  keys_follow : (x y : Float) → T (allowed_beat x) → T (allowed_beat y) → T (le x y) → key_of x ≤ key_of y
  keys_follow x y p q h =
      leb-true (key_of x) (key_of y)
      (sym (rows_at_most (row binary32 x) (row binary32 y) (in_i32 (row binary32 x) (row_within binary32 x p)) (in_i32 (row binary32 y) (row_within binary32 y q))) ∙ is_true (le_z (row binary32 x) (row binary32 y)) (row_mono binary32 x y p q h))

  own_key : key_of at ≡ row_key asked
  own_key = ap row_key own_row

  -- an entry up to the row's beat is at or before the row, and one that is past it is at or behind it
  up-to : (place : ℕ) → place < length beats → le (get_or beats place nan) at ≡ true → key_at beats place ≤ row_key asked
  up-to place h e =
      omega (arith, keys_follow (get_or beats place nan) at (beat_in_lem place h) (beat-allowed binary32 asked allowed) (subst T (sym e) tt), own_key)

  past : (place : ℕ) → place < length beats → le (get_or beats place nan) at ≡ false → row_key asked ≤ key_at beats place
  past place h e =
      let beat = get_or beats place nan in
      let p = beat_in_lem place h in
      let q = beat-allowed binary32 asked allowed in
      let above : T (le at beat) = ⊎_elim (λ l. lt_le at beat l) (λ l. absurd (subst T e l)) (lt_or_le at beat (allowed-finite at q) (allowed-finite beat p)) in
      omega (arith, keys_follow at beat q p above, own_key)

  rising : Rising beats
  rising = rises beats list-is.1

  -- beats whose rows rise have those up to the row's beat first
  first : (i j : ℕ) → i ≤ j → j < length beats → le (get_or beats j nan) at ≡ true → le (get_or beats i nan) at ≡ true
  first i j h l e = elim (below? i j) [
    | inl less ↦
        let x = get_or beats i nan in
        let y = get_or beats j nan in
        let p = beat_in_lem i (omega arith) in
        let q = beat_in_lem j l in
        let up : T (le x y) = ⊎_elim (λ t. lt_le x y t) (λ t. absurd (omega (arith, keys_follow y x q p t, rising i j less l))) (lt_or_le x y (allowed-finite x p) (allowed-finite y q)) in
        is_true (le x at) (float_le_trans x y at up (subst T (sym e) tt))
    | inr same ↦ let one : i ≡ j = omega arith in rw one e
  ]

  abbrev place : ℕ
  place = place_of at beats

  ends : SplitBy at beats place
  ends = place-splits at beats first

  before-passed : Passed (row_key asked) beats place
  before-passed = go place refl
    where
      go : (n : ℕ) → n ≡ place → Passed (row_key asked) beats n
      go zero e = (omega arith, λ i l. absurd (omega arith))
      go (suc m) e =
          let inside : m < length beats = omega (arith, ends.within) in
          let last = up-to m inside (ends.before m (omega arith)) in
          rw (sym (add-one m)) (passed_to (row_key asked) beats rising m inside last)

  -- the entries that count
  abbrev counted : ℕ
  counted = pick (is_on_row beats place (row_key asked)) (place + 1) place

  pub counted-splits : Split (row_key asked) beats counted
  counted-splits = go (is_on_row beats place (row_key asked)) refl
    where
      go : (t : Bool) → is_on_row beats place (row_key asked) ≡ t → Split (row_key asked) beats (pick t (place + 1) place)
      go true e =
          let on = on_row beats place (row_key asked) e in
          record {
            passed = passed_to (row_key asked) beats rising place on.0 (omega (arith, on.1));
            past = λ i h l. omega (arith, rising place i (omega arith) l, on.1);
          }
      go false e = record { passed = before-passed; past = λ i h l. past-from (row_key asked) beats rising place (behind (omega arith) e) i h l }
        where
          behind : place < length beats → is_on_row beats place (row_key asked) ≡ false → row_key asked < key_at beats place
          behind h e = let least = past place h (ends.after place (omega arith) h) in omega (arith, off-row beats place (row_key asked) h e)

  -- so its last entry is the tested one, and so is a pause
  module _ (test : Float → Float → Bool) (only : (beat value : Float) → le beat at ≡ false → test beat value ≡ false) where
    last-is : last_covers test place (row_key asked) beats values ≡ of_last test false beats values counted
    last-is = go (is_on_row beats place (row_key asked)) refl
      where
        go : (t : Bool) → is_on_row beats place (row_key asked) ≡ t → pick t false (of_last test false beats values place) ≡ of_last test false beats values (pick t (place + 1) place)
        go true e = sym (next_last test beats values place ∙ only (get_or beats place nan) (get_or values place nan) (ends.after place (omega arith) (on_row beats place (row_key asked) e).0))
        go false e = refl

    pub last-same : last_covers test place (row_key asked) beats values ≡ last_passes test (row_key asked) false beats values
    last-same = last-is ∙ sym (last_found test (row_key asked) false beats values counted list-is.0.even counted-splits)

  pub pause_same : paused_by at (row_key asked) beats values ≡ is_paused (row_key asked) beats values
  pause_same = sym (pause_found_lem (row_key asked) beats values counted list-is.0.even rising counted-splits)

-- ---- the questions
module _ (asked : ℤ) (allowed : nat_abs asked ≤ most_row) where
  fake-same : (fakes : ListColumns) → rising_number (range_of Value) fakes.beats fakes.values ≡ 0 → at_row (fake_by fakes) asked ≡ is_fake fakes asked
  unfolding fake_by is_fake
  fake-same fakes f = last-same (range_of Value) fakes.beats fakes.values f asked allowed (fake_covers (beat_of binary32 asked)) (fakes-end (beat_of binary32 asked))

  warp-same : (lists : WarpLists) → rising_number (range_of Pause) lists.stops.beats lists.stops.values ≡ 0
      → rising_number (range_of Pause) lists.delays.beats lists.delays.values ≡ 0
      → rising_number (range_of Value) lists.warps.beats lists.warps.values ≡ 0
      → at_row (warped_by lists) asked ≡ is_warped lists asked
  unfolding warped_by unpaused_by is_warped
  warp-same lists s d w =
      rw (
        last-same (range_of Value) lists.warps.beats lists.warps.values w asked allowed (warp_covers (beat_of binary32 asked)) (warps-end (beat_of binary32 asked)),
        pause_same (range_of Pause) lists.stops.beats lists.stops.values s asked allowed,
        pause_same (range_of Pause) lists.delays.beats lists.delays.values d asked allowed,
      )

-- ---- the numbers: of lists that are taken only what is asked counts
same : (allowed : Bool) (number : ℕ) (checked tested : Bool) → number ≡ asked_number allowed → (allowed ≡ true → checked ≡ tested) → looked (asked_number allowed) checked ≡ looked number tested
unfolding looked
same true number checked tested n h = rw (n, h refl)
same false number checked tested n h = rw n

twice : (allowed : Bool) → lower (asked_number allowed) (asked_number allowed) ≡ asked_number allowed
unfolding lower
twice true = refl
twice false = refl

module _ (lists : LookupLists) (checked : judgable_number lists true ≡ 0) where
  both : (warp_number (but_fakes lists) true ≡ 0) × (fake_number lists.fakes true ≡ 0)
  both = lower-none _ _ checked

  pauses : (rising_number (range_of Pause) lists.stops.beats lists.stops.values ≡ 0) × (rising_number (range_of Pause) lists.delays.beats lists.delays.values ≡ 0)
  pauses = lower-none _ _ (lower-none _ _ both.0).0

  warps : rising_number (range_of Value) lists.warps.beats lists.warps.values ≡ 0
  warps = (lower-none _ _ (lower-none _ _ both.0).1).0

  fakes : rising_number (range_of Value) lists.fakes.beats lists.fakes.values ≡ 0
  fakes = (lower-none _ _ both.1).0

  module _ (asked : ℤ) (allowed : nat_abs asked ≤ most_row) where
    warp_as_tested : at_row (warped_by (but_fakes lists)) asked ≡ is_warped (but_fakes lists) asked
    warp_as_tested = warp-same asked allowed (but_fakes lists) pauses.0 pauses.1 warps

    fake_as_tested : at_row (fake_by lists.fakes) asked ≡ is_fake lists.fakes asked
    fake_as_tested = fake-same asked allowed lists.fakes fakes

    judgable_as_tested : at_row (judgable_by lists) asked ≡ is_judgable lists asked
    unfolding judgable_by is_judgable
    judgable_as_tested = rw (warp_as_tested, fake_as_tested)

  module _ (allowed : Bool) where
    of_warps : warp_number (but_fakes lists) allowed ≡ asked_number allowed
    unfolding lower
    of_warps = rw (pauses.0, pauses.1, warps)

    of_fakes : fake_number lists.fakes allowed ≡ asked_number allowed
    unfolding lower
    of_fakes = rw fakes

    of_all_lem : judgable_number lists allowed ≡ asked_number allowed
    of_all_lem = rw (of_warps, of_fakes) (twice allowed)

  pub checked_is_tested_lem : SameAnswers lists
  checked_is_tested_lem = record {
    warp_at_row = λ asked. same (row_in asked) _ _ _ (of_warps (row_in asked)) (λ h. warp_as_tested asked (row-allowed asked h));
    warp_at_beat = λ beat. same (in_range (range_of Beat) beat) _ _ _ (of_warps (in_range (range_of Beat) beat)) (λ h. warp_as_tested (asked_row beat) (asked-allowed beat h));
    fake_at_row = λ asked. same (row_in asked) _ _ _ (of_fakes (row_in asked)) (λ h. fake_as_tested asked (row-allowed asked h));
    fake_at_beat = λ beat. same (in_range (range_of Beat) beat) _ _ _ (of_fakes (in_range (range_of Beat) beat)) (λ h. fake_as_tested (asked_row beat) (asked-allowed beat h));
    judgable_at_row = λ asked. same (row_in asked) _ _ _ (of_all_lem (row_in asked)) (λ h. judgable_as_tested asked (row-allowed asked h));
    judgable_at_beat = λ beat. same (in_range (range_of Beat) beat) _ _ _ (of_all_lem (in_range (range_of Beat) beat)) (λ h. judgable_as_tested (asked_row beat) (asked-allowed beat h));
  }
