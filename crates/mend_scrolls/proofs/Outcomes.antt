-- The outcome of mending scrolls: refused by the tests or for want of room, or laid. Assumes nothing.
use mathlib.Core.Path.{◌≡◌, refl, sym, subst, ◌∙◌}
use mathlib.Core.List.{List}
use Prim.Native.Nat.{ℕ, ◌≤◌, ◌<◌, min}
use native.Mathlib.Omega.{arith}
use lib.ListN.{length, take, get_or}
use lib.Ieee.{Float, nan}
use Rattle.limits.proofs.ListTaken.{list-taken}
use Rattle.columns.specs.Each.{laid_each}
use Rattle.columns.specs.Laying.{room_number, refused_by}
use Rattle.columns.proofs.Rooms as rooms
use Rattle.chart.specs.ChartColumns.{ListColumns, list_columns}
use Rattle.tidy_kept.specs.Near.{near_to}
use Rattle.mend_fates.specs.inside.Walking.{WalkedBeats}
use Rattle.mend_fates.proofs.LaidByPlaces.{fates-left, many-written, found-long, fates-laid, beats-laid, values-laid}
use Rattle.mend_scrolls.specs.MendedScrolls.{mended_scrolls, scroll_fates, scroll_tests, ScrollsMended}

module _ (scrolls old : ListColumns) (fates_old : List ℕ) where
  abbrev tests : ℕ
  tests = room_number (scroll_tests scrolls) (length scrolls.beats) (length fates_old)

  abbrev room : ℕ
  room = min (length old.beats) (length old.values)

  -- by the tests, those of the fates' room among them
  refused_with_lem : (n : ℕ) → tests ≡ n → (n ≡ 0 → ⊥) → ScrollsMended scrolls (refused_by n) old old fates_old fates_old
  refused_with_lem n e h =
      subst (λ (m : ℕ). ScrollsMended scrolls (refused_by m) old old fates_old fates_old) e
      (record {
        list = rooms.refused_by_tests tests (mended_scrolls scrolls) old.beats old.values (λ z. h (sym e ∙ z));
        fates_are = fates-left tests (scroll_fates scrolls) fates_old (λ z. h (sym e ∙ z));
      })

  pub refused_by_tests : (scroll_tests scrolls ≡ 0 → ⊥) → ScrollsMended scrolls (refused_by (scroll_tests scrolls)) old old fates_old fates_old
  refused_by_tests h = refused_with_lem (scroll_tests scrolls) (sym (rooms.number_of_tests _ _ _ h)) h

  module _ (h : scroll_tests scrolls ≡ 0) {count : ℕ} {found kept : List ℕ} (w : WalkedBeats nan near_to scrolls.beats scrolls.values count found kept) where
    even : length scrolls.beats ≡ length scrolls.values
    even = (list-taken h).even

    long : length found ≡ length scrolls.beats
    long = found-long nan near_to scrolls.beats scrolls.values even w

    many : count ≡ length (mended_scrolls scrolls)
    many = many-written nan near_to scrolls.beats scrolls.values even w

    pub fates_too_long : length fates_old < length found → ScrollsMended scrolls (refused_by 7) old old fates_old fates_old
    fates_too_long l = refused_with_lem 7 (sym (rooms.number_no_room _ _ _ h (omega (arith, long)))) (λ e. omega arith)

    passed : length found ≤ length fates_old → tests ≡ 0
    passed l = sym (rooms.number-taken _ _ _ h (omega (arith, long)))

    pub list_too_long : length found ≤ length fates_old → room < count → ScrollsMended scrolls (refused_by 7) old old fates_old fates_old
    list_too_long l k = record {
      list = rooms.refused_for_room tests (mended_scrolls scrolls) old.beats old.values (passed l) (omega (arith, many));
      fates_are = fates-left 7 (scroll_fates scrolls) fates_old (λ e. omega arith);
    }

    pub all_laid : {beats_new values_new : List Float} {fates_new : List ℕ} → length found ≤ length fates_old → count ≤ room
        → beats_new ≡ laid_each (λ (p : ℕ). get_or scrolls.beats p nan) (take count kept) old.beats
        → values_new ≡ laid_each (λ (p : ℕ). get_or scrolls.values p nan) (take count kept) old.values
        → fates_new ≡ laid_each (λ (x : ℕ). x) found fates_old
        → ScrollsMended scrolls (record { number = 0; count = count }) old (list_columns beats_new values_new) fates_old fates_new
    all_laid {beats_new} {values_new} l k a b f = record {
      list =
          rooms.taken tests (mended_scrolls scrolls) old.beats old.values count beats_new values_new (passed l) (omega (arith, many)) many
          (beats-laid nan near_to scrolls.beats scrolls.values even w old.beats (omega arith) a)
          (values-laid nan near_to scrolls.beats scrolls.values even w (λ (v : Float). v) scrolls.values nan old.values (λ p. refl) (omega arith) b);
      fates_are = fates-laid nan near_to scrolls.beats scrolls.values even w fates_old l f;
    }
