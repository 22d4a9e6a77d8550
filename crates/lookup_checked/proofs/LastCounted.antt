-- The last entry that counts, as the code finds it: by the place, and by whether the entry there is on the row. Assumes nothing.
use Prim.Native.Nat.{ℕ, ◌+◌, ◌-◌, ◌≤◌}
use mathlib.Core.Path.{◌≡◌, refl, sym, ◌∙◌, subst}
use mathlib.Core.Bool.{Bool, true, false, not}
use mathlib.Core.List.{List}
use mathlib.Core.Logic.{◌⊎◌, inl, inr}
use native.Mathlib.Omega.{arith}
use native.Mathlib.Numerals.{add-one}
use borrow.Author.Tests.{eq-eqb, ne_eqb}
use lib.ListN.{length, get_or}
use lib.Ieee.{Float, nan, le, lt}
use Rattle.ieee.specs.Constants.{plus_zero}
use Rattle.picks.specs.Pick.{pick}
use Rattle.lookup_tests.proofs.RowsRise.{never}
use Rattle.lookup.specs.inside.Finding.{key_at}
use Rattle.lookup.specs.Lookups.{of_last, pauses_on, warp_covers, fake_covers}
use Rattle.lookup.proofs.FoundEntries.{of_next}
use Rattle.lookup_checked.specs.Checked.{is_on_row, last_covers, last_pauses}
use Rattle.lookup_checked.proofs.OnRow.{on_row, off-row}

pub next_last : (test : Float → Float → Bool) (beats values : List Float) (place : ℕ) → of_last test false beats values (place + 1) ≡ test (get_or beats place nan) (get_or values place nan)
next_last test beats values place = rw (add-one place) (of_next test false beats values place)

-- ---- the last before the place
module _ (test : Float → Float → Bool) (place : ℕ) (beats values : List Float) where
  pub none_before : place ≡ 0 → false ≡ of_last test false beats values place
  none_before h = sym (rw (eq-eqb place 0 h))

  pub one-before : (place ≡ 0 → ⊥) → test (get_or beats (place - 1) nan) (get_or values (place - 1) nan) ≡ of_last test false beats values place
  one-before some = sym (rw (ne_eqb place 0 some))

-- ---- of warps and fakes
module _ (test : Float → Float → Bool) (place key : ℕ) (beats values : List Float) where
  pub next_covers_nothing : is_on_row beats place key ≡ true → false ≡ last_covers test place key beats values
  next_covers_nothing t = sym (rw t)

  module _ (alone : is_on_row beats place key ≡ false) where
    pub none-covers : place ≡ 0 → false ≡ last_covers test place key beats values
    none-covers h = sym (rw (alone, eq-eqb place 0 h))

    pub last-tested : (place ≡ 0 → ⊥) → test (get_or beats (place - 1) nan) (get_or values (place - 1) nan) ≡ last_covers test place key beats values
    last-tested some = sym (rw (alone, ne_eqb place 0 some))

-- of the place that is found: it covers, and the next is not on the row; or else
module _ (test : Float → Float → Bool) (place found key : ℕ) (same : place ≡ found) (beats values : List Float) where
  pub last-covers : of_last test false beats values place ≡ true → not (is_on_row beats place key) ≡ true → last_covers test found key beats values ≡ true
  last-covers covered alone = subst (λ (n : ℕ). last_covers test n key beats values ≡ true) same (go (is_on_row beats place key) (of_last test false beats values place) covered alone)
    where
      go : (next last : Bool) → last ≡ true → not next ≡ true → pick next false last ≡ true
      go true last l n = never n
      go false last l n = l

  pub last_covers_nothing : (not (is_on_row beats place key) ≡ false) ⊎ (of_last test false beats values place ≡ false) → last_covers test found key beats values ≡ false
  last_covers_nothing h = subst (λ (n : ℕ). last_covers test n key beats values ≡ false) same (go (is_on_row beats place key) (of_last test false beats values place) h)
    where
      go : (next last : Bool) → (not next ≡ false) ⊎ (last ≡ false) → pick next false last ≡ false
      go true last h = refl
      go false last (inl n) = never (sym n)
      go false last (inr l) = l

-- past the asked beat neither covers
pub warps-end : (at beat value : Float) → le beat at ≡ false → warp_covers at beat value ≡ false
warps-end at beat value h = rw h (go (lt plus_zero value))
  where
    go : (t : Bool) → pick t false false ≡ false
    go true = refl
    go false = refl

pub fakes-end : (at beat value : Float) → le beat at ≡ false → fake_covers at beat value ≡ false
fakes-end at beat value h = rw h

-- ---- of pauses
module _ (place key : ℕ) (beats values : List Float) where
  pub pause_there : is_on_row beats place key ≡ true → lt plus_zero (get_or values place nan) ≡ last_pauses place key beats values
  pause_there t = sym (rw t (next_last (pauses_on key) beats values place ∙ rw (eq-eqb (key_at beats place) key (on_row beats place key t).1)))

  module _ (alone : is_on_row beats place key ≡ false) where
    pub no_pause_first : place ≡ 0 → false ≡ last_pauses place key beats values
    no_pause_first h = sym (rw (alone, eq-eqb place 0 h))

    module _ (some : place ≡ 0 → ⊥) where
      pub pause_before : is_on_row beats (place - 1) key ≡ true → lt plus_zero (get_or values (place - 1) nan) ≡ last_pauses place key beats values
      pause_before t = sym (rw (alone, ne_eqb place 0 some, eq-eqb (key_at beats (place - 1)) key (on_row beats (place - 1) key t).1))

      pub no_pause_before : place ≤ length beats → is_on_row beats (place - 1) key ≡ false → false ≡ last_pauses place key beats values
      no_pause_before h t = sym (rw (alone, ne_eqb place 0 some, ne_eqb (key_at beats (place - 1)) key (off-row beats (place - 1) key (omega arith) t)))
