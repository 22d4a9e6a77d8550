-- A NaN by its pattern and by the test that it differs from itself, over the format. Assumes nothing.
use Prim.Native.Nat.{ℕ, ◌%◌, ◌*◌, ◌≤◌, ◌<◌}
use mathlib.Core.Path.{◌≡◌, refl, sym, ◌∙◌}
use mathlib.Core.Bool.{true, false, not}
use native.Mathlib.Omega.{arith}
use lib.Dec.{T}
use borrow.Author.Tests.{lt-ltb, le-ltb}
use lib.Ieee.{Float, nan, inf, fin, Format, hid, ones, top, is_nan, nan_bits, ne, eq, of_bits}
use lib.Ieee.Bits.{nan_bits_is, nan_bits_above}

is-nan : (x : Float) → is_nan x ≡ true → x ≡ nan
unfolding is_nan
is-nan nan e = refl
is-nan (inf s) e = let z : ◌≡◌ {A = ℕ} 0 1 = cc in absurd (omega arith)
is-nan (fin s m k) e = let z : ◌≡◌ {A = ℕ} 0 1 = cc in absurd (omega arith)

module _ (f : Format) (bits : ℕ) where
  -- above an infinity's pattern, the sign aside, stand the NaNs
  pub nan_pattern : ones f * hid f < bits % top f → nan ≡ of_bits f bits
  nan_pattern h = sym (is-nan (of_bits f bits) (sym (nan_bits_is f bits) ∙ nan_bits_above f bits ∙ lt-ltb _ _ h))

  pub number-pattern : bits % top f ≤ ones f * hid f → T (not (nan_bits f bits))
  number-pattern h = rw (nan_bits_above f bits, le-ltb _ _ h) tt

-- what equals itself is no NaN
pub number_is : (x : Float) → ne x x ≡ false → T (not (is_nan x))
unfolding ne eq is_nan
number_is nan e = let z : ◌≡◌ {A = ℕ} 0 1 = cc in absurd (omega arith)
number_is (inf s) e = tt
number_is (fin s m k) e = tt
