-- From floats to their patterns: what a pattern's digits and power say of the float; a multiply-add of floats is that of what their patterns stand for; and what the tests of finiteness say. Assumes nothing.
use Rattle.std.proofs.Common.{◌≡◌, ℕ, ◌*◌, ◌%◌, ◌^◌, ◌<◌, ◌≤◌, Bool, true, false, not, ◌&&◌, T, leb, sym, ap, ◌∙◌, subst, inl, inr, eq-zero-or-pos, mul-zero, zero-mul, arith, pow_pos, le-ltb}
use lib.Ieee.{Float, Format, binary64, hid, ones, top, fits, add, sub, mul, eq, to_bits, of_bits, nan_bits}
use lib.Ieee.Bits.{of_bits-to_bits, nan_bits_above}
use lib.Ieee.Exact.{HasValue}
use lib.Ieee.Scale.{finite}
use Rattle.ieee.specs.Constants.{plus_zero}
use Rattle.ieee.specs.inside.PatternParts.{field_of, digits_of, power_of}
use Rattle.ieee.proofs.FiniteTest.{finite-test}
use Rattle.ieee.proofs.PatternValue.{pattern-value, finite-field}
use Rattle.ieee_mul_add.specs.MulAdd.{mul_add}
use Rattle.ieee_mul_add.specs.inside.FinitePatterns.{FinitePatterns}
use Rattle.ieee_mul_add.proofs.ByFractions.{zero-product}

-- a pattern of no more than an infinity's size is no NaN
pub no_nan : (f : Format) (n : ℕ) → n % top f ≤ ones f * hid f → T (not (nan_bits f n))
no_nan f n h = subst (λ (b : Bool). T (not b)) (sym (nan_bits_above f n ∙ le-ltb (ones f * hid f) (n % top f) h)) tt

-- ---- a finite f64 by its pattern
abbrev pub bits_of : Float → ℕ
bits_of x = to_bits binary64 x

abbrev pub minus_bit : Float → Bool
minus_bit x = leb (2 ^ 63) (bits_of x)

module _ (x : Float) (F : T (fits binary64 x)) (X : T (finite x)) where
  -- its exponent's field is not all ones
  pub finite_bits : field_of binary64 (bits_of x) < 2047
  finite_bits = finite-field binary64 (bits_of x) (subst (λ (y : Float). T (finite y)) (sym (of_bits-to_bits binary64 x F)) X)

  -- it is its digits times its power of two, in units of the smallest f64
  pub float_value : HasValue x (minus_bit x) (digits_of binary64 (bits_of x) * 2 ^ power_of binary64 (bits_of x)) (2 ^ 1074)
  float_value = subst (λ (y : Float). HasValue y (minus_bit x) (digits_of binary64 (bits_of x) * 2 ^ power_of binary64 (bits_of x)) (2 ^ 1074)) (of_bits-to_bits binary64 x F) (pattern-value binary64 (bits_of x) finite_bits)

-- ---- three finite floats by their patterns
pub record AllFinite (x y z : Float) : Type 0 where
  pub fits_x : T (fits binary64 x)
  pub fits_y : T (fits binary64 y)
  pub fits_z : T (fits binary64 z)
  pub finite_x : T (finite x)
  pub finite_y : T (finite y)
  pub finite_z : T (finite z)

module _ (f : Format) (x y z : Float) (K : AllFinite x y z) where
  -- a multiply-add of the three is that of what their patterns stand for
  pub by_patterns : mul_add f (of_bits binary64 (bits_of x)) (of_bits binary64 (bits_of y)) (of_bits binary64 (bits_of z)) ≡ mul_add f x y z
  by_patterns =
      ap (λ (v : Float). mul_add f v (of_bits binary64 (bits_of y)) (of_bits binary64 (bits_of z))) (of_bits-to_bits binary64 x K.fits_x)
      ∙ ap (λ (v : Float). mul_add f x v (of_bits binary64 (bits_of z))) (of_bits-to_bits binary64 y K.fits_y)
      ∙ ap (λ (v : Float). mul_add f x y v) (of_bits-to_bits binary64 z K.fits_z)

  -- a factor without digits is 0, and the two operations give it
  zero-digits : digits_of binary64 (bits_of x) * digits_of binary64 (bits_of y) ≡ 0 → add f (mul f x y) z ≡ mul_add f x y z
  zero-digits e =
      let m = digits_of binary64 (bits_of x) in
      let n = digits_of binary64 (bits_of y) in
      let i = 2 ^ power_of binary64 (bits_of x) in
      let j = 2 ^ power_of binary64 (bits_of y) in
      zero-product f x y z (minus_bit x) (minus_bit y) (m * i) (n * j) (2 ^ 1074) (2 ^ 1074) (pow_pos 1074) (pow_pos 1074) (float_value x K.fits_x K.finite_x) (float_value y K.fits_y K.finite_y) K.finite_z (nothing m n i j e)
    where
      nothing : (m n i j : ℕ) → m * n ≡ 0 → m * i * (n * j) ≡ 0
      nothing m n i j e = let g = ap (λ (k : ℕ). k * (i * j)) e in omega arith

  -- the first
  pub zero-first : (m : ℕ) → m ≡ digits_of binary64 (bits_of x) → m ≡ 0 → add f (mul f x y) z ≡ mul_add f x y z
  zero-first m e h = zero-digits (ap (λ (k : ℕ). k * digits_of binary64 (bits_of y)) (sym e ∙ h) ∙ zero-mul (digits_of binary64 (bits_of y)))

  -- the second
  pub zero-second : (n : ℕ) → n ≡ digits_of binary64 (bits_of y) → n ≡ 0 → add f (mul f x y) z ≡ mul_add f x y z
  zero-second n e h = zero-digits (ap (λ (k : ℕ). digits_of binary64 (bits_of x) * k) (sym e ∙ h) ∙ mul-zero (digits_of binary64 (bits_of x)))

  -- what the functions on patterns ask
  pub all_finite_bits : (m n : ℕ) → m ≡ digits_of binary64 (bits_of x) → n ≡ digits_of binary64 (bits_of y) → (m ≡ 0 → ⊥) → (n ≡ 0 → ⊥)
      → FinitePatterns (bits_of x) (bits_of y) (bits_of z)
  all_finite_bits m n e g h k =
      record {
        finite_a = finite_bits x K.fits_x K.finite_x;
        finite_b = finite_bits y K.fits_y K.finite_y;
        finite_c = finite_bits z K.fits_z K.finite_z;
        some_a = above_zero (digits_of binary64 (bits_of x)) (λ o. h (e ∙ o));
        some_b = above_zero (digits_of binary64 (bits_of y)) (λ o. k (g ∙ o));
      }
    where
      above_zero : (n : ℕ) → (n ≡ 0 → ⊥) → 0 < n
      above_zero n h = elim (eq-zero-or-pos n) [ inl z ↦ absurd (h z) | inr p ↦ p ]

-- ---- what the tests of finiteness say
pub not_finite : (f : Format) (x : Float) → eq (sub f x x) plus_zero ≡ false → T (not (finite x))
not_finite f x h = subst (λ (t : Bool). T (not t)) (sym h ∙ finite-test f x) tt

-- the tests are nested, so one that fails leaves not all finite
pub not_first : (a b : Bool) → T (not a) → T (not (a && b))
not_first true b h = absurd h
not_first false b h = tt

pub not_second : (a b : Bool) → T (not b) → T (not (a && b))
not_second true b h = h
not_second false b h = tt
