-- A float's pattern by its sign, over the format: without the highest bit it is that of the float's size, and that bit is the sign. Assumes nothing.
use mathlib.Core.Path.{◌≡◌, refl, sym, ap, ap₂, ◌∙◌, subst}
use Prim.Native.Nat.{ℕ, zero, suc, ◌+◌, ◌*◌, ◌/◌, ◌%◌, ◌^◌, ◌<◌}
use native.Mathlib.Nat.{zero-mul, one-mul, add_comm}
use native.Mathlib.Omega.{arith}
use mathlib.Core.Bool.{Bool, true, false, not, cond}
use lib.Arith.{digits_div, digits_mod}
use lib.Dec.{T, ltb}
use lib.Ieee.{Float, nan, inf, fin, Format, prec, low, top, odd, units, round, is_nan, fits, of_bits, to_bits, nan_bits}
use lib.Ieee.Fits.{round_is}
use lib.Ieee.Scale.{overflow}
use lib.Ieee.Bits.{of_bits-to_bits, to_bits-lt, nan_bits_is}
use Rattle.ieee.specs.inside.Spacing.{with_sign}
use Rattle.ieee.specs.Nearest.{sign_of}
use Rattle.ieee.proofs.Pack.{dropped, held}

-- ---- a sign in the place of another
pub own_sign : (x : Float) → with_sign (sign_of x) x ≡ x
unfolding with_sign
own_sign nan = refl
own_sign (inf s) = refl
own_sign (fin s m e) = refl

pub sign-sign : (s t : Bool) (x : Float) → with_sign s (with_sign t x) ≡ with_sign s x
unfolding with_sign
sign-sign s t nan = refl
sign-sign s t (inf u) = refl
sign-sign s t (fin u m e) = refl

pub sign-is : (s : Bool) (x : Float) → T (not (is_nan x)) → sign_of (with_sign s x) ≡ s
unfolding with_sign is_nan
sign-is s nan h = absurd h
sign-is s (inf t) h = refl
sign-is s (fin t m e) h = refl

pub sign-number : (s : Bool) (x : Float) → T (not (is_nan x)) → T (not (is_nan (with_sign s x)))
unfolding with_sign is_nan
sign-number s nan h = h
sign-number s (inf t) h = tt
sign-number s (fin t m e) h = tt

pub sign_fits : (f : Format) (s : Bool) (x : Float) → T (fits f x) → T (fits f (with_sign s x))
unfolding with_sign fits
sign_fits f s nan h = tt
sign_fits f s (inf t) h = tt
sign_fits f s (fin t zero e) h = h
sign_fits f s (fin t (suc m) e) h = h

-- ---- rounding takes the sign as it is
odd-signed : (d : ℕ) (s t : Bool) (q k l : ℕ) → odd d s q k l ≡ with_sign s (odd d t q k l)
unfolding with_sign odd
odd-signed d s t zero k l = refl
odd-signed d s t (suc q) k l = refl

units-signed : (f : Format) (s t : Bool) (q k : ℕ) → units f s q k ≡ with_sign s (units f t q k)
unfolding with_sign units
units-signed f s t q k = go (ltb (q * 2 ^ k) (overflow f))
  where
    go : (b : Bool) → cond b (odd (suc (prec f)) s q k (low f)) (inf s) ≡ with_sign s (cond b (odd (suc (prec f)) t q k (low f)) (inf t))
    go true = odd-signed (suc (prec f)) s t q k (low f)
    go false = refl

pub round-signed : (f : Format) (s t : Bool) (num den : ℕ) → round f s num den ≡ with_sign s (round f t num den)
round-signed f s t num den = round_is f s num den ∙ units-signed f s t (held f num den) (dropped f num den) ∙ ap (with_sign s) (sym (round_is f t num den))

-- ---- the pattern
module _ (f : Format) where
  sign-pattern : (s : Bool) (x : Float) → T (not (is_nan x)) → to_bits f (with_sign s x) ≡ cond s (top f) 0 + to_bits f (with_sign false x)
  unfolding with_sign is_nan to_bits
  sign-pattern s nan h = absurd h
  sign-pattern s (inf t) h = omega arith
  sign-pattern s (fin t m e) h = omega arith

-- t times the highest bit, and what is below it
low_part : (s : Bool) (t m : ℕ) → m < t → (cond s t 0 + m) % t ≡ m
low_part true t m h = ap (λ (k : ℕ). (k + m) % t) (sym (one-mul t)) ∙ digits_mod 1 h
low_part false t m h = ap (λ (k : ℕ). (k + m) % t) (sym (zero-mul t)) ∙ digits_mod 0 h

high_part : (s : Bool) (t m : ℕ) → m < t → (cond s t 0 + m) / t * t ≡ cond s t 0
high_part true t m h = ap (λ (k : ℕ). k * t) (ap (λ (k : ℕ). (k + m) / t) (sym (one-mul t)) ∙ digits_div 1 h) ∙ one-mul t
high_part false t m h = ap (λ (k : ℕ). k * t) (ap (λ (k : ℕ). (k + m) / t) (sym (zero-mul t)) ∙ digits_div 0 h) ∙ zero-mul t

module _ (f : Format) (x : Float) (F : T (fits f x)) (N : T (not (is_nan x))) where
  size-lt : to_bits f (with_sign false x) < top f
  size-lt =
      let l = to_bits-lt f (with_sign true x) (sign_fits f true x F) in
      let e = sign-pattern f true x N in
      omega arith

  by_sign : to_bits f x ≡ cond (sign_of x) (top f) 0 + to_bits f (with_sign false x)
  by_sign = ap (to_bits f) (sym (own_sign x)) ∙ sign-pattern f (sign_of x) x N

  low_bits : to_bits f x % top f ≡ to_bits f (with_sign false x)
  low_bits = ap (λ (b : ℕ). b % top f) by_sign ∙ low_part (sign_of x) (top f) (to_bits f (with_sign false x)) size-lt

  high_bit : to_bits f x / top f * top f ≡ cond (sign_of x) (top f) 0
  high_bit = ap (λ (b : ℕ). b / top f * top f) by_sign ∙ high_part (sign_of x) (top f) (to_bits f (with_sign false x)) size-lt

  pub size_bits : of_bits f (to_bits f x % top f) ≡ with_sign false x
  size_bits = ap (of_bits f) low_bits ∙ of_bits-to_bits f (with_sign false x) (sign_fits f false x F)

module _ (f : Format) (a x : Float) (A : T (fits f a)) (X : T (fits f x)) (NA : T (not (is_nan a))) (NX : T (not (is_nan x))) where
  pub signed_bits : of_bits f (to_bits f a % top f + to_bits f x / top f * top f) ≡ with_sign (sign_of x) a
  signed_bits =
      ap (of_bits f)
      (ap₂ ◌+◌ (low_bits f a A NA) (high_bit f x X NX) ∙ add_comm (to_bits f (with_sign false a)) (cond (sign_of x) (top f) 0) ∙ sym (sign-pattern f (sign_of x) a NA))
      ∙ of_bits-to_bits f (with_sign (sign_of x) a) (sign_fits f (sign_of x) a A)

-- a pattern that stands for a number is no NaN's
pub number_bits : (f : Format) (n : ℕ) (y : Float) → of_bits f n ≡ y → T (not (is_nan y)) → T (not (nan_bits f n))
number_bits f n y e h = subst (λ (t : Bool). T (not t)) (sym (nan_bits_is f n ∙ ap is_nan e)) h
