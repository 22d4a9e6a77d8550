-- `mul_add` is what IEEE 754 asks of fusedMultiplyAdd, clause by clause, and nothing else is (specs/AsIeeeSays.antt); over the format.
-- Besides: the factors may change places, a factor of 1 leaves an ordinary sum, and the format holds the result. Assumes nothing.
use Rattle.std.proofs.Common.{◌≡◌, ℕ, zero, suc, ◌+◌, ◌*◌, ◌<◌, Bool, true, false, cond, not, ◌&&◌, T, eqb, ltb, ℤ, pos, negsuc, ◌+ℤ◌, ◌*ℤ◌, neg_ℤ, nat_abs, sym, refl, ap, ◌∙◌, subst, ap₂, inl, inr, mul_comm, eq-zero-or-pos, mul-pos, mul-zero, zero-mul, arith, ne_eqb}
use mathlib.Core.Bool.{beq}
use lib.Ieee.{Float, nan, inf, fin, Format, up, down, unlike, round, sum, add, fits}
use lib.Ieee.Fits.{round-fits, cond-fits, nan-fits, inf-fits, add-fits, down_pos}
use lib.Ieee.Scale.{finite}
use Rattle.ieee.specs.Rounding.{signed}
use Rattle.ieee.specs.Nearest.{Fraction, sign_of, TiesToEven}
use Rattle.ieee.proofs.Distance.{signed_mul}
use Rattle.ieee.proofs.NearestValue.{round_ties_to_even}
use Rattle.ieee.proofs.NearestValueUnique.{round_is_only}
use Rattle.ieee.proofs.SignedSizes.{negative, nat_abs_signed, signed_is}
use Rattle.ieee.proofs.SumBySigns.{RoundsTo, sum-rounds, exact_zero_sum}
use Rattle.ieee.proofs.SumByValue.{sum_same}
use Rattle.ieee_mul_add.specs.MulAdd.{fraction_plus, mul_add, exactly}
use Rattle.ieee_mul_add.specs.AsIeeeSays.{FusedMultiplyAdd}

-- ---- a product by its sign and its size
pub signed_product : (s t : Bool) (a b : ℕ) → signed s a *ℤ signed t b ≡ signed (unlike s t) (a * b)
signed_product s false a b = signed_mul s a b ∙ ap (λ (q : Bool). signed q (a * b)) (plus-sign s)
  where
    plus-sign : (s : Bool) → s ≡ unlike s false
    plus-sign true = refl
    plus-sign false = refl
signed_product s true a zero = none s a ∙ sym (ap (signed (unlike s true)) (mul-zero a) ∙ zero-signed (unlike s true))
  where
    zero-signed : (q : Bool) → signed q 0 ≡ pos 0
    zero-signed true = refl
    zero-signed false = refl

    none : (s : Bool) (a : ℕ) → signed s a *ℤ pos 0 ≡ pos 0
    none s a = signed_mul s a 0 ∙ ap (signed s) (mul-zero a) ∙ zero-signed s
signed_product false true a (suc b) = refl
signed_product true true zero (suc b) = ap (λ (n : ℕ). neg_ℤ (pos n)) (zero-mul (suc b)) ∙ sym (ap pos (zero-mul (suc b)))
signed_product true true (suc a) (suc b) = refl

-- the exact sum of ±a times ±b and ±p, over the bottoms c and g
exact-top : (s t u : Bool) (a b p c g : ℕ) → signed s a *ℤ signed t b *ℤ pos g +ℤ signed u p *ℤ pos c ≡ signed (unlike s t) (a * b * g) +ℤ signed u (p * c)
exact-top s t u a b p c g = ap₂ ◌+ℤ◌ (ap (λ (q : ℤ). q *ℤ pos g) (signed_product s t a b) ∙ signed_mul (unlike s t) (a * b) g) (signed_mul u p c)

-- a number that is not 0 has one sign and one size
one-sign : (v s : Bool) (m n : ℕ) → 0 < n → signed v m ≡ signed s n → (v ≡ s) × (m ≡ n)
one-sign v s m n N e =
    let k : m ≡ n = sym (nat_abs_signed v m) ∙ ap nat_abs e ∙ nat_abs_signed s n in
    (sym (sign_of_lem v m (subst (λ (i : ℕ). 0 < i) (sym k) N)) ∙ ap negative e ∙ sign_of_lem s n N, k)
  where
    sign_of_lem : (s : Bool) (n : ℕ) → 0 < n → negative (signed s n) ≡ s
    sign_of_lem false n h = refl
    sign_of_lem true zero h = absurd (omega arith)
    sign_of_lem true (suc n) h = refl

module _ (f : Format) where
  -- ---- between numbers: x * y + z as if exact, and rounded once
  pub rounded-once : (x y z : Float) → T (finite x) → T (finite y) → T (finite z) → RoundsTo f (exactly x y z).top (exactly x y z).bottom (mul_add f x y z)
  unfolding mul_add fraction_plus
  rounded-once nan y z X Y Z = absurd X
  rounded-once (inf s) y z X Y Z = absurd X
  rounded-once (fin s m e) nan z X Y Z = absurd Y
  rounded-once (fin s m e) (inf t) z X Y Z = absurd Y
  rounded-once (fin s m e) (fin t n d) nan X Y Z = absurd Z
  rounded-once (fin s m e) (fin t n d) (inf u) X Y Z = absurd Z
  rounded-once (fin s m e) (fin t n d) (fin u p g) X Y Z =
      let a = m * up e * (n * up d) in
      let c = down e * down d in
      subst (λ (q : ℤ). RoundsTo f q (c * down g) (sum f (unlike s t) (a * down g) u (p * up g * c) (c * down g))) (sym (exact-top s t u (m * up e) (n * up d) (p * up g) c (down g))) (sum-rounds f (unlike s t) u (a * down g) (p * up g * c) (c * down g))

  -- what it is rounded from is a fraction
  pub bottom-above : (x y z : Float) → T (finite x) → T (finite y) → T (finite z) → 0 < (exactly x y z).bottom
  bottom-above nan y z X Y Z = absurd X
  bottom-above (inf s) y z X Y Z = absurd X
  bottom-above (fin s m e) nan z X Y Z = absurd Y
  bottom-above (fin s m e) (inf t) z X Y Z = absurd Y
  bottom-above (fin s m e) (fin t n d) nan X Y Z = absurd Z
  bottom-above (fin s m e) (fin t n d) (inf u) X Y Z = absurd Z
  bottom-above (fin s m e) (fin t n d) (fin u p g) X Y Z = mul-pos (mul-pos (down_pos e) (down_pos d)) (down_pos g)

  -- the nearest value, a tie to the even one, the infinity where it overflows, and the sign: all of roundTiesToEven, of an exact sum that is not 0
  pub ties_to_even : (x y z : Float) → T (finite x) → T (finite y) → T (finite z) → (s : Bool) (n : ℕ) → 0 < n → (exactly x y z).top ≡ signed s n → TiesToEven f s n (exactly x y z).bottom (mul_add f x y z)
  ties_to_even x y z X Y Z s n N e =
      let h = rounded-once x y z X Y Z in
      let c = (exactly x y z).bottom in
      let same = one-sign h.0 s h.1 n N (h.3 ∙ e) in
      subst (λ (r : Float). TiesToEven f s n c r) (sym (h.2 ∙ ap₂ (λ (v : Bool) (k : ℕ). round f v k c) same.0 same.1)) (round_ties_to_even f s n c (bottom-above x y z X Y Z))

  -- ---- the sign of an exact zero: -0 where the product and what is added are both negative, and +0 otherwise, so where the two cancel
  pub exact_zero : (x y z : Float) → T (finite x) → T (finite y) → T (finite z) → (exactly x y z).top ≡ pos 0 → mul_add f x y z ≡ fin (unlike (sign_of x) (sign_of y) && sign_of z) 0 (pos 0)
  unfolding mul_add fraction_plus
  exact_zero nan y z X Y Z h = absurd X
  exact_zero (inf s) y z X Y Z h = absurd X
  exact_zero (fin s m e) nan z X Y Z h = absurd Y
  exact_zero (fin s m e) (inf t) z X Y Z h = absurd Y
  exact_zero (fin s m e) (fin t n d) nan X Y Z h = absurd Z
  exact_zero (fin s m e) (fin t n d) (inf u) X Y Z h = absurd Z
  exact_zero (fin s m e) (fin t n d) (fin u p g) X Y Z h =
      let a = m * up e * (n * up d) in
      let c = down e * down d in
      exact_zero_sum f (unlike s t) u (a * down g) (p * up g * c) (c * down g) (mul-pos (mul-pos (down_pos e) (down_pos d)) (down_pos g)) (sym (exact-top s t u (m * up e) (n * up d) (p * up g) c (down g)) ∙ h)

  -- ---- a NaN in is a NaN out
  pub nan_first : (y z : Float) → mul_add f nan y z ≡ nan
  unfolding mul_add
  nan_first y z = refl

  pub nan_second : (x z : Float) → mul_add f x nan z ≡ nan
  unfolding mul_add
  nan_second nan z = refl
  nan_second (inf s) z = refl
  nan_second (fin s m e) z = refl

  nan_or : (b : Bool) (s : Bool) → cond b nan (add f (inf s) nan) ≡ nan
  unfolding add
  nan_or true s = refl
  nan_or false s = refl

  pub nan_added : (x y : Float) → mul_add f x y nan ≡ nan
  unfolding mul_add fraction_plus add
  nan_added nan y = refl
  nan_added (inf s) nan = refl
  nan_added (inf s) (inf t) = refl
  nan_added (inf s) (fin t n d) = nan_or (eqb n 0) (unlike s t)
  nan_added (fin s m e) nan = refl
  nan_added (fin s m e) (inf t) = nan_or (eqb m 0) (unlike s t)
  nan_added (fin s m e) (fin t n d) = refl

  -- ---- 0 times an infinity is a NaN, whatever is added
  pub zero_times_infinity : (s t : Bool) (e : ℤ) (z : Float) → mul_add f (fin s 0 e) (inf t) z ≡ nan
  unfolding mul_add
  zero_times_infinity s t e z = refl

  pub infinity_times_zero : (s t : Bool) (e : ℤ) (z : Float) → mul_add f (inf s) (fin t 0 e) z ≡ nan
  unfolding mul_add
  infinity_times_zero s t e z = refl

  -- ---- an infinity times anything else is the infinity with the product's sign, added as it is
  pub infinity_times_number : (s t : Bool) (n : ℕ) (e : ℤ) (z : Float) → 0 < n → mul_add f (inf s) (fin t n e) z ≡ add f (inf (unlike s t)) z
  unfolding mul_add
  infinity_times_number s t n e z N = rw (ne_eqb n 0 (λ o. omega arith)) refl

  pub number_times_infinity : (s t : Bool) (n : ℕ) (e : ℤ) (z : Float) → 0 < n → mul_add f (fin s n e) (inf t) z ≡ add f (inf (unlike s t)) z
  unfolding mul_add
  number_times_infinity s t n e z N = rw (ne_eqb n 0 (λ o. omega arith)) refl

  pub infinity_times_infinity : (s t : Bool) (z : Float) → mul_add f (inf s) (inf t) z ≡ add f (inf (unlike s t)) z
  unfolding mul_add
  infinity_times_infinity s t z = refl

  -- so an infinity less an infinity is a NaN
  pub infinity_minus_infinity : (s t : Bool) (n : ℕ) (e : ℤ) → 0 < n → mul_add f (inf s) (fin t n e) (inf (not (unlike s t))) ≡ nan
  unfolding add
  infinity_minus_infinity s t n e N = infinity_times_number s t n e (inf (not (unlike s t))) N ∙ opposite (unlike s t)
    where
      opposite : (q : Bool) → add f (inf q) (inf (not q)) ≡ nan
      opposite true = refl
      opposite false = refl

  -- and one that is added to a product of numbers is the sum, even where that product alone would overflow
  pub infinity_added : (x y : Float) (u : Bool) → T (finite x) → T (finite y) → mul_add f x y (inf u) ≡ inf u
  unfolding mul_add fraction_plus
  infinity_added nan y u X Y = absurd X
  infinity_added (inf s) y u X Y = absurd X
  infinity_added (fin s m e) nan u X Y = absurd Y
  infinity_added (fin s m e) (inf t) u X Y = absurd Y
  infinity_added (fin s m e) (fin t n d) u X Y = refl

  -- ---- so it is all that IEEE 754 asks
  pub mul_add_as_ieee_says : FusedMultiplyAdd f (mul_add f)
  mul_add_as_ieee_says =
      record {
        ties_to_even = ties_to_even;
        exact_zero = exact_zero;
        nan_first = nan_first;
        nan_second = nan_second;
        nan_added = nan_added;
        zero_times_infinity = zero_times_infinity;
        infinity_times_zero = infinity_times_zero;
        number_times_infinity = number_times_infinity;
        infinity_times_number = infinity_times_number;
        infinity_times_infinity = infinity_times_infinity;
        infinity_added = infinity_added;
      }

  -- ---- and nothing else is
  module _ (of : Float → Float → Float → Float) (K : FusedMultiplyAdd f of) where
    abbrev E : Float → Float → Float → Fraction
    E x y z = exactly x y z

    between-numbers : (x y z : Float) → T (finite x) → T (finite y) → T (finite z) → of x y z ≡ mul_add f x y z
    between-numbers x y z X Y Z = elim (eq-zero-or-pos (nat_abs (E x y z).top)) [
      | inl o ↦ let e = nothing (E x y z).top o in K.exact_zero x y z X Y Z e ∙ sym (exact_zero x y z X Y Z e)
      | inr N ↦
          let s = negative (E x y z).top in
          let n = nat_abs (E x y z).top in
          let c = (E x y z).bottom in
          let e = sym (signed_is (E x y z).top) in
          round_is_only f s n c (of x y z) (bottom-above x y z X Y Z) (K.ties_to_even x y z X Y Z s n N e)
          ∙ sym (round_is_only f s n c (mul_add f x y z) (bottom-above x y z X Y Z) (ties_to_even x y z X Y Z s n N e))
    ]
      where
        nothing : (i : ℤ) → nat_abs i ≡ 0 → i ≡ pos 0
        nothing (pos n) o = ap pos o
        nothing (negsuc n) o = absurd (omega arith)

    times_infinity : (s t : Bool) (n : ℕ) (e : ℤ) (z : Float) → of (fin s n e) (inf t) z ≡ mul_add f (fin s n e) (inf t) z
    times_infinity s t n e z = elim (eq-zero-or-pos n) [
      | inl o ↦ subst (λ (k : ℕ). of (fin s k e) (inf t) z ≡ mul_add f (fin s k e) (inf t) z) (sym o) (K.zero_times_infinity s t e z ∙ sym (zero_times_infinity s t e z))
      | inr N ↦ K.number_times_infinity s t n e z N ∙ sym (number_times_infinity s t n e z N)
    ]

    infinity_times : (s t : Bool) (n : ℕ) (e : ℤ) (z : Float) → of (inf s) (fin t n e) z ≡ mul_add f (inf s) (fin t n e) z
    infinity_times s t n e z = elim (eq-zero-or-pos n) [
      | inl o ↦ subst (λ (k : ℕ). of (inf s) (fin t k e) z ≡ mul_add f (inf s) (fin t k e) z) (sym o) (K.infinity_times_zero s t e z ∙ sym (infinity_times_zero s t e z))
      | inr N ↦ K.infinity_times_number s t n e z N ∙ sym (infinity_times_number s t n e z N)
    ]

    pub only_mul_add : (x y z : Float) → of x y z ≡ mul_add f x y z
    only_mul_add nan y z = K.nan_first y z ∙ sym (nan_first y z)
    only_mul_add (inf s) nan z = K.nan_second (inf s) z ∙ sym (nan_second (inf s) z)
    only_mul_add (inf s) (inf t) z = K.infinity_times_infinity s t z ∙ sym (infinity_times_infinity s t z)
    only_mul_add (inf s) (fin t n d) z = infinity_times s t n d z
    only_mul_add (fin s m e) nan z = K.nan_second (fin s m e) z ∙ sym (nan_second (fin s m e) z)
    only_mul_add (fin s m e) (inf t) z = times_infinity s t m e z
    only_mul_add (fin s m e) (fin t n d) nan = K.nan_added (fin s m e) (fin t n d) ∙ sym (nan_added (fin s m e) (fin t n d))
    only_mul_add (fin s m e) (fin t n d) (inf u) = K.infinity_added (fin s m e) (fin t n d) u tt tt ∙ sym (infinity_added (fin s m e) (fin t n d) u tt tt)
    only_mul_add (fin s m e) (fin t n d) (fin u p g) = between-numbers (fin s m e) (fin t n d) (fin u p g) tt tt tt

  -- ---- the factors change places
  unlike-swap : (s t : Bool) → unlike s t ≡ unlike t s
  unlike-swap true true = refl
  unlike-swap true false = refl
  unlike-swap false true = refl
  unlike-swap false false = refl

  pub swapped : (x y z : Float) → mul_add f x y z ≡ mul_add f y x z
  unfolding mul_add
  swapped nan nan z = refl
  swapped nan (inf t) z = refl
  swapped nan (fin t n d) z = refl
  swapped (inf s) nan z = refl
  swapped (inf s) (inf t) z = ap (λ (b : Bool). add f (inf b) z) (unlike-swap s t)
  swapped (inf s) (fin t n d) z = ap (λ (b : Bool). cond (eqb n 0) nan (add f (inf b) z)) (unlike-swap s t)
  swapped (fin s m e) nan z = refl
  swapped (fin s m e) (inf t) z = ap (λ (b : Bool). cond (eqb m 0) nan (add f (inf b) z)) (unlike-swap s t)
  swapped (fin s m e) (fin t n d) z =
      ap (λ (b : Bool). fraction_plus f b (m * up e * (n * up d)) (down e * down d) z) (unlike-swap s t)
      ∙ ap₂ (λ (a c : ℕ). fraction_plus f (unlike t s) a c z) (mul_comm (m * up e) (n * up d)) (mul_comm (down e) (down d))

  -- ---- times 1
  unlike-one : (s : Bool) → unlike s false ≡ s
  unlike-one true = refl
  unlike-one false = refl

  pub times-one : (x z : Float) → mul_add f x (fin false 1 (pos 0)) z ≡ add f x z
  unfolding mul_add fraction_plus add
  times-one nan z = refl
  times-one (inf s) z = ap (λ (b : Bool). add f (inf b) z) (unlike-one s)
  times-one (fin s m e) nan = refl
  times-one (fin s m e) (inf u) = refl
  times-one (fin s m e) (fin u p g) =
      ap (λ (b : Bool). sum f b (m * up e * (1 * 1) * down g) u (p * up g * (down e * 1)) (down e * 1 * down g)) (unlike-one s)
      ∙ sum_same f s u (m * up e * down g) (p * up g * down e) (down e * down g) (m * up e * (1 * 1) * down g) (p * up g * (down e * 1)) (down e * 1 * down g) (mul-pos (down_pos e) (down_pos g)) (mul-pos (mul-pos (down_pos e) (omega arith)) (down_pos g)) (omega arith) (omega arith)

  -- ---- the format holds it
  sum_fits : (s t : Bool) (a b c : ℕ) → T (fits f (sum f s a t b c))
  unfolding sum
  sum_fits s t a b c = cond-fits f (beq s t) _ _ (round-fits f s (a + b) c) (cond-fits f (ltb a b) _ _ (round-fits f t _ c) (round-fits f (s && ltb b a) _ c))

  plus-fits : (s : Bool) (a c : ℕ) (z : Float) → T (fits f (fraction_plus f s a c z))
  unfolding fraction_plus
  plus-fits s a c nan = nan-fits f
  plus-fits s a c (inf u) = inf-fits f u
  plus-fits s a c (fin u p g) = sum_fits s u (a * down g) (p * up g * c) (c * down g)

  pub held : (x y z : Float) → T (fits f (mul_add f x y z))
  unfolding mul_add
  held nan y z = nan-fits f
  held (inf s) nan z = nan-fits f
  held (inf s) (inf t) z = add-fits f (inf (unlike s t)) z
  held (inf s) (fin t n d) z = cond-fits f (eqb n 0) nan (add f (inf (unlike s t)) z) (nan-fits f) (add-fits f (inf (unlike s t)) z)
  held (fin s m e) nan z = nan-fits f
  held (fin s m e) (inf t) z = cond-fits f (eqb m 0) nan (add f (inf (unlike s t)) z) (nan-fits f) (add-fits f (inf (unlike s t)) z)
  held (fin s m e) (fin t n d) z = plus-fits (unlike s t) (m * up e * (n * up d)) (down e * down d) z
