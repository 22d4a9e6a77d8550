-- Products that are an f64 already, by the patterns of the factors: a multiply-add is the two operations there. Assumes nothing.
use Rattle.std.proofs.Common.{◌≡◌, ℕ, ◌+◌, ◌-◌, ◌*◌, ◌/◌, ◌%◌, ◌^◌, ◌<◌, ◌≤◌, Bool, true, false, cond, not, ◌&&◌, T, eqb, ◌⊎◌, sym, refl, ap, ◌∙◌, subst, ap₂, inl, inr, le_trans, le_of_eq, lt_of_lt_of_le, lt_of_le_of_lt, le_of_lt, mul-le-mul_left, mul-lt-mul_of_pos_right, mul-pos, mul-one, arith, pow_pos, pow_mono, pow-add}
use lib.Ieee.{Float, nan, inf, fin, Format, binary32, binary64, unlike, fits, add, mul}
use lib.Ieee.Exact.{HasValue, round_exact}
use lib.Ieee.Fits.{and_l, and_r}
use lib.Ieee.Scale.{finite}
use Rattle.ieee.specs.Nearest.{sign_of}
use Rattle.ieee.specs.inside.PatternParts.{field_of, digits_of, power_of}
use Rattle.ieee.proofs.ByValue.{mul-value}
use Rattle.ieee.proofs.PatternValue.{digits_lt}
use Rattle.ieee.proofs.Units.{in_units}
use Rattle.ieee.proofs.Values.{finite_of}
use Rattle.ieee_mul_add.specs.MulAdd.{mul_add}
use Rattle.ieee_mul_add.specs.inside.QuickWays.{ExactProduct}
use Rattle.ieee_mul_add.proofs.ByFloats.{bits_of, minus_bit, float_value}
use Rattle.ieee_mul_add.proofs.ByFractions.{exact-product, other-sum, other-product}

-- ---- the digits of a pattern are a multiple of d where the pattern's own, with a leading digit and without, are
pub digits-end : (b d : ℕ) → b % 2 ^ 52 % d ≡ 0 → (2 ^ 52 + b % 2 ^ 52) % d ≡ 0 → digits_of binary64 b % d ≡ 0
digits-end b d without with-one = go (eqb (field_of binary64 b) 0)
  where
    go : (i : Bool) → cond i (b % 2 ^ 52) (2 ^ 52 + b % 2 ^ 52) % d ≡ 0
    go true = without
    go false = with-one

-- ---- the powers of two, by the fields
pub mid_powers : (a b : ℕ) → 1076 ≤ a + b → a + b ≤ 3067 → (1074 ≤ a - 1 + (b - 1)) × (a - 1 + (b - 1) ≤ 3066)
mid_powers a b l u = (omega arith, omega arith)

-- ---- products of few digits
module _ (m i n j : ℕ) (M : m < 2 ^ 53) (N : n < 2 ^ 53) (l : 1074 ≤ i + j) (u : i + j ≤ 3066) where
  -- the second is a power of two
  pub by-power : n % 2 ^ 52 ≡ 0 → ExactProduct m i n j
  by-power z =
      let k = n / 2 ^ 52 in
      let K : k ≤ 1 = omega arith in
      let e : n ≡ k * 2 ^ 52 = omega arith in
      record {
        q = m * k;
        e = 52;
        few = lt_of_le_of_lt (le_trans (mul-le-mul_left m K) (le_of_eq (mul-one m))) M;
        is = let g = ap (λ (x : ℕ). m * x) e in omega arith;
        deep = omega arith;
        below = omega arith;
      }

  -- 29 digits and 24
  pub by_digits : n % 2 ^ 29 ≡ 0 → m % 2 ^ 24 ≡ 0 → ExactProduct m i n j
  by_digits z y =
      let v = n / 2 ^ 29 in
      let w = m / 2 ^ 24 in
      let W : w < 2 ^ 29 = omega arith in
      let U : v ≤ 2 ^ 24 = omega arith in
      let e : n ≡ v * 2 ^ 29 = omega arith in
      let g : m ≡ w * 2 ^ 24 = omega arith in
      record {
        q = w * v;
        e = 53;
        few = lt_of_le_of_lt (mul-le-mul_left w U) (mul-lt-mul_of_pos_right {m = w} {n = 2 ^ 29} {k = 2 ^ 24} W (omega arith));
        is = ap₂ ◌*◌ g e ∙ omega arith;
        deep = omega arith;
        below = omega arith;
      }

-- no f64 has more than 53 digits
pub few-digits : (b : ℕ) → digits_of binary64 b < 2 ^ 53
few-digits b = digits_lt binary64 b

-- ---- an exact product by its value
module _ (x y : Float) (s t : Bool) (m i n j : ℕ) (v : HasValue x s (m * 2 ^ i) (2 ^ 1074)) (w : HasValue y t (n * 2 ^ j) (2 ^ 1074)) where
  -- it is rounded to itself
  pub exact-value : ExactProduct m i n j → HasValue (mul binary64 x y) (unlike s t) (m * 2 ^ i * (n * 2 ^ j)) (2 ^ 1074 * 2 ^ 1074)
  exact-value E =
      let h = E.e + (i + j) - 1074 in
      let l = E.deep in
      let u = E.below in
      let den = 2 ^ 1074 * 2 ^ 1074 in
      let small : E.q * 2 ^ h < 2 ^ 2098 = lt_of_lt_of_le (mul-lt-mul_of_pos_right E.few (pow_pos h)) (le_trans (le_of_eq (sym (pow-add 2 53 h))) (pow_mono {i = 53 + h} {j = 2098} (omega arith))) in
      let up : 2 ^ E.e * (2 ^ i * 2 ^ j) * 2 ^ 1074 ≡ 2 ^ h * den =
      ap (λ (k : ℕ). 2 ^ E.e * k * 2 ^ 1074) (sym (pow-add 2 i j)) ∙ ap (λ (k : ℕ). k * 2 ^ 1074) (sym (pow-add 2 E.e (i + j))) ∙ sym (pow-add 2 (E.e + (i + j)) 1074)
      ∙ ap (λ (k : ℕ). 2 ^ k) (exponents E.e i j l) ∙ pow-add 2 h 2148 ∙ ap (λ (k : ℕ). 2 ^ h * k) (pow-add 2 1074 1074) in
      let e = regroup m n (2 ^ i) (2 ^ j) (2 ^ 1074) E.q (2 ^ E.e) (2 ^ h) den E.is up in
      subst (λ (r : Float). HasValue r (unlike s t) (m * 2 ^ i * (n * 2 ^ j)) den) (sym (mul-value binary64 x y s t (m * 2 ^ i) (2 ^ 1074) (n * 2 ^ j) (2 ^ 1074) (pow_pos 1074) (pow_pos 1074) v w))
      (round_exact binary64 (unlike s t) (m * 2 ^ i * (n * 2 ^ j)) den E.q h (mul-pos (pow_pos 1074) (pow_pos 1074)) E.few small e)
    where
      exponents : (e i j : ℕ) → 1074 ≤ e + (i + j) → e + (i + j) + 1074 ≡ e + (i + j) - 1074 + 2148
      exponents e i j l = omega arith

      regroup : (m n x y w q e h d : ℕ) → m * n ≡ q * e → e * (x * y) * w ≡ h * d → m * x * (n * y) * w ≡ q * h * d
      regroup m n x y w q e h d j k =
          let a = ap (λ (z : ℕ). z * (x * y * w)) j in
          let b = ap (λ (z : ℕ). q * z) k in
          omega arith

-- ---- the two operations are the multiply-add
either : (b : Bool) → T b ⊎ T (not b)
either true = inl tt
either false = inr tt

finite-plus : (f : Format) (w z : Float) → T (finite w) → T (not (finite z)) → add f w z ≡ z
unfolding add
finite-plus f nan z W Z = absurd W
finite-plus f (inf s) z W Z = absurd W
finite-plus f (fin s m e) nan W Z = refl
finite-plus f (fin s m e) (inf t) W Z = refl
finite-plus f (fin s m e) (fin t n d) W Z = absurd Z

module _ (x y z : Float) (F : T (fits binary64 x)) (G : T (fits binary64 y)) where
  -- of numbers that are finite or not: where two are, and their product exact, whatever the third is
  pub two_operations : ExactProduct (digits_of binary64 (bits_of x)) (power_of binary64 (bits_of x)) (digits_of binary64 (bits_of y)) (power_of binary64 (bits_of y)) → add binary64 (mul binary64 x y) z ≡ mul_add binary64 x y z
  two_operations E = elim (either (finite x && finite y)) [
    | inr h ↦ other-product binary64 x y z h
    | inl h ↦ between (and_l (finite x) (finite y) h) (and_r (finite x) (finite y) h)
  ]
    where
      between : T (finite x) → T (finite y) → add binary64 (mul binary64 x y) z ≡ mul_add binary64 x y z
      between X Y =
          let m = digits_of binary64 (bits_of x) in
          let i = power_of binary64 (bits_of x) in
          let n = digits_of binary64 (bits_of y) in
          let j = power_of binary64 (bits_of y) in
          let v = float_value x F X in
          let w = float_value y G Y in
          let h = exact-value x y (minus_bit x) (minus_bit y) m i n j v w E in
          elim (either (finite z)) [
            | inl Z ↦ exact-product binary64 x y z (minus_bit x) (minus_bit y) (m * 2 ^ i) (n * 2 ^ j) (2 ^ 1074) (2 ^ 1074) (pow_pos 1074) (pow_pos 1074) v w Z h
            | inr Z ↦ finite-plus binary64 (mul binary64 x y) z (finite_of (mul binary64 x y) (unlike (minus_bit x) (minus_bit y)) (m * 2 ^ i * (n * 2 ^ j)) (2 ^ 1074 * 2 ^ 1074) h) Z ∙ other-sum binary64 x y z X Y Z
          ]

-- ---- two f32 have a product that is an f64
module _ (x y z : Float) (F : T (fits binary32 x)) (G : T (fits binary32 y)) (X : T (finite x)) (Y : T (finite y)) (Z : T (finite z)) where
  -- 24 digits and 24 are no more than 53, and no exponent of f32 is near the ends of f64
  pub two_operations_f32 : add binary64 (mul binary64 x y) z ≡ mul_add binary64 x y z
  two_operations_f32 =
      let U = in_units binary32 x (X, F) in
      let W = in_units binary32 y (Y, G) in
      let a = U.digits * 2 ^ U.power in
      let b = W.digits * 2 ^ W.power in
      let h = U.power + W.power + 776 in
      let den = 2 ^ 149 * 2 ^ 149 in
      let few : U.digits * W.digits < 2 ^ 53 = fewer U.digits W.digits U.few W.few in
      let p : 2 ^ U.power * 2 ^ W.power * 2 ^ 776 ≡ 2 ^ h = ap (λ (k : ℕ). k * 2 ^ 776) (sym (pow-add 2 U.power W.power)) ∙ sym (pow-add 2 (U.power + W.power) 776) in
      let q : 2 ^ 1074 ≡ 2 ^ 776 * den = pow-add 2 776 298 ∙ ap (λ (k : ℕ). 2 ^ 776 * k) (pow-add 2 149 149) in
      let e = regroup U.digits W.digits (2 ^ U.power) (2 ^ W.power) (2 ^ 776) (2 ^ h) den (2 ^ 1074) p q in
      let low : a * b < 2 ^ 554 = lt_of_le_of_lt (mul-le-mul_left a (le_of_lt W.below)) (lt_of_lt_of_le (mul-lt-mul_of_pos_right U.below (pow_pos 277)) (le_of_eq (sym (pow-add 2 277 277)))) in
      let small : U.digits * W.digits * 2 ^ h < 2 ^ 2098 =
      lt_of_le_of_lt (le_of_eq (apart U.digits W.digits (2 ^ U.power) (2 ^ W.power) (2 ^ 776) (2 ^ h) p)) (lt_of_lt_of_le (mul-lt-mul_of_pos_right low (pow_pos 776)) (le_trans (le_of_eq (sym (pow-add 2 554 776))) (pow_mono {i = 1330} {j = 2098} (omega arith)))) in
      let s = unlike (sign_of x) (sign_of y) in
      exact-product binary64 x y z (sign_of x) (sign_of y) a b (2 ^ 149) (2 ^ 149) (pow_pos 149) (pow_pos 149) U.is W.is Z
      (subst (λ (r : Float). HasValue r s (a * b) den) (sym (mul-value binary64 x y (sign_of x) (sign_of y) a (2 ^ 149) b (2 ^ 149) (pow_pos 149) (pow_pos 149) U.is W.is))
      (round_exact binary64 s (a * b) den (U.digits * W.digits) h (mul-pos (pow_pos 149) (pow_pos 149)) few small e))
    where
      fewer : (m n : ℕ) → m < 2 ^ 24 → n < 2 ^ 24 → m * n < 2 ^ 53
      fewer m n M N = lt_of_le_of_lt (mul-le-mul_left m (le_of_lt N)) (lt_of_lt_of_le (mul-lt-mul_of_pos_right M (pow_pos 24)) (pow_mono {i = 48} {j = 53} (omega arith)))

      regroup : (m n i j u h d w : ℕ) → i * j * u ≡ h → w ≡ u * d → m * i * (n * j) * w ≡ m * n * h * d
      regroup m n i j u h d w p q = let a = ap (λ (k : ℕ). m * n * k * d) p in let b = ap (λ (k : ℕ). m * i * (n * j) * k) q in omega arith

      apart : (m n i j u h : ℕ) → i * j * u ≡ h → m * n * h ≡ m * i * (n * j) * u
      apart m n i j u h p = let a = ap (λ (k : ℕ). m * n * k) p in omega arith

-- false is not true
pub never : {A : Type 0} → false ≡ true → A
never h = absurd (subst (λ (b : Bool). T (not b)) h tt)
