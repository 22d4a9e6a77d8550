-- Why the cut of an exact sum of a product of two f64 and a third is deep enough: it loses nothing, or lies two places below the smallest value, or is far below the leading digit.
-- In numbers: m, n, o are the digits and i, j, k the powers. Assumes nothing.
use Rattle.std.proofs.Common.{◌≡◌, ℕ, ◌+◌, ◌-◌, ◌*◌, ◌^◌, ◌<◌, ◌≤◌, Bool, true, false, cond, ltb, ◌⊎◌, sym, refl, ap, ◌∙◌, subst, ap₂, inl, inr, le_trans, le_of_eq, lt_of_lt_of_le, lt_of_le_of_lt, le_of_lt, mul-le-mul_right, mul_comm, add-mul, eq-zero-or-pos, mul-le-mul, mul-le-mul_left, mul-lt-mul_of_pos_right, arith, pow_pos, pow_mono, pow-add, le-ltb, lt-ltb}
use Rattle.ieee.proofs.Closest.{lt_or_ge}
use Rattle.ieee.proofs.Distance.{gap-mul}
use Rattle.ieee.specs.inside.SumSize.{sum_size}
use Rattle.ieee_mul_add.specs.inside.CutSum.{product_of, addend_of}
use Rattle.ieee_odd_cut.proofs.OneOddCut.{IsOddCut, only_odd_cut}

-- ---- two sizes added

-- with a factor in both
sum-scaled : (alike : Bool) (a b d : ℕ) → sum_size alike (a * d) (b * d) ≡ sum_size alike a b * d
sum-scaled true a b d = sym (add-mul a b d)
sum-scaled false a b d = gap-mul a b d

-- where one is at least twice t and the other at most t, the sum is at least t
far-first : (alike : Bool) (t a b : ℕ) → t + t ≤ a → b ≤ t → t ≤ sum_size alike a b
far-first true t a b h l = omega arith
far-first false t a b h l = omega arith

far-second : (alike : Bool) (t a b : ℕ) → a ≤ t → t + t ≤ b → t ≤ sum_size alike a b
far-second true t a b h l = omega arith
far-second false t a b h l = omega arith

-- a multiple of d is cut by d without loss
exact-cut : (k d w : ℕ) → 0 < d → IsOddCut (k * d) d w → w * d ≡ k * d
exact-cut k d w D O = ap (λ (x : ℕ). x * d) (sym (only_odd_cut (k * d) d w D O) ∙ only_odd_cut (k * d) d k D (inl refl))

-- ---- powers
double : (e : ℕ) → 2 ^ e + 2 ^ e ≡ 2 ^ (1 + e)
double e = let i = pow-add 2 1 e in omega arith

-- a number below 2 ^ s, times 2 ^ x, is at most 2 ^ t
below_power : (n s x t : ℕ) → n < 2 ^ s → s + x ≤ t → n * 2 ^ x ≤ 2 ^ t
below_power n s x t h l = le_trans (mul-le-mul_right (2 ^ x) (le_of_lt h)) (le_trans (le_of_eq (sym (pow-add 2 s x))) (pow_mono l))

-- a number from 2 ^ s on, times 2 ^ x, is at least 2 ^ t
above_power : (n s x t : ℕ) → 2 ^ s ≤ n → t ≤ s + x → 2 ^ t ≤ n * 2 ^ x
above_power n s x t h l = le_trans (pow_mono l) (le_trans (le_of_eq (pow-add 2 s x)) (mul-le-mul_right (2 ^ x) h))

-- ---- the two sizes, in two words each with room above: below 2 ^ 126
pub product_lt : (m n : ℕ) → m < 2 ^ 53 → n < 2 ^ 53 → product_of m n < 2 ^ 126
product_lt m n M N = lt_of_le_of_lt (mul-le-mul_left (m * 1024) (le_of_lt n-lt)) (lt_of_lt_of_le (mul-lt-mul_of_pos_right m-lt (pow_pos 63)) (le_of_eq (sym (pow-add 2 63 63))))
  where
    n-lt : n * 1024 < 2 ^ 63
    n-lt = omega arith

    m-lt : m * 1024 < 2 ^ 63
    m-lt = omega arith

pub addend-lt : (o : ℕ) → o < 2 ^ 53 → addend_of o < 2 ^ 126
addend-lt o O = lt_of_lt_of_le (mul-lt-mul_of_pos_right o_lt (pow_pos 64)) (le_of_eq (sym (pow-add 2 62 64)))
  where
    o_lt : o * 512 < 2 ^ 62
    o_lt = omega arith

-- and how large they are where the digits are full
addend-ge : (o : ℕ) → 2 ^ 52 ≤ o → 2 ^ 125 ≤ addend_of o
addend-ge o h = let l : 2 ^ 61 ≤ o * 512 = omega arith in le_trans (le_of_eq (pow-add 2 61 64)) (mul-le-mul_right (2 ^ 64) l)

product-ge : (m n : ℕ) → 0 < n → 2 ^ 52 ≤ m → 2 ^ 72 ≤ product_of m n
product-ge m n N h = mul-le-mul {n₁ = 2 ^ 62} {m₁ = 2 ^ 10} {n₂ = m * 1024} {m₂ = n * 1024} (omega arith) (omega arith)

module _ (m n o i j k : ℕ) (M : m < 2 ^ 53) (N : n < 2 ^ 53) (O : o < 2 ^ 53) (M0 : 0 < m) (N0 : 0 < n)
    (full-m : 0 < i → 2 ^ 52 ≤ m) (full-n : 0 < j → 2 ^ 52 ≤ n) (full-o : 0 < k → 2 ^ 52 ≤ o) where
  abbrev X : ℕ
  X = i + j + 64

  abbrev Z : ℕ
  Z = k + 1085

  abbrev A : ℕ
  A = product_of m n * 2 ^ X

  abbrev B : ℕ
  B = addend_of o * 2 ^ Z

  -- the cut loses nothing, or lies two places below the smallest f64, or 54 places below the leading digit
  abbrev DeepCut : Bool → ℕ → ℕ → Type 0
  DeepCut alike w y = (w * 2 ^ y ≡ sum_size alike A B) ⊎ ((y + 2 ≤ 1158) ⊎ (2 ^ (54 + y) ≤ sum_size alike A B))

  -- both are multiples of 2 ^ y
  whole : (alike : Bool) (w y a b : ℕ) → A ≡ a * 2 ^ y → B ≡ b * 2 ^ y → IsOddCut (sum_size alike A B) (2 ^ y) w → DeepCut alike w y
  whole alike w y a b e g h =
      let c = sum_size alike a b in
      let q : sum_size alike A B ≡ c * 2 ^ y = ap₂ (sum_size alike) e g ∙ sum-scaled alike a b (2 ^ y) in
      inl (exact-cut c (2 ^ y) w (pow_pos y) (subst (λ (x : ℕ). IsOddCut x (2 ^ y) w) q h) ∙ sym q)

  -- the product is a multiple of 2 ^ Z where that is no more than 20 places up, and the addend of 2 ^ X where that is no more than 73: so much room is below their digits
  short-product : (e : ℕ) → e + Z ≡ X + 20 → A ≡ m * n * 2 ^ e * 2 ^ Z
  short-product e h =
      let a = pow-add 2 e Z in
      let b = pow-add 2 X 20 in
      let c = ap (λ (x : ℕ). 2 ^ x) h in
      let d : 2 ^ e * 2 ^ Z ≡ 2 ^ X * 1048576 = sym a ∙ c ∙ b in
      let q = ap (λ (x : ℕ). m * n * x) d in
      regroup m n (2 ^ X) (2 ^ e) (2 ^ Z) q
    where
      regroup : (m n x e z : ℕ) → m * n * (e * z) ≡ m * n * (x * 1048576) → m * 1024 * (n * 1024) * x ≡ m * n * e * z
      regroup m n x e z q = omega arith

  short-addend : (e : ℕ) → e + X ≡ Z + 73 → B ≡ o * 2 ^ e * 2 ^ X
  short-addend e h =
      let d : 2 ^ e * 2 ^ X ≡ 2 ^ Z * 2 ^ 73 = sym (pow-add 2 e X) ∙ ap (λ (x : ℕ). 2 ^ x) h ∙ pow-add 2 Z 73 in
      let q = ap (λ (x : ℕ). o * x) d in
      regroup o (2 ^ Z) (2 ^ e) (2 ^ X) q
    where
      regroup : (o z e x : ℕ) → o * (e * x) ≡ o * (z * 2 ^ 73) → o * 512 * 2 ^ 64 * z ≡ o * e * x
      regroup o z e x q = omega arith

  -- the cut at the larger power loses nothing, or lies two places below the smallest value, or 54 places below the leading digit
  pub deep-enough : (alike : Bool) (w y : ℕ) → y ≡ cond (ltb X Z) Z X → IsOddCut (sum_size alike A B) (2 ^ y) w → DeepCut alike w y
  deep-enough alike w y e h = elim (lt_or_ge X Z) [
    | inl l ↦ below l (e ∙ rw (lt-ltb X Z l) refl)
    | inr l ↦ above l (e ∙ rw (le-ltb X Z l) refl)
  ]
    where
      below : X < Z → y ≡ Z → DeepCut alike w y
      below l e = elim (lt_or_ge (X + 20) Z) [
        | inr near ↦
            let a = X + 20 - Z in
            whole alike w y (m * n * 2 ^ a) (addend_of o) (short-product a (omega arith) ∙ ap (λ (x : ℕ). m * n * 2 ^ a * 2 ^ x) (sym e)) (ap (λ (x : ℕ). addend_of o * 2 ^ x) (sym e)) h
        | inl far ↦
            elim (eq-zero-or-pos k) [
              | inl z ↦ inr (inl (omega arith))
              | inr p ↦
                  let t = 124 + y in
                  let a : A ≤ 2 ^ t = below_power (product_of m n) 126 X t (product_lt m n M N) (omega arith) in
                  let b : 2 ^ (1 + t) ≤ B = above_power (addend_of o) 125 Z (1 + t) (addend-ge o (full-o p)) (omega arith) in
                  let c = far-second alike (2 ^ t) A B a (le_trans (le_of_eq (double t)) b) in
                  inr (inr (le_trans (pow_mono (omega arith)) c))
            ]
      ]

      large : Z + 73 < X → 2 ^ 72 ≤ product_of m n
      large far = elim (eq-zero-or-pos i) [
        | inl z ↦ le_trans (product-ge n m M0 (full-n (omega arith))) (le_of_eq (mul_comm (n * 1024) (m * 1024)))
        | inr p ↦ product-ge m n N0 (full-m p)
      ]

      above : Z ≤ X → y ≡ X → DeepCut alike w y
      above l e = elim (lt_or_ge (Z + 73) X) [
        | inr near ↦
            let a = Z + 73 - X in
            whole alike w y (product_of m n) (o * 2 ^ a) (ap (λ (x : ℕ). product_of m n * 2 ^ x) (sym e)) (short-addend a (omega arith) ∙ ap (λ (x : ℕ). o * 2 ^ a * 2 ^ x) (sym e)) h
        | inl far ↦
            let t = 54 + y in
            let a : 2 ^ (1 + t) ≤ A = above_power (product_of m n) 72 X (1 + t) (large far) (omega arith) in
            let b : B ≤ 2 ^ t = below_power (addend_of o) 126 Z t (addend-lt o O) (omega arith) in
            inr (inr (far-first alike (2 ^ t) A B (le_trans (le_of_eq (double t)) a) b))
      ]
