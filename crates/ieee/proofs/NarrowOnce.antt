-- Where rounding at binary64 and then at binary32 is rounding once: where the binary64 is no half-way point of binary32, no power of two and not below binary32's normal numbers. Assumes nothing.
use mathlib.Core.Path.{◌≡◌, refl, sym, ap, ◌∙◌, subst}
use mathlib.Core.Logic.{inl, inr}
use Prim.Native.Nat.{ℕ, ◌+◌, ◌-◌, ◌*◌, ◌/◌, ◌%◌, ◌^◌, ◌≤◌, ◌<◌, min}
use native.Mathlib.Nat.{le_trans, le_of_eq, le_of_lt, lt_of_lt_of_le, mul-pos, mul-le-mul_right, min-eq_left, min-eq_right, div-div-eq-div-mul, mul-div_cancel}
use native.Mathlib.Omega.{arith}
use mathlib.Core.Bool.{Bool, true, false, cond}
use lib.Pow.{pow-add, pow_pos, pow_mono}
use lib.Ieee.{Float, nan, inf, fin, binary32, binary64, up, down, size, units, round, to_bits}
use lib.Ieee.Exact.{HasValue}
use lib.Ieee.Fits.{round_is, down_pos}
use lib.Ieee.Nearest.{closest, closest_same, div_same}
use lib.Ieee.Order.{drop}
use lib.Ieee.Scale.{round_same}
use Rattle.ieee.specs.Nearest.{gap, NearestWhole}
use Rattle.ieee.specs.Narrowing.{narrow, convert}
use Rattle.ieee.proofs.Closest.{lt_or_ge}
use Rattle.ieee.proofs.NearestWhole.{closest_nearest, closest_is}
use Rattle.ieee.proofs.Pack.{dropped, held, held_le, held-ge, pattern, size-between}
use Rattle.ieee.proofs.Units.{round-units}
use Rattle.ieee.proofs.ShiftedSize.{size_shr, size_shl}
use Rattle.ieee.specs.inside.Harmless.{Harmless}

-- ---- a whole number that is nearest to n / u, and no half-way point of 2 ^ 29, is rounded by 2 ^ 29 as n / u is
-- a distance of at most a half, from both sides
gap_of : (x n v : ℕ) → gap x n * 2 ≤ v → (x * 2 ≤ n * 2 + v) × (n * 2 ≤ x * 2 + v)
gap_of x n v h = (omega arith, omega arith)

of_gap : (x n v : ℕ) → x * 2 < n * 2 + v → n * 2 < x * 2 + v → gap x n * 2 < v
of_gap x n v a b = omega arith

-- no half-way point: what is nearest to q by 2 ^ 29 is nearest to n / u by it
nearest-through : (n u q m : ℕ) → 0 < u → (q % 2 ^ 29 ≡ 2 ^ 28 → ⊥) → NearestWhole n u q → NearestWhole q (2 ^ 29) m → NearestWhole n (u * 2 ^ 29) m
nearest-through n u q m U H A B =
    let f = gap_of (m * 2 ^ 29) q (2 ^ 29) B.near in
    let lo = below q m f.0 H in
    let hi = above q m f.1 H in
    let a = mul-le-mul_right u lo in
    let b = mul-le-mul_right u hi in
    let g = gap_of (q * u) n u A.near in
    let l = of_gap (m * (u * 2 ^ 29)) n (u * 2 ^ 29) (high_side n u q m U a g.0) (low_side n u q m U b g.1) in
    record { near = le_of_lt l; tie = λ t. absurd (differ (gap (m * (u * 2 ^ 29)) n * 2) (u * 2 ^ 29) l t) }
  where
    below : (q m : ℕ) → m * 2 ^ 29 * 2 ≤ q * 2 + 2 ^ 29 → (q % 2 ^ 29 ≡ 2 ^ 28 → ⊥) → m * 2 ^ 29 + 1 ≤ q + 2 ^ 28
    below q m f H = elim (lt_or_ge (m * 2 ^ 29) (q + 2 ^ 28)) [ inl l ↦ omega arith | inr l ↦ absurd (H (omega arith)) ]

    above : (q m : ℕ) → q * 2 ≤ m * 2 ^ 29 * 2 + 2 ^ 29 → (q % 2 ^ 29 ≡ 2 ^ 28 → ⊥) → q + 1 ≤ m * 2 ^ 29 + 2 ^ 28
    above q m f H = elim (lt_or_ge q (m * 2 ^ 29 + 2 ^ 28)) [ inl l ↦ omega arith | inr l ↦ absurd (H (omega arith)) ]

    high_side : (n u q m : ℕ) → 0 < u → (m * 2 ^ 29 + 1) * u ≤ (q + 2 ^ 28) * u → q * u * 2 ≤ n * 2 + u → m * (u * 2 ^ 29) * 2 < n * 2 + u * 2 ^ 29
    high_side n u q m U a g = omega arith

    low_side : (n u q m : ℕ) → 0 < u → (q + 1) * u ≤ (m * 2 ^ 29 + 2 ^ 28) * u → n * 2 ≤ q * u * 2 + u → n * 2 < m * (u * 2 ^ 29) * 2 + u * 2 ^ 29
    low_side n u q m U b g = omega arith

    differ : (x y : ℕ) → x < y → x ≡ y → ⊥
    differ x y l e = omega arith

through : (n u q : ℕ) → 0 < u → q ≡ closest n u → (q % 2 ^ 29 ≡ 2 ^ 28 → ⊥) → closest n (u * 2 ^ 29) ≡ closest q (2 ^ 29)
through n u q U e H =
    closest_is n (u * 2 ^ 29) (closest q (2 ^ 29)) (mul-pos U (omega arith))
    (nearest-through n u q (closest q (2 ^ 29)) U H (subst (λ (x : ℕ). NearestWhole n u x) (sym e) (closest_nearest n u U)) (closest_nearest q (2 ^ 29) (omega arith)))

-- ---- at binary32, a fraction of k + 53 digits in units of the smallest binary64, k at least 896
module _ (s : Bool) (N den k : ℕ) (D : 0 < den) (K : 896 ≤ k) (Z : size (N * 2 ^ 1074 / den) ≡ k + 53) where
  dropped_32 : drop 24 (N * 2 ^ 149) den ≡ k - 896
  dropped_32 =
      let e : N * 2 ^ 149 / den ≡ N * 2 ^ 1074 / den / 2 ^ 925 =
      div_same (N * 2 ^ 149) den (N * 2 ^ 1074) (den * 2 ^ 925) D (mul-pos D (pow_pos 925)) (move N den (2 ^ 149) (2 ^ 925) (2 ^ 1074) (pow-add 2 149 925)) ∙ sym (div-div-eq-div-mul (N * 2 ^ 1074) den (2 ^ 925)) in
      let z = size_shr (N * 2 ^ 1074 / den) 925 in
      ap (λ (x : ℕ). size x - 24) e ∙ omega arith
    where
      move : (n d a b c : ℕ) → c ≡ a * b → n * a * (d * b) ≡ n * c * d
      move n d a b c e = let g = ap (λ (x : ℕ). n * x * d) e in omega arith

  round_32 : round binary32 s N den ≡ units binary32 s (closest (N * 2 ^ 1074) (den * 2 ^ k * 2 ^ 29)) (k - 896)
  round_32 =
      round_is binary32 s N den
      ∙ ap (λ (x : ℕ). units binary32 s (closest (N * 2 ^ 149) (den * 2 ^ x)) x) dropped_32
      ∙ ap (λ (x : ℕ). units binary32 s x (k - 896))
      (closest_same (N * 2 ^ 149) (den * 2 ^ (k - 896)) (N * 2 ^ 1074) (den * 2 ^ k * 2 ^ 29) (mul-pos D (pow_pos (k - 896))) (mul-pos (mul-pos D (pow_pos k)) (pow_pos 29))
      (move N den (2 ^ 149) (2 ^ k) (2 ^ 29) (2 ^ 1074) (2 ^ (k - 896)) (sym (pow-add 2 149 (k + 29)) ∙ ap (λ (x : ℕ). 2 ^ x) (omega arith) ∙ pow-add 2 1074 (k - 896)) (pow-add 2 k 29)))
    where
      move : (n d a b c e g : ℕ) {h : ℕ} → a * h ≡ e * g → h ≡ b * c → n * a * (d * b * c) ≡ n * e * (d * g)
      move n d a b c e g {h} p q = let r = ap (λ (x : ℕ). n * d * a * x) q in let t = ap (λ (x : ℕ). n * d * x) p in omega arith

-- ---- so what is rounded at binary64 first
module _ (s : Bool) (N den : ℕ) (D : 0 < den) where
  abbrev k : ℕ
  k = dropped binary64 N den

  abbrev q : ℕ
  q = held binary64 N den

  abbrev r : Float
  r = round binary64 s N den

  -- the pattern without its sign
  magnitude : to_bits binary64 r % 2 ^ 63 ≡ min (k * 2 ^ 52 + q) (2047 * 2 ^ 52)
  magnitude = ap (λ (x : ℕ). x % 2 ^ 63) (pattern binary64 N den s) ∙ cut s (min_le (k * 2 ^ 52 + q))
    where
      min_le : (x : ℕ) → min x (2047 * 2 ^ 52) ≤ 2047 * 2 ^ 52
      min_le x = elim (lt_or_ge x (2047 * 2 ^ 52)) [ inl l ↦ le_trans (le_of_eq (min-eq_left (le_of_lt l))) (le_of_lt l) | inr l ↦ le_of_eq (min-eq_right l) ]

      cut : (s : Bool) {m : ℕ} → m ≤ 2047 * 2 ^ 52 → (cond s (2 ^ 63) 0 + m) % 2 ^ 63 ≡ m
      cut true {m} h = omega arith
      cut false {m} h = omega arith

  -- the parts of a harmless pattern
  parts : Harmless (to_bits binary64 r) → (to_bits binary64 r % 2 ^ 63 ≡ k * 2 ^ 52 + q)
  parts H = elim (lt_or_ge (k * 2 ^ 52 + q) (2047 * 2 ^ 52)) [
    | inl l ↦ magnitude ∙ min-eq_left (le_of_lt l)
    | inr l ↦ let m : to_bits binary64 r % 2 ^ 63 ≡ 2047 * 2 ^ 52 = magnitude ∙ min-eq_right l in absurd (H.no_power (low_of (to_bits binary64 r) m))
  ]
    where
      low_of : (b : ℕ) → b % 2 ^ 63 ≡ 2047 * 2 ^ 52 → b % 2 ^ 52 ≡ 0
      low_of b e = omega arith

  -- rounded at binary64, then narrowed: as if rounded at binary32 from the start
  pub narrowed_once : Harmless (to_bits binary64 r) → narrow r ≡ round binary32 s N den
  unfolding narrow convert
  narrowed_once H =
      let b = to_bits binary64 r in
      let e = parts H in
      let le = held_le binary64 N den in
      let n0 = H.normal in
      let K : 896 ≤ k = deep b k q e le n0 H.no_power in
      let ge : 2 ^ 52 ≤ q = held-ge binary64 N den (omega arith) in
      let lt : q < 2 ^ 53 = under b k q e le H.no_power in
      let mid : q % 2 ^ 29 ≡ 2 ^ 28 → ⊥ = λ h. H.no_middle (middle b k q e h) in
      let Z : size (N * 2 ^ 1074 / den) ≡ k + 53 = sizes (size (N * 2 ^ 1074 / den)) K in
      let v : HasValue r s (q * 2 ^ k) (2 ^ 1074) = round-units binary64 s N den (small k q lt (top k q (not_past b e) ge (λ h. H.no_power (ones_low b (e ∙ h))))) in
      let zq : size (q * 2 ^ k * 2 ^ 1074 / 2 ^ 1074) ≡ k + 53 = ap size (mul-div (q * 2 ^ k)) ∙ size_shl q k (lt_of_lt_of_le (pow_pos 52) ge) ∙ ap (λ (x : ℕ). x + k) (size-between q 52 ge lt) ∙ omega arith in
      of_value r v
      ∙ round_32 s (q * 2 ^ k) (2 ^ 1074) k (pow_pos 1074) K zq
      ∙ ap (λ (x : ℕ). units binary32 s x (k - 896)) (own ∙ sym (through (N * 2 ^ 1074) (den * 2 ^ k) q (mul-pos D (pow_pos k)) refl mid))
      ∙ sym (round_32 s N den k D K Z)
    where
      deep : (b k q : ℕ) → b % 2 ^ 63 ≡ k * 2 ^ 52 + q → q ≤ 2 ^ 53 → 897 ≤ b % 2 ^ 63 / 2 ^ 52 → (b % 2 ^ 52 ≡ 0 → ⊥) → 896 ≤ k
      deep b k q e l n h = elim (lt_or_ge k 896) [ inl g ↦ absurd (h (omega arith)) | inr g ↦ g ]

      under : (b k q : ℕ) → b % 2 ^ 63 ≡ k * 2 ^ 52 + q → q ≤ 2 ^ 53 → (b % 2 ^ 52 ≡ 0 → ⊥) → q < 2 ^ 53
      under b k q e l h = elim (lt_or_ge q (2 ^ 53)) [ inl g ↦ g | inr g ↦ absurd (h (omega arith)) ]

      middle : (b k q : ℕ) → b % 2 ^ 63 ≡ k * 2 ^ 52 + q → q % 2 ^ 29 ≡ 2 ^ 28 → b % 2 ^ 29 ≡ 2 ^ 28
      middle b k q e h = omega arith

      sizes : (z : ℕ) → 896 ≤ z - 53 → z ≡ z - 53 + 53
      sizes z h = omega arith

      not_past : (b : ℕ) → b % 2 ^ 63 ≡ k * 2 ^ 52 + q → k * 2 ^ 52 + q ≤ 2047 * 2 ^ 52
      not_past b e = le_trans (le_of_eq (sym (parts H) ∙ magnitude)) (least (k * 2 ^ 52 + q))
        where
          least : (x : ℕ) → min x (2047 * 2 ^ 52) ≤ 2047 * 2 ^ 52
          least x = elim (lt_or_ge x (2047 * 2 ^ 52)) [ inl l ↦ le_trans (le_of_eq (min-eq_left (le_of_lt l))) (le_of_lt l) | inr l ↦ le_of_eq (min-eq_right l) ]

      ones_low : (b : ℕ) → b % 2 ^ 63 ≡ 2047 * 2 ^ 52 → b % 2 ^ 52 ≡ 0
      ones_low b e = omega arith

      mul-lt : (u q : ℕ) → 0 < u → q < 2 ^ 53 → q * u < 2 ^ 53 * u
      mul-lt u q U l = let m = mul-le-mul_right u l in omega arith

      top : (k q : ℕ) → k * 2 ^ 52 + q ≤ 2047 * 2 ^ 52 → 2 ^ 52 ≤ q → (k * 2 ^ 52 + q ≡ 2047 * 2 ^ 52 → ⊥) → k ≤ 2045
      top k q l g h = elim (lt_or_ge k 2046) [ inl u ↦ omega arith | inr u ↦ absurd (h (omega arith)) ]

      small : (k q : ℕ) → q < 2 ^ 53 → k ≤ 2045 → q * 2 ^ k < 2 ^ 2098
      small k q l u = lt_of_lt_of_le (mul-lt (2 ^ k) q (pow_pos k) l) (le_trans (le_of_eq (sym (pow-add 2 53 k))) (pow_mono {i = 53 + k} {j = 2098} (omega arith)))

      mul-div : (x : ℕ) → x * 2 ^ 1074 / 2 ^ 1074 ≡ x
      mul-div x = mul-div_cancel x (pow_pos 1074)

      own : closest (q * 2 ^ k * 2 ^ 1074) (2 ^ 1074 * 2 ^ k * 2 ^ 29) ≡ closest q (2 ^ 29)
      own = closest_same (q * 2 ^ k * 2 ^ 1074) (2 ^ 1074 * 2 ^ k * 2 ^ 29) q (2 ^ 29) (mul-pos (mul-pos (pow_pos 1074) (pow_pos k)) (pow_pos 29)) (pow_pos 29) (move q (2 ^ k) (2 ^ 1074) (2 ^ 29))
        where
          move : (q k u m : ℕ) → q * k * u * m ≡ q * (u * k * m)
          move q k u m = omega arith

      of_value : (x : Float) → HasValue x s (q * 2 ^ k) (2 ^ 1074) → convert binary32 x ≡ round binary32 s (q * 2 ^ k) (2 ^ 1074)
      of_value nan v = absurd v
      of_value (inf t) v = absurd v
      of_value (fin t m e) v = ap (λ (z : Bool). round binary32 z (m * up e) (down e)) v.0 ∙ round_same binary32 s (m * up e) (down e) (q * 2 ^ k) (2 ^ 1074) (down_pos e) (pow_pos 1074) v.1
