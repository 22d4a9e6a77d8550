-- A multiply-add of three f64 at a format f, by their patterns: from the exact sum of two whole numbers, cut short. This is the one fact that both forms are proved from. Assumes nothing.
use Rattle.std.proofs.Common.{◌≡◌, ℕ, suc, ◌+◌, ◌-◌, ◌*◌, ◌%◌, ◌^◌, ◌<◌, ◌≤◌, Bool, cond, leb, ◌⊎◌, sym, ap, ◌∙◌, subst, ap₂, inl, inr, le_trans, eq-zero-or-pos, lt_of_mul-lt-mul_right, mul-pos, arith, pow_pos, pow_mono, pow-add}
use mathlib.Core.Bool.{beq}
use lib.Ieee.{Format, binary64, prec, low, unlike, round, sum, of_bits}
use lib.Ieee.Bits.{of_bits-to_bits}
use lib.Ieee.Exact.{HasValue}
use lib.Ieee.Fits.{round-fits}
use Rattle.ieee.proofs.Values.{rescaled}
use Rattle.ieee.proofs.PatternValue.{pattern-value, digits_lt, digits-full}
use Rattle.ieee.proofs.SumBySigns.{sum-signed, sum_cancelled}
use Rattle.ieee.specs.inside.PatternParts.{field_of, digits_of, power_of}
use Rattle.ieee.specs.inside.SumSize.{sum_size}
use Rattle.ieee_mul_add.specs.MulAdd.{mul_add}
use Rattle.ieee_mul_add.specs.inside.CutSum.{product_of, addend_of, Summed}
use Rattle.ieee_mul_add.specs.inside.RoundedFromCut.{RoundedFrom}
use Rattle.ieee_odd_cut.proofs.OneOddCut.{IsOddCut, is_odd_cut, cut_to_zero}
use Rattle.ieee_odd_cut.proofs.RoundsAsUncut.{cut-pattern}
use Rattle.ieee_mul_add.proofs.ByFractions.{mul_add_values}
use Rattle.ieee_mul_add.proofs.DeepEnough.{deep-enough}

-- ---- the exact sum, over 2 ^ 2232
module _ (a b c : ℕ) (FA : field_of binary64 a < 2047) (FB : field_of binary64 b < 2047) (FC : field_of binary64 c < 2047) where
  -- m, n, o are the digits and i, j, k the powers of the three; s is the sign of the product and t that of the addend; A and B are the two as whole numbers over 2 ^ 2232
  abbrev m : ℕ
  m = digits_of binary64 a

  abbrev n : ℕ
  n = digits_of binary64 b

  abbrev o : ℕ
  o = digits_of binary64 c

  abbrev i : ℕ
  i = power_of binary64 a

  abbrev j : ℕ
  j = power_of binary64 b

  abbrev k : ℕ
  k = power_of binary64 c

  abbrev s : Bool
  s = unlike (leb (2 ^ 63) a) (leb (2 ^ 63) b)

  abbrev t : Bool
  t = leb (2 ^ 63) c

  abbrev A : ℕ
  A = product_of m n * 2 ^ (i + j + 64)

  abbrev B : ℕ
  B = addend_of o * 2 ^ (k + 1085)

  -- the three numbers over bottoms that make it 2 ^ 2232
  first : HasValue (of_bits binary64 a) (leb (2 ^ 63) a) (m * 1024 * 2 ^ i) (2 ^ 1084)
  first = rescaled (of_bits binary64 a) (leb (2 ^ 63) a) (m * 2 ^ i) (2 ^ 1074) (m * 1024 * 2 ^ i) (2 ^ 1084) (pow_pos 1074) (move m (2 ^ i) (2 ^ 1074) (2 ^ 1084) (pow-add 2 1074 10)) (pattern-value binary64 a FA)
    where
      move : (m p u v : ℕ) → v ≡ u * 1024 → m * 1024 * p * u ≡ m * p * v
      move m p u v e = let q = ap (λ (x : ℕ). m * p * x) e in omega arith

  second : HasValue (of_bits binary64 b) (leb (2 ^ 63) b) (n * 1024 * 2 ^ (j + 64)) (2 ^ 1148)
  second = rescaled (of_bits binary64 b) (leb (2 ^ 63) b) (n * 2 ^ j) (2 ^ 1074) (n * 1024 * 2 ^ (j + 64)) (2 ^ 1148) (pow_pos 1074) (move n (2 ^ j) (2 ^ 64) (2 ^ (j + 64)) (2 ^ 1074) (2 ^ 1148) (pow-add 2 j 64) (pow-add 2 1074 74 ∙ ap (λ (x : ℕ). 2 ^ 1074 * x) (pow-add 2 10 64))) (pattern-value binary64 b FB)
    where
      move : (n p w pw u v : ℕ) → pw ≡ p * w → v ≡ u * (1024 * w) → n * 1024 * pw * u ≡ n * p * v
      move n p w pw u v d e = let q = ap (λ (x : ℕ). n * p * x) e in let r = ap (λ (x : ℕ). n * 1024 * x * u) d in omega arith

  third : HasValue (of_bits binary64 c) t B (2 ^ 1084 * 2 ^ 1148)
  third = rescaled (of_bits binary64 c) t (o * 2 ^ k) (2 ^ 1074) B (2 ^ 1084 * 2 ^ 1148) (pow_pos 1074) (move o (2 ^ k) (2 ^ 64) (2 ^ 1085) (2 ^ (k + 1085)) (2 ^ 1074) (2 ^ 1084 * 2 ^ 1148) (pow-add 2 k 1085) (sym (pow-add 2 1084 1148) ∙ pow-add 2 1074 1158 ∙ ap (λ (x : ℕ). 2 ^ 1074 * x) (pow-add 2 9 1149 ∙ ap (λ (x : ℕ). 512 * x) (pow-add 2 64 1085)))) (pattern-value binary64 c FC)
    where
      move : (o p w r pr u v : ℕ) → pr ≡ p * r → v ≡ u * (512 * (w * r)) → o * 512 * w * pr * u ≡ o * p * v
      move o p w r pr u v d e = let q = ap (λ (x : ℕ). o * p * x) e in let g = ap (λ (x : ℕ). o * 512 * w * x * u) d in omega arith

  -- the exact sum is a whole number over 2 ^ 2232, and the multiply-add is that, rounded
  pub exact-sum : (f : Format) → mul_add f (of_bits binary64 a) (of_bits binary64 b) (of_bits binary64 c) ≡ sum f s A t B (2 ^ 2232)
  exact-sum f =
      mul_add_values f (of_bits binary64 a) (of_bits binary64 b) (of_bits binary64 c) (leb (2 ^ 63) a) (leb (2 ^ 63) b) t (m * 1024 * 2 ^ i) (n * 1024 * 2 ^ (j + 64)) B (2 ^ 1084) (2 ^ 1148) (pow_pos 1084) (pow_pos 1148) first second third
      ∙ ap₂ (λ (x d : ℕ). sum f s x t B d) (join (m * 1024) (n * 1024) (2 ^ i) (2 ^ (j + 64)) (2 ^ (i + j + 64)) (ap (λ (x : ℕ). 2 ^ x) (omega arith) ∙ pow-add 2 i (j + 64))) (sym (pow-add 2 1084 1148))
    where
      join : (m n p q r : ℕ) → r ≡ p * q → m * p * (n * q) ≡ m * n * r
      join m n p q r e = let g = ap (λ (x : ℕ). m * n * x) e in omega arith

  -- ---- rounded at f, from the sum cut at 2 ^ y
  module _ (M0 : 0 < digits_of binary64 a) (N0 : 0 < digits_of binary64 b) (f : Format) (d : ℕ) (small : prec f ≤ 53) (fine : 1158 ≤ d) (base : d + low f ≡ 2232)
      (w y : ℕ) (larger : Bool) (S : Summed (beq (unlike (leb (2 ^ 63) a) (leb (2 ^ 63) b)) (leb (2 ^ 63) c)) (product_of (digits_of binary64 a) (digits_of binary64 b)) (power_of binary64 a + power_of binary64 b + 64) (addend_of (digits_of binary64 c)) (power_of binary64 c + 1085) w y larger) where
    abbrev alike : Bool
    alike = beq s t

    abbrev N : ℕ
    N = sum_size alike A B

    odd : IsOddCut N (2 ^ y) w
    odd = subst (λ (x : ℕ). IsOddCut N (2 ^ y) x) (sym S.cut) (is_odd_cut N (2 ^ y) (pow_pos y))

    enough : (w * 2 ^ y ≡ N) ⊎ ((y + 2 ≤ d) ⊎ (2 ^ (suc (prec f) + y) ≤ N))
    enough = elim (deep-enough m n o i j k (digits_lt binary64 a) (digits_lt binary64 b) (digits_lt binary64 c) M0 N0 (digits-full binary64 a) (digits-full binary64 b) (digits-full binary64 c) alike w y S.at odd) [
      | inl e ↦ inl e
      | inr (inl l) ↦ inr (inl (le_trans l fine))
      | inr (inr l) ↦ inr (inr (le_trans (pow_mono {i = suc (prec f) + y} {j = 54 + y} (omega arith)) l))
    ]

    A0 : 0 < A
    A0 = mul-pos (mul-pos (mul-pos M0 (omega arith)) (mul-pos N0 (omega arith))) (pow_pos (i + j + 64))

    none-cut : (x g v : ℕ) → 0 < g → IsOddCut x g v → x ≡ 0 → v ≡ 0
    none-cut x g v G (inl e) z = elim (eq-zero-or-pos v) [ inl h ↦ h | inr h ↦ let p = mul-pos h G in absurd (omega arith) ]
    none-cut x g v G (inr h) z = let l : v < 1 = lt_of_mul-lt-mul_right g (at h z) in absurd (omega arith)
      where
        at : (v % 2 ≡ 1) × (v * g < x + g) × (x < v * g + g) → x ≡ 0 → v * g < 1 * g
        at h z = omega arith

    -- what is rounded from the cut is the multiply-add
    pub rounded_from_cut : RoundedFrom f d (cond larger t s) w y (mul_add f (of_bits binary64 a) (of_bits binary64 b) (of_bits binary64 c))
    rounded_from_cut =
        record {
          none = λ z. exact-sum f ∙ sum_cancelled f s t A B (2 ^ 2232) (pow_pos 2232) A0 (cut_to_zero N (2 ^ y) w odd z);
          some = λ p.
              let P : 0 < N = elim (eq-zero-or-pos N) [ inl z ↦ let e = none-cut N (2 ^ y) w (pow_pos y) odd z in absurd (omega arith) | inr q ↦ q ] in
              exact-sum f ∙ sum-signed f s t A B (2 ^ 2232) P
              ∙ ap₂ (λ (q : Bool) (x : ℕ). round f (cond q t s) N (2 ^ x)) (sym S.larger) (sym base)
              ∙ sym (of_bits-to_bits f (round f (cond larger t s) N (2 ^ (d + low f))) (round-fits f (cond larger t s) N (2 ^ (d + low f))))
              ∙ ap (of_bits f) (cut-pattern f (cond larger t s) d y N w odd enough);
        }
