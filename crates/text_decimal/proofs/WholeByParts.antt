-- A number in parts of eighteen digits: its text, and what doubling it makes of the parts. Assumes nothing.
use Prim.Native.Nat.{ℕ, ◌+◌, ◌*◌, ◌/◌, ◌%◌, ◌^◌, ◌≤◌, ◌<◌}
use mathlib.Core.Path.{◌≡◌, sym, ap, ◌∙◌}
use mathlib.Core.Logic.{inl, inr}
use mathlib.Core.List.{List, ◌++◌, append_assoc}
use native.Mathlib.Omega.{arith}
use native.Mathlib.Nat.{pow-suc, mul_assoc, lt_of_lt_of_le, le_trans, mul-le-mul_right}
use lib.Dec.{leb→le}
use native.Mathlib.Numerals.{add-one}
use lib.Pow.{shl_lt, pow_mono}
use Rattle.ieee.proofs.Closest.{lt_or_ge}
use Rattle.text_decimal.specs.Dec6.{lowest_digits, whole_text}
use Rattle.text_decimal.proofs.DigitParts.{decimal_join, enough}

module _ (l m h : ℕ) (L : l < 10 ^ 18) (M : m < 10 ^ 18) where
  pub three-parts : 0 < h → h < 1000 → whole_text h ++ (lowest_digits 18 m ++ lowest_digits 18 l) ≡ whole_text (l + m * 10 ^ 18 + h * 10 ^ 36)
  three-parts H S =
      let whole : (h * 10 ^ 18 + m) * 10 ^ 18 + l ≡ l + m * 10 ^ 18 + h * 10 ^ 36 = omega arith in
      sym (append_assoc (whole_text h) (lowest_digits 18 m) (lowest_digits 18 l))
      ∙ ap (λ (x : List ℕ). (x ++ lowest_digits 18 m) ++ lowest_digits 18 l) (enough 3 36 h (omega arith) S)
      ∙ ap (λ (x : List ℕ). x ++ lowest_digits 18 l) (sym (decimal_join 3 18 h m H M))
      ∙ sym (decimal_join 21 18 (h * 10 ^ 18 + m) l (omega arith) L)
      ∙ ap whole_text whole

  pub two-parts : 0 < m → h ≡ 0 → whole_text m ++ lowest_digits 18 l ≡ whole_text (l + m * 10 ^ 18 + h * 10 ^ 36)
  two-parts P Z =
      let whole : m * 10 ^ 18 + l ≡ l + m * 10 ^ 18 + h * 10 ^ 36 = omega arith in
      ap (λ (x : List ℕ). x ++ lowest_digits 18 l) (enough 21 18 m (omega arith) (omega arith)) ∙ sym (decimal_join 21 18 m l P L) ∙ ap whole_text whole

-- ---- m * 2 ^ d
pub power_below : (m d : ℕ) → m < 2 ^ 24 → d ≤ 104 → m * 2 ^ d < 2 ^ 128
power_below m d M D = lt_of_lt_of_le (shl_lt 24 d M) (pow_mono {i = 24 + d} {j = 128} (omega arith))

pub power-next : (m d : ℕ) → m * 2 ^ (d + 1) ≡ m * 2 ^ d * 2
power-next m d = ap (λ (x : ℕ). m * 2 ^ x) (add-one d) ∙ ap (λ (x : ℕ). m * x) (pow-suc 2 d) ∙ sym (mul_assoc m (2 ^ d) 2)

pub doubled_parts : (l m h n : ℕ) → l < 10 ^ 18 → m < 10 ^ 18 → l + m * 10 ^ 18 + h * 10 ^ 36 ≡ n
    → l * 2 % 1000000000000000000 + (m * 2 + l * 2 / 1000000000000000000) % 1000000000000000000 * 10 ^ 18 + (h * 2 + (m * 2 + l * 2 / 1000000000000000000) / 1000000000000000000) * 10 ^ 36 ≡ n * 2
doubled_parts l m h n L M e = omega arith

-- ---- the upper part is small. (`omega` stops at numbers of more than 38 digits, so 10 ^ 36 is kept from it)
part_le : (a x n : ℕ) → a + x ≡ n → x ≤ n
part_le a x n e = omega arith

both : (x y n : ℕ) → x ≤ n → n < y → y ≤ x → ⊥
both x y n a b c = omega arith

pub high_small : (l m h n : ℕ) → l + m * 10 ^ 18 + h * 10 ^ 36 ≡ n → n < 2 ^ 128 → h < 1000
high_small l m h n e b = elim (lt_or_ge h 1000) [
  | inl s ↦ s
  | inr g ↦ absurd (both (h * 10 ^ 36) (2 ^ 128) n (part_le (l + m * 10 ^ 18) (h * 10 ^ 36) n e) b (le_trans (leb→le (2 ^ 128) (1000 * 10 ^ 36) tt) (mul-le-mul_right (10 ^ 36) g)))
]

pub high_doubled : (h : ℕ) → h < 1000 → h * 2 < 2 ^ 64
high_doubled h H = omega arith

pub high-carried : (l m h : ℕ) → l < 10 ^ 18 → m < 10 ^ 18 → h < 1000 → h * 2 + (m * 2 + l * 2 / 1000000000000000000) / 1000000000000000000 < 2 ^ 64
high-carried l m h L M H =
    let carry = carry-small (m * 2 + l * 2 / 1000000000000000000) (omega arith) in
    few h ((m * 2 + l * 2 / 1000000000000000000) / 1000000000000000000) H carry
  where
    carry-small : (x : ℕ) → x < 4000000000000000000 → x / 1000000000000000000 < 4
    carry-small x X = omega arith

    few : (h y : ℕ) → h < 1000 → y < 4 → h * 2 + y < 2 ^ 64
    few h y H Y = omega arith

pub one-part : (l m h : ℕ) → m ≤ 0 → h ≤ 0 → l ≡ l + m * 10 ^ 18 + h * 10 ^ 36
one-part l m h M H = omega arith
