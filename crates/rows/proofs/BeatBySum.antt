-- A whole number up to 2 ^ 32 in size times two parts of a 48th, added, is its 48th, rounded: the f64 beat of a row, and of so many rows between two. The larger part has 21 digits, so the number times it is exact; the other is off by one part in 2 ^ 53, and so is the number times it: the sum is far closer to the 48th than it has to be. Assumes nothing.
use Rattle.std.proofs.Common.{◌≡◌, ℕ, zero, suc, ◌+◌, ◌-◌, ◌*◌, ◌^◌, ◌<◌, ◌≤◌, Bool, false, ℤ, pos, negsuc, nat_abs, sym, refl, ap, ◌∙◌, subst, le_trans, le_of_eq, lt_of_lt_of_le, mul-le-mul_right, zero-lt-suc, mul_assoc, mul_comm, mul-le-mul_left, mul-lt-mul_of_pos_right, one-mul, mul_right_comm, le_of_mul-le-mul_right, arith, lit<, lit≤, pow_pos, pow-add}
use lib.Signed.{mag}
use lib.Ieee.{Float, fin, binary64, round, add, mul, div, of_int}
use lib.Ieee.Exact.{HasValue, round_exact}
use lib.Ieee.Scale.{grid}
use Rattle.ieee.proofs.ByValue.{add-value, mul-value, whole-value}
use Rattle.ieee.proofs.RoundedSize.{Near, grid_fine, grid_ge, grid_near}
use Rattle.ieee.proofs.SignedSizes.{negative}
use Rattle.ieee.proofs.Units.{round-units}
use Rattle.rows.specs.Rows.{beat_of}
use Rattle.rows.specs.Marks.{larger_part, smaller, forty_eighth}
use Rattle.rows.proofs.RowValue.{unlike-positive, beat-rounded}
use Rattle.rows.proofs.FortyEighths.{Close, close-round}

-- ---- with x a number of smallest units: `rest` is near to x times the smaller part, so the two parts of x are near to x / 48
rest-above : (x rest : ℕ) → rest * 2 ^ 79 * 2 ^ 36 ≤ x * 3002399751580331 * 2 ^ 36 + x * 3002399751580331 → rest * 3 * 2 ^ 61 ≤ x * (2 ^ 35 + 1)
rest-above x rest l =
    let thrice : rest * 3 * 2 ^ 61 * 2 ^ 54 ≤ x * (3002399751580331 * (2 ^ 36 + 1) * 3) = omega arith in
    le_of_mul-le-mul_right {k = 2 ^ 54} (le_trans thrice (le_trans (mul-le-mul_left x (lit≤ tt)) (le_of_eq (sym (mul_assoc x (2 ^ 35 + 1) (2 ^ 54)))))) (pow_pos 54)

rest_below : (x rest : ℕ) → x * 3002399751580331 * 2 ^ 36 ≤ rest * 2 ^ 79 * 2 ^ 36 + x * 3002399751580331 → x * (2 ^ 35 - 1) ≤ rest * 3 * 2 ^ 61
rest_below x rest l =
    let thrice : x * (3002399751580331 * (2 ^ 36 - 1) * 3) ≤ rest * 3 * 2 ^ 61 * 2 ^ 54 = omega arith in
    le_of_mul-le-mul_right {k = 2 ^ 54} (le_trans (le_of_eq (mul_assoc x (2 ^ 35 - 1) (2 ^ 54))) (le_trans (mul-le-mul_left x (lit≤ tt)) thrice)) (pow_pos 54)

parts-near : (x rest : ℕ) → rest * 3 * 2 ^ 61 ≤ x * (2 ^ 35 + 1) → x * (2 ^ 35 - 1) ≤ rest * 3 * 2 ^ 61 → Near (2 ^ 56) ((x * 1398101 + rest * 2 ^ 26) * 48) (x * 2 ^ 26)
parts-near x rest above below = (omega arith, omega arith)

sum_near : (n unit rest : ℕ) → Near (2 ^ 36) (rest * 2 ^ 79) (n * 3002399751580331 * unit) → Near (2 ^ 56) ((n * 1398101 * unit + rest * 2 ^ 26) * 48) (n * (2 ^ 26 * unit))
sum_near n unit rest near =
    let x = n * unit in
    let near' = subst (λ (z : ℕ). Near (2 ^ 36) (rest * 2 ^ 79) z) (mul_right_comm n 3002399751580331 unit) near in
    subst (λ (z : ℕ). Near (2 ^ 56) ((z + rest * 2 ^ 26) * 48) (n * (2 ^ 26 * unit))) (mul_right_comm n unit 1398101)
    (subst (λ (z : ℕ). Near (2 ^ 56) ((x * 1398101 + rest * 2 ^ 26) * 48) z) (mul_assoc n unit (2 ^ 26) ∙ ap (λ (z : ℕ). n * z) (mul_comm unit (2 ^ 26)))
    (parts-near x rest (rest-above x rest near'.0) (rest_below x rest near'.1)))

-- and reach a power of two that n / 48 reaches, if `rest` reaches its share
share : (n unit power : ℕ) → power * 2 ^ 22 * 48 ≤ n * unit → power * 2 ^ 79 ≤ n * 3002399751580331 * unit
share n unit power l = omega arith

sum-reaches : (n unit rest power : ℕ) → power * 2 ^ 22 * 48 ≤ n * unit → power ≤ rest → power * 2 ^ 22 * (2 ^ 26 * unit) ≤ (n * 1398101 * unit + rest * 2 ^ 26) * unit
sum-reaches n unit rest power l g =
    let k : power * 2 ^ 22 * 2 ^ 26 ≤ n * 1398101 * unit + rest * 2 ^ 26 = omega arith in
    le_trans (le_of_eq (sym (mul_assoc (power * 2 ^ 22) (2 ^ 26) unit))) (mul-le-mul_right unit k)

module _ (n : ℕ) (N : 0 < n) (h : n ≤ 2 ^ 32) where
  -- n times the smaller part, rounded, in smallest units
  abbrev rest : ℕ
  rest = grid binary64 (n * 3002399751580331) (2 ^ 79)

  -- the sum, before it is rounded
  abbrev total : ℕ
  total = n * 1398101 * 2 ^ 1074 + rest * 2 ^ 26

  abbrev one : ℕ
  one = 2 ^ 26 * 2 ^ 1074

  close : Close binary64 n total one
  close =
      record {
        one_pos = lit< tt;
        near =
            let some : 1 ≤ n * 3002399751580331 = omega arith in
            let near = grid_near binary64 (n * 3002399751580331) (2 ^ 79) (pow_pos 79) (le_trans (lit≤ {m = 2 ^ 52 * 2 ^ 79} {n = 1 * 2 ^ 1074} tt) (mul-le-mul_right (2 ^ 1074) some)) 34359738368 (lit≤ tt) in
            sum_near n (2 ^ 1074) rest near;
        reaches =
            λ j l.
            let power = 2 ^ (30 + j) in
            let p : 2 ^ (52 + j) ≡ power * 2 ^ 22 = ap (λ (x : ℕ). 2 ^ x) (omega arith) ∙ pow-add 2 (30 + j) 22 in
            let l' : power * 2 ^ 22 * 48 ≤ n * 2 ^ 1074 = subst (λ (x : ℕ). x * 48 ≤ n * 2 ^ 1074) p l in
            let g = grid_ge binary64 (n * 3002399751580331) (2 ^ 79) (30 + j) (pow_pos 79) (share n (2 ^ 1074) power l') in
            subst (λ (x : ℕ). x * one ≤ total * 2 ^ 1074) (sym p) (sum-reaches n (2 ^ 1074) rest power l' g);
      }

  larger-product : (s : Bool) → HasValue (round binary64 s (n * 1398101) (2 ^ 26)) s (n * 1398101) (2 ^ 26)
  larger-product s =
      let few : n * 1398101 < 2 ^ 53 = omega arith in
      round_exact binary64 s (n * 1398101) (2 ^ 26) (n * 1398101) 1048 (pow_pos 26) few (lt_of_lt_of_le (mul-lt-mul_of_pos_right few (pow_pos 1048)) (lit≤ tt))
      (sym (mul_assoc (n * 1398101) (2 ^ 1048) (2 ^ 26)))

  smaller-product : (s : Bool) → HasValue (round binary64 s (n * 3002399751580331) (2 ^ 79)) s rest (2 ^ 1074)
  smaller-product s = round-units binary64 s (n * 3002399751580331) (2 ^ 79) (grid_fine binary64 (n * 3002399751580331) (2 ^ 79) 32 (pow_pos 79) (lit< tt) (omega arith))

  sum-rounded : (x : Float) (s : Bool) → HasValue x s n 1 → forty_eighth x ≡ round binary64 s n 48
  unfolding forty_eighth
  sum-rounded x s v =
      add-value binary64 (mul binary64 x larger_part) (mul binary64 x smaller) s (n * 1398101) (2 ^ 26) rest (2 ^ 1074) (pow_pos 26) (pow_pos 1074)
      (subst (λ (y : Float). HasValue y s (n * 1398101) (2 ^ 26)) (sym (product larger_part 1398101 (2 ^ 26) (pow_pos 26) (refl, refl))) (larger-product s))
      (subst (λ (y : Float). HasValue y s rest (2 ^ 1074)) (sym (product smaller 3002399751580331 (2 ^ 79) (pow_pos 79) (refl, refl))) (smaller-product s))
      ∙ close-round binary64 n N (omega arith) total one close s
    where
      product : (y : Float) (b d : ℕ) → 0 < d → HasValue y false b d → mul binary64 x y ≡ round binary64 s (n * b) d
      product y b d D w =
          mul-value binary64 x y s false n 1 b d (zero-lt-suc 0) D v w
          ∙ ap (λ (t : Bool). round binary64 t (n * b) (1 * d)) (unlike-positive s)
          ∙ ap (λ (z : ℕ). round binary64 s (n * b) z) (one-mul d)

above_zero : (r : ℤ) → 0 < nat_abs r → nat_abs r ≤ 2 ^ 32 → forty_eighth (of_int binary64 r) ≡ beat_of binary64 r
above_zero r R h = sum-rounded (nat_abs r) R h (of_int binary64 r) (negative r) (whole-value binary64 r (omega arith)) ∙ sym (beat-rounded binary64 r (omega arith))

pub beat_by_sum : (r : ℤ) → nat_abs r ≤ 2 ^ 32 → forty_eighth (of_int binary64 r) ≡ beat_of binary64 r
unfolding forty_eighth add mul div of_int
beat_by_sum (pos zero) h = refl
beat_by_sum (pos (suc n)) h = above_zero (pos (suc n)) (zero-lt-suc n) h
beat_by_sum (negsuc n) h = above_zero (negsuc n) (zero-lt-suc n) h

-- so of every i32
pub i32_by_sum : (r : ℤ) → mag r < 2 ^ 31 → forty_eighth (of_int binary64 r) ≡ beat_of binary64 r
i32_by_sum (pos n) h = beat_by_sum (pos n) (omega arith)
i32_by_sum (negsuc n) h = beat_by_sum (negsuc n) (omega arith)
