-- A row's beat has that row again, whichever widths the two are worked out at: the quotient and the product are each off by at most one part in 2 ^ 24. Assumes nothing.
use Rattle.std.proofs.Common.{◌≡◌, ℕ, ◌-◌, ◌*◌, ◌^◌, ◌<◌, ◌≤◌, ℤ, nat_abs, sym, ap, ◌∙◌, inl, inr, le_trans, le_of_eq, mul-le-mul_right, zero-lt-suc, mul_assoc, mul_comm, eq-zero-or-pos, mul-le-mul_left, mul-pos, one-mul, arith, lit≤, pow_pos}
use native.Mathlib.Nat.{mul-mul-mul_comm}
use lib.Ieee.{Format, binary32, binary64, prec, low}
use lib.Ieee.Nearest.{closest_same}
use lib.Ieee.Scale.{grid}
use Rattle.ieee.specs.Rounding.{signed}
use Rattle.ieee.specs.Nearest.{NearestWhole}
use Rattle.ieee.proofs.NearestWhole.{closest_is}
use Rattle.ieee.proofs.RoundedSize.{Near, grid_le, grid_near, near-scaled}
use Rattle.ieee.proofs.SignedSizes.{negative, signed_is}
use Rattle.limits.specs.Numbers.{most_row}
use Rattle.rows.specs.Rows.{row, beat_of}
use Rattle.rows.proofs.RowValue.{tiny, row_size, row-value, row_size_le, beat-sized}

-- ---- a width has 24 digits at least
digits : (f : Format) → 8388608 ≤ 2 ^ (prec f - 1)
digits binary32 = lit≤ tt
digits binary64 = lit≤ tt

-- ---- in units of one: r of them, the quotient times 48, and the product
settled : (exact quotient product one r : ℕ) → exact ≡ r * one → r ≤ most_row → 0 < one → Near 16777216 quotient exact → Near 16777216 product quotient → NearestWhole product one r
settled exact quotient product one r e h O p q = let l : r * one ≤ most_row * one = mul-le-mul_right one h in omega arith

again : (f g : Format) (r : ℕ) → 0 < r → r ≤ most_row → row_size f (grid g r 48) (2 ^ low g) ≡ r
again f g r R h =
    let L = 2 ^ low f in
    let M = 2 ^ low g in
    let v = grid g r 48 in
    let w = grid f (v * 48) M in
    let p = 2 ^ (prec f - 1) in
    let lo : M ≤ r * M = le_trans (le_of_eq (sym (one-mul M))) (mul-le-mul_right M R) in
    let first = grid_near g r 48 (zero-lt-suc 47) (le_trans (tiny g) lo) 8388608 (digits g) in
    let enough : M ≤ v * 2304 = omega arith in
    let normal : p * M ≤ v * 48 * L = le_trans (mul-le-mul_left p enough) (le_trans (le_of_eq (sym (mul_assoc p v 2304) ∙ ap (λ (n : ℕ). n * 2304) (mul_comm p v) ∙ sym (mul-mul-mul_comm v 48 p 48))) (mul-le-mul_left (v * 48) (tiny f))) in
    let second = grid_near f (v * 48) M (pow_pos (low g)) normal 8388608 (digits f) in
    let P : 0 < L * M = mul-pos (pow_pos (low f)) (pow_pos (low g)) in
    closest_same w L (w * M) (L * M) (pow_pos (low f)) P (ap (λ (n : ℕ). w * n) (mul_comm L M) ∙ sym (mul_assoc w M L))
    ∙ closest_is (w * M) (L * M) r P
    (settled (r * M * L) (v * 48 * L) (w * M) (L * M) r (mul_assoc r M L ∙ ap (λ (n : ℕ). r * n) (mul_comm M L)) h P
    (near-scaled 16777216 (v * 48) (r * M) L first) second)

size-again : (f g : Format) (r : ℕ) → r ≤ most_row → row_size f (grid g r 48) (2 ^ low g) ≡ r
size-again f g r h = elim (eq-zero-or-pos r) [
  | inl z ↦
      let v = grid_le g r 48 0 (zero-lt-suc 47) (pow_pos (prec g)) (omega arith) in
      let l = row_size_le f (grid g r 48) (2 ^ low g) (pow_pos (low g)) 0 (pow_pos (prec f)) (omega arith) in
      omega arith
  | inr R ↦ again f g r R h
]

pub row_of_beat : (f g : Format) (r : ℤ) → nat_abs r ≤ most_row → row f (beat_of g r) ≡ r
unfolding beat-sized
row_of_beat f g r h = row-value f (beat_of g r) (beat-sized g r h) ∙ ap (signed (negative r)) (size-again f g (nat_abs r) h) ∙ signed_is r
