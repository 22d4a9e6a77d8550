-- The f64 beat of a row, narrowed, is the row's f32 beat: rounded twice or once, it is the same, since the f64 beat is close to the 48th. Assumes nothing.
use Rattle.std.proofs.Common.{◌≡◌, ℕ, zero, suc, ◌+◌, ◌*◌, ◌^◌, ◌<◌, ◌≤◌, ℤ, pos, negsuc, nat_abs, sym, refl, ap, ◌∙◌, le_trans, le_of_eq, mul-le-mul_right, zero-lt-suc, mul_assoc, one-mul, mul_right_comm, arith, lit≤, pow_pos, pow-add}
use lib.Ieee.{binary32, binary64, div, of_int}
use lib.Ieee.Scale.{grid}
use Rattle.ieee.specs.Narrowing.{narrow}
use Rattle.ieee.proofs.Narrow.{narrow-value}
use Rattle.ieee.proofs.RoundedSize.{grid_ge, grid_near}
use Rattle.ieee.proofs.SignedSizes.{negative}
use Rattle.limits.specs.Numbers.{most_row}
use Rattle.rows.specs.Rows.{beat_of}
use Rattle.rows.proofs.RowValue.{tiny, beat-rounded, beat-value}
use Rattle.rows.proofs.FortyEighths.{Close, close-round}

-- the f64 beat in its own smallest units, of which 2 ^ 1074 make 1
close : (n : ℕ) → 0 < n → Close binary32 n (grid binary64 n 48) (2 ^ 1074)
close n N =
    record {
      one_pos = pow_pos 1074;
      near = grid_near binary64 n 48 (zero-lt-suc 47) (le_trans (tiny binary64) (le_trans (le_of_eq (sym (one-mul (2 ^ 1074)))) (mul-le-mul_right (2 ^ 1074) N))) 67108864 (lit≤ tt);
      reaches = reaches;
    }
  where
    -- 149 and 925 make 1074
    joined : (x : ℕ) → x * 2 ^ 925 * 2 ^ 149 ≡ x * 2 ^ 1074
    joined x = mul_assoc x (2 ^ 925) (2 ^ 149)

    reaches : (j : ℕ) → 2 ^ (23 + j) * 48 ≤ n * 2 ^ 149 → 2 ^ (23 + j) * 2 ^ 1074 ≤ grid binary64 n 48 * 2 ^ 149
    reaches j h =
        let power = 2 ^ (23 + j) in
        let p : 2 ^ (23 + j + 925) ≡ power * 2 ^ 925 = pow-add 2 (23 + j) 925 in
        let l : 2 ^ (23 + j + 925) ≤ grid binary64 n 48 =
        grid_ge binary64 n 48 (23 + j + 925) (zero-lt-suc 47)
        (le_trans (le_of_eq (ap (λ (x : ℕ). x * 48) p ∙ mul_right_comm power (2 ^ 925) 48)) (le_trans (mul-le-mul_right (2 ^ 925) h) (le_of_eq (mul_right_comm n (2 ^ 149) (2 ^ 925) ∙ joined n)))) in
        le_trans (le_of_eq (sym (ap (λ (x : ℕ). x * 2 ^ 149) p ∙ joined power))) (mul-le-mul_right (2 ^ 149) l)

above_zero : (r : ℤ) → 0 < nat_abs r → nat_abs r ≤ most_row → narrow (beat_of binary64 r) ≡ beat_of binary32 r
above_zero r R h =
    let n = nat_abs r in
    narrow-value (beat_of binary64 r) (negative r) (grid binary64 n 48) (2 ^ 1074) (pow_pos 1074) (beat-value binary64 r h)
    ∙ close-round binary32 n R (omega arith) (grid binary64 n 48) (2 ^ 1074) (close n R) (negative r)
    ∙ sym (beat-rounded binary32 r (omega arith))

pub narrowed-beat : (r : ℤ) → nat_abs r ≤ most_row → narrow (beat_of binary64 r) ≡ beat_of binary32 r
unfolding narrow div of_int
narrowed-beat (pos zero) h = refl
narrowed-beat (pos (suc n)) h = above_zero (pos (suc n)) (zero-lt-suc n) h
narrowed-beat (negsuc n) h = above_zero (negsuc n) (zero-lt-suc n) h
