-- How long a number's text is at most. Assumes nothing.
use Prim.Native.Nat.{ℕ, zero, suc, ◌+◌, ◌-◌, ◌*◌, ◌/◌, ◌^◌, ◌≤◌, ◌<◌}
use mathlib.Core.Path.{◌≡◌, refl, ap, ◌∙◌}
use mathlib.Core.Bool.{Bool, true, false}
use native.Mathlib.Omega.{arith}
use lib.IntN.{ℤ}
use lib.ListN.{length, length-append}
use lib.Ieee.{Float, nan, inf, fin, up, down}
use lib.Ieee.Fits.{down_pos}
use native.Mathlib.Nat.{le_trans, le_of_eq, mul-le-mul_right, mul_right_comm, le_of_mul-le-mul_right}
use Rattle.ieee.proofs.Magnitude.{AtMost}
use Rattle.ieee.proofs.ClosestLaws.{closest_le}
use Rattle.text_page.specs.Digits.{decimal_digits}
use Rattle.text_page.proofs.DigitSizes.{decimal_size}
use Rattle.text_decimal.specs.Dec6.{lowest_digits, minus_sign, millionths_text, millionths, dec6}
use Rattle.text_decimal.proofs.DigitParts.{enough}

pub last-size : (k n : ℕ) → length (lowest_digits k n) ≡ k
unfolding lowest_digits
last-size zero n = refl
last-size (suc k) n = simp length-append (omega (arith, last-size k (n / 10)))

millionths-size : (n : ℕ) → length (millionths_text n) ≤ 46
unfolding millionths_text
millionths-size n = simp length-append (omega (arith, decimal_size 39 (n / 1000000), last-size 6 n))

sign-size : (s : Bool) → length (minus_sign s) ≤ 1
sign-size true = omega arith
sign-size false = omega arith

-- a sign, 39 digits, a point, six digits
pub dec6-size : (x : Float) → length (dec6 x) ≤ 47
unfolding dec6
dec6-size nan = omega arith
dec6-size (inf s) = simp length-append (omega (arith, sign-size s))
dec6-size (fin s m e) = simp length-append (omega (arith, sign-size s, millionths-size (millionths m e)))

-- ---- of a number that is at most a bound with d digits
few-digits : (d n : ℕ) → 0 < d → d ≤ 39 → n < 10 ^ d → length (decimal_digits 39 n) ≤ d
few-digits d n D l h =
    let fuel : 39 ≡ d + (39 - d) = omega arith in
    le_trans (le_of_eq (ap length (ap (λ (k : ℕ). decimal_digits k n) fuel ∙ enough d (39 - d) n D h))) (decimal_size d n)

whole-most : (n bound d : ℕ) → n ≤ bound * 1000000 → bound < d → n / 1000000 < d
whole-most n bound d h b = omega arith

text-most : (d n bound : ℕ) → 0 < d → d ≤ 39 → bound < 10 ^ d → n ≤ bound * 1000000 → length (millionths_text n) ≤ d + 7
unfolding millionths_text
text-most d n bound D l b h = simp length-append (omega (arith, few-digits d (n / 1000000) D l (whole-most n bound (10 ^ d) h b), last-size 6 n))

pub own-most : {bound : ℕ} (s : Bool) (m : ℕ) (e : ℤ) → AtMost bound (fin s m e) → m * up e ≤ bound * down e
own-most {bound} s m e v =
    let c = v.den in
    le_of_mul-le-mul_right
    (le_trans (le_of_eq v.value.1) (le_trans (mul-le-mul_right (down e) v.small) (le_of_eq (mul_right_comm bound c (down e)))))
    v.den_pos

-- a sign, d digits, a point, six digits
pub dec6-within : {bound : ℕ} (d : ℕ) (x : Float) → 0 < d → d ≤ 39 → bound < 10 ^ d → AtMost bound x → length (dec6 x) ≤ d + 8
unfolding dec6
dec6-within d nan D l b v = absurd v.value
dec6-within d (inf s) D l b v = absurd v.value
dec6-within {bound} d (fin s m e) D l b v =
    let small = own-most s m e v in
    let scaled : m * up e * 1000000 ≤ bound * 1000000 * down e = le_trans (mul-le-mul_right 1000000 small) (le_of_eq (mul_right_comm bound (down e) 1000000)) in
    let most : millionths m e ≤ bound * 1000000 = closest_le (bound * 1000000) (m * up e * 1000000) (down e) (down_pos e) scaled in
    simp length-append (omega (arith, sign-size s, text-most d (millionths m e) bound D l b most))
