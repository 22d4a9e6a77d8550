-- The fewest digits that hold a number are its decimal text. Assumes nothing.
use Prim.Native.Nat.{ℕ, zero, suc, ◌+◌, ◌*◌, ◌-◌, ◌/◌, ◌%◌, ◌^◌, ◌≤◌, ◌<◌}
use mathlib.Core.Path.{◌≡◌, refl, ap}
use mathlib.Core.List.{List, [], ◌∷◌, ◌++◌}
use native.Mathlib.Omega.{arith}
use native.Mathlib.Nat.{pow-suc, mod-eq_of_lt, one-le-pow, pow-le-pow_right}
use borrow.Author.Tests.{lt-ltb, le-ltb, leb-true, leb-false}
use mathlib.Core.Bool.{Bool, true, false}
use lib.Dec.{leb}
use Rattle.io.specs.Digits.{last_digits, IsDigitCount}
use Rattle.text_page.specs.Digits.{decimal_digits}

one_fewer : (r : ℕ) → suc r - 1 ≡ r
one_fewer r = omega arith

one_less : (r : ℕ) → suc (suc r) - 1 ≡ suc r
one_less r = omega arith

pub fewest_digits : (r k n : ℕ) → r ≤ k → IsDigitCount 10 1 n r → last_digits 10 r n ≡ decimal_digits k n
unfolding decimal_digits
fewest_digits zero k n l f = absurd (omega (arith, f.0))
fewest_digits (suc r) zero n l f = absurd (omega arith)
fewest_digits (suc zero) (suc k) n l f =
    let small : n < 10 = f.1 in
    let same : n % 10 ≡ n = mod-eq_of_lt small in
    rw (same, lt-ltb n 10 small)
fewest_digits (suc (suc r)) (suc k) n l f =
    let many : 10 ^ suc r ≤ n = rw (one_less r) at (f.2 (omega arith)) in
    let below : n < 10 ^ suc (suc r) = f.1 in
    let up : 10 ^ suc (suc r) ≡ 10 ^ suc r * 10 = pow-suc 10 (suc r) in
    let down : 10 ^ suc r ≡ 10 ^ r * 10 = pow-suc 10 r in
    let one : 1 ≤ 10 ^ r = one-le-pow r 10 (omega arith) in
    let fewer : IsDigitCount 10 1 (n / 10) (suc r) = (omega arith, omega arith, λ (h : 1 < suc r). rw (one_fewer r) (omega arith)) in
    rw (le-ltb n 10 (omega arith), lt-ltb (n % 10) 10 (omega arith)) (ap (λ (d : List ℕ). d ++ ((48 + n % 10) ∷ [])) (fewest_digits (suc r) k (n / 10) (omega arith) fewer))

-- a number of 64 bits has 20 at most
pub twenty_hold : (r n : ℕ) → n < 2 ^ 64 → IsDigitCount 10 1 n r → r ≤ 20
twenty_hold r n h f = by_case (leb r 20) refl
  where
    by_case : (t : Bool) → leb r 20 ≡ t → r ≤ 20
    by_case true e = leb-true r 20 e
    by_case false e =
        let long : 20 < r = leb-false r 20 e in
        let many : 10 ^ (r - 1) ≤ n = f.2 (omega arith) in
        let up : 10 ^ 20 ≤ 10 ^ (r - 1) = pow-le-pow_right {n = 10} (omega arith) {i = 20} {j = r - 1} (omega arith) in
        absurd (omega arith)
