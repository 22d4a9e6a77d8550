-- Digits in parts, those above a place and those below it; and more digits than a number has change nothing. Assumes nothing.
use Prim.Native.Nat.{ℕ, zero, suc, ◌+◌, ◌*◌, ◌/◌, ◌%◌, ◌^◌, ◌≤◌, ◌<◌}
use mathlib.Core.Path.{◌≡◌, sym, ap, ◌∙◌}
use mathlib.Core.List.{List, [], ◌∷◌, ◌++◌, append_assoc, append-nil}
use native.Mathlib.Omega.{arith}
use native.Mathlib.Nat.{pow-suc, one-le-pow, div-div-eq-div-mul, mul_comm, mul_assoc, mul-le-mul_right}
use mathlib.Core.Logic.{inl, inr}
use borrow.Author.Tests.{lt-ltb, le-ltb}
use Rattle.ieee.proofs.Closest.{lt_or_ge}
use Rattle.text_page.specs.Digits.{decimal_digits}
use Rattle.text_decimal.specs.Dec6.{lowest_digits}

-- the last a + b digits: the a above the last b, then those
pub last-join : (a b n : ℕ) → lowest_digits (a + b) n ≡ lowest_digits a (n / 10 ^ b) ++ lowest_digits b n
unfolding lowest_digits
last-join a zero n =
    let none : a + 0 ≡ a = omega arith in
    let all : n / 1 ≡ n = omega arith in
    ap (λ (k : ℕ). lowest_digits k n) none ∙ sym (append-nil (lowest_digits a n)) ∙ ap (λ (x : ℕ). lowest_digits a x ++ []) (sym all)
last-join a (suc b) n =
    let one_more : a + suc b ≡ suc (a + b) = omega arith in
    let lower : n / 10 / 10 ^ b ≡ n / 10 ^ suc b = div-div-eq-div-mul n 10 (10 ^ b) ∙ ap (λ (x : ℕ). n / x) (mul_comm 10 (10 ^ b) ∙ sym (pow-suc 10 b)) in
    rw one_more
    (ap (λ (l : List ℕ). l ++ ((48 + n % 10) ∷ [])) (last-join a b (n / 10) ∙ ap (λ (x : ℕ). lowest_digits a x ++ lowest_digits b (n / 10)) lower)
    ∙ append_assoc (lowest_digits a (n / 10 ^ suc b)) (lowest_digits b (n / 10)) ((48 + n % 10) ∷ []))

-- a number with digits above the last b
pub decimal_join : (k b q r : ℕ) → 0 < q → r < 10 ^ b → decimal_digits (k + b) (q * 10 ^ b + r) ≡ decimal_digits k q ++ lowest_digits b r
unfolding decimal_digits lowest_digits
decimal_join k zero q r Q R =
    let none : k + 0 ≡ k = omega arith in
    let same : q * 1 + r ≡ q = omega arith in
    ap (λ (x : ℕ). decimal_digits x (q * 1 + r)) none ∙ ap (decimal_digits k) same ∙ sym (append-nil (decimal_digits k q))
decimal_join k (suc b) q r Q R =
    let up : 10 ^ suc b ≡ 10 ^ b * 10 = pow-suc 10 b in
    let one : 1 ≤ 10 ^ b = one-le-pow b 10 (omega arith) in
    let moved : q * 10 ^ suc b ≡ q * 10 ^ b * 10 = ap (λ (x : ℕ). q * x) up ∙ sym (mul_assoc q (10 ^ b) 10) in
    let above : 1 * 10 ^ suc b ≤ q * 10 ^ suc b = mul-le-mul_right (10 ^ suc b) Q in
    let upper : (q * 10 ^ suc b + r) / 10 ≡ q * 10 ^ b + r / 10 = omega arith in
    let lower : (q * 10 ^ suc b + r) % 10 ≡ r % 10 = omega arith in
    let one_more : k + suc b ≡ suc (k + b) = omega arith in
    rw (one_more, le-ltb (q * 10 ^ suc b + r) 10 (omega arith), upper, lower)
    (ap (λ (l : List ℕ). l ++ ((48 + r % 10) ∷ [])) (decimal_join k b q (r / 10) Q (omega arith)) ∙ append_assoc (decimal_digits k q) (lowest_digits b (r / 10)) ((48 + r % 10) ∷ []))

-- more digits than a number has change nothing
pub enough : (k j n : ℕ) → 0 < k → n < 10 ^ k → decimal_digits (k + j) n ≡ decimal_digits k n
unfolding decimal_digits
enough zero j n K h = absurd (omega arith)
enough (suc k) j n K h =
    let up : 10 ^ suc k ≡ 10 ^ k * 10 = pow-suc 10 k in
    let one_more : suc k + j ≡ suc (k + j) = omega arith in
    rw one_more
    (elim (lt_or_ge n 10) [
      | inl l ↦ rw (lt-ltb n 10 l)
      | inr g ↦ rw (le-ltb n 10 g) (ap (λ (l : List ℕ). l ++ ((48 + n % 10) ∷ [])) (enough k j (n / 10) (above k n g h) (omega arith)))
    ])
  where
    above : (k n : ℕ) → 10 ≤ n → n < 10 ^ suc k → 0 < k
    above zero n g h = absurd (omega arith)
    above (suc k) n g h = omega arith
