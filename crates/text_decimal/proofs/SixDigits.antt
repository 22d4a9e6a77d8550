-- The last six digits, each by its place. Assumes nothing.
use Prim.Native.Nat.{ℕ, ◌+◌, ◌*◌, ◌/◌, ◌%◌}
use mathlib.Core.Path.{◌≡◌, sym, ap, ◌∙◌}
use mathlib.Core.List.{List, [], ◌∷◌, ◌++◌}
use native.Mathlib.Omega.{arith}
use Rattle.text_decimal.specs.Dec6.{lowest_digits, whole_text, millionths_text}
use Rattle.text_decimal.proofs.DigitParts.{last-join}

pub six-digits : (n : ℕ) → (48 + n / 100000 % 10) ∷ (48 + n / 10000 % 10) ∷ (48 + n / 1000 % 10) ∷ (48 + n / 100 % 10) ∷ (48 + n / 10 % 10) ∷ (48 + n / 1 % 10) ∷ [] ≡ lowest_digits 6 n
unfolding lowest_digits
six-digits n =
    let a : n / 100000 ≡ n / 10 / 10 / 10 / 10 / 10 = omega arith in
    let b : n / 10000 ≡ n / 10 / 10 / 10 / 10 = omega arith in
    let d : n / 1000 ≡ n / 10 / 10 / 10 = omega arith in
    let e : n / 100 ≡ n / 10 / 10 = omega arith in
    let f : n / 1 ≡ n = omega arith in
    rw (a, b, d, e, f)

pub eighteen_digits : (n : ℕ) → lowest_digits 6 (n / 1000000000000) ++ (lowest_digits 6 (n / 1000000) ++ lowest_digits 6 n) ≡ lowest_digits 18 n
eighteen_digits n = ap (λ (l : List ℕ). lowest_digits 6 (n / 1000000000000) ++ l) (sym (last-join 6 6 n)) ∙ sym (last-join 6 12 n)

-- a whole number has none but zeros behind the point
pub whole-text : (w : ℕ) → whole_text w ++ (46 ∷ 48 ∷ 48 ∷ 48 ∷ 48 ∷ 48 ∷ 48 ∷ []) ≡ millionths_text (w * 1000000)
unfolding millionths_text
whole-text w =
    let whole : w * 1000000 / 1000000 ≡ w = omega arith in
    let a : w * 1000000 / 100000 % 10 ≡ 0 = omega arith in
    let b : w * 1000000 / 10000 % 10 ≡ 0 = omega arith in
    let c : w * 1000000 / 1000 % 10 ≡ 0 = omega arith in
    let d : w * 1000000 / 100 % 10 ≡ 0 = omega arith in
    let e : w * 1000000 / 10 % 10 ≡ 0 = omega arith in
    let f : w * 1000000 / 1 % 10 ≡ 0 = omega arith in
    let zeros : lowest_digits 6 (w * 1000000) ≡ 48 ∷ 48 ∷ 48 ∷ 48 ∷ 48 ∷ 48 ∷ [] = sym (six-digits (w * 1000000)) ∙ rw (a, b, c, d, e, f) in
    rw (whole, zeros)
