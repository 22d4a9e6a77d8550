-- A product of two words by columns in base 2 ^ 32. Assumes nothing.
use Rattle.std.proofs.Common.{◌≡◌, ℕ, ◌+◌, ◌-◌, ◌*◌, ◌/◌, ◌%◌, ◌^◌, ◌<◌, ◌≤◌, sym, ap, ◌∙◌, le_trans, le_of_eq, le-add_right, lt_of_le_of_lt, le_of_lt, mul-le-mul, lt_of_mul-lt-mul_right, mul-le-mul_left, mul-lt-mul_of_pos_right, arith}

-- a product of two digits
pub digit-product : (x y : ℕ) → x < 2 ^ 32 → y < 2 ^ 32 → x * y ≤ 18446744065119617025
digit-product x y X Y = mul-le-mul {n₁ = x} {m₁ = y} {n₂ = 4294967295} {m₂ = 4294967295} (omega arith) (omega arith)

-- three columns of digits add up to the product
pub columns : (a b a0 a1 b0 b1 w0 t w1 : ℕ) → a1 * 2 ^ 32 + a0 ≡ a → b1 * 2 ^ 32 + b0 ≡ b → w0 ≡ a0 * b0 → t ≡ a1 * b0 + w0 / 2 ^ 32 → w1 ≡ t % 2 ^ 32 + a0 * b1
    → (a1 * b1 + t / 2 ^ 32 + w1 / 2 ^ 32) * 2 ^ 64 + (w1 % 2 ^ 32 * 2 ^ 32 + w0 % 2 ^ 32) ≡ a * b
columns a b a0 a1 b0 b1 w0 t w1 ea eb e0 e1 e2 =
    let i : a * b ≡ a1 * b1 * 2 ^ 64 + (a1 * b0 + a0 * b1) * 2 ^ 32 + a0 * b0 = ap (λ (x : ℕ). x * b) (sym ea) ∙ ap (λ (x : ℕ). (a1 * 2 ^ 32 + a0) * x) (sym eb) ∙ omega arith in
    omega arith

-- whose first word is a word
pub high_lt : (a b h l : ℕ) → a < 2 ^ 64 → b < 2 ^ 64 → h * 2 ^ 64 + l ≡ a * b → h < 2 ^ 64
high_lt a b h l A B e =
    lt_of_mul-lt-mul_right (2 ^ 64) (lt_of_le_of_lt (le_trans (le-add_right (h * 2 ^ 64) l) (le_of_eq e)) (lt_of_le_of_lt (mul-le-mul_left a (le_of_lt B)) (mul-lt-mul_of_pos_right A (omega arith))))
