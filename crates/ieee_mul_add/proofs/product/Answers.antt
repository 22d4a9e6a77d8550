use Rattle.std.proofs.Common.{◌≡◌, ℕ, ◌+◌, ◌-◌, ◌*◌, ◌/◌, ◌%◌, ◌^◌, ◌<◌, refl, le-add_right, lt_of_le_of_lt, div-add-mod', arith, rules}
use Rattle.ieee_mul_add.specs.inside.Words.{two_words}
use Rattle.ieee_mul_add.proofs.WordsMultiplied.{digit-product, columns, high_lt}
use Rattle.ieee_mul_add.proofs.product.Goals as goal
use Rattle.ieee_mul_add.proofs.product.Goals.{Start}

abbrev word : (a b : ℕ) → ℕ
word a b = a / 2 ^ 32 * (b % 2 ^ 32) + a % 2 ^ 32 * (b % 2 ^ 32) / 2 ^ 32

total : (c : Start) → two_words (c.args.a / 2 ^ 32 * (c.args.b / 2 ^ 32) + word c.args.a c.args.b / 2 ^ 32 + (word c.args.a c.args.b % 2 ^ 32 + c.args.a % 2 ^ 32 * (c.args.b / 2 ^ 32)) / 2 ^ 32) ((word c.args.a c.args.b % 2 ^ 32 + c.args.a % 2 ^ 32 * (c.args.b / 2 ^ 32)) % 2 ^ 32 * 2 ^ 32 + c.args.a % 2 ^ 32 * (c.args.b % 2 ^ 32) % 2 ^ 32) ≡ c.args.a * c.args.b
total c =
    let a = c.args.a in
    let b = c.args.b in
    columns a b (a % 2 ^ 32) (a / 2 ^ 32) (b % 2 ^ 32) (b / 2 ^ 32) (a % 2 ^ 32 * (b % 2 ^ 32)) (word a b) (word a b % 2 ^ 32 + a % 2 ^ 32 * (b / 2 ^ 32)) (div-add-mod' a (2 ^ 32)) (div-add-mod' b (2 ^ 32)) refl refl refl

high_of : (c : Start) → c.args.a / 2 ^ 32 * (c.args.b / 2 ^ 32) + word c.args.a c.args.b / 2 ^ 32 + (word c.args.a c.args.b % 2 ^ 32 + c.args.a % 2 ^ 32 * (c.args.b / 2 ^ 32)) / 2 ^ 32 < 2 ^ 64
high_of c = high_lt c.args.a c.args.b _ _ c.ranges.a.fits c.ranges.b.fits (total c)

pub overflow_mul-w0 : goal.overflow_mul-w0
overflow_mul-w0 c = omega (arith, digit-product (c.args.a % 2 ^ 32) (c.args.b % 2 ^ 32) (omega arith) (omega arith))

pub overflow_mul-t : goal.overflow_mul-t
overflow_mul-t c = omega (arith, digit-product (c.args.a / 2 ^ 32) (c.args.b % 2 ^ 32) (omega arith) (omega arith))

pub overflow_add-t : goal.overflow_add-t
overflow_add-t c = omega (arith, digit-product (c.args.a / 2 ^ 32) (c.args.b % 2 ^ 32) (omega arith) (omega arith), digit-product (c.args.a % 2 ^ 32) (c.args.b % 2 ^ 32) (omega arith) (omega arith))

pub overflow_mul-w1 : goal.overflow_mul-w1
overflow_mul-w1 c = omega (arith, digit-product (c.args.a % 2 ^ 32) (c.args.b / 2 ^ 32) (omega arith) (omega arith))

pub overflow_add-w1 : goal.overflow_add-w1
overflow_add-w1 c = omega (arith, digit-product (c.args.a % 2 ^ 32) (c.args.b / 2 ^ 32) (omega arith) (omega arith))

pub overflow_mul-result : goal.overflow_mul-result
overflow_mul-result c = omega (arith, digit-product (c.args.a / 2 ^ 32) (c.args.b / 2 ^ 32) (omega arith) (omega arith))

pub overflow_add-result : goal.overflow_add-result
overflow_add-result c = record { fits = lt_of_le_of_lt (le-add_right _ _) (high_of c) }

pub overflow_add-result-2 : goal.overflow_add-result-2
overflow_add-result-2 c = record { fits = high_of c }

pub returns : goal.returns
returns c = total c
