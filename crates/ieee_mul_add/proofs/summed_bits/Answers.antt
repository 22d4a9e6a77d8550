use Rattle.std.proofs.Common.{ℕ, ◌+◌, ◌*◌, ◌^◌, ◌<◌, sym, refl, ap, ◌∙◌, subst, ap₂, arith, rules}
use lib.Ieee.{binary64}
use Rattle.ieee.proofs.PatternValue.{digits_lt}
use Rattle.ieee.specs.inside.PatternParts.{digits_of, power_of}
use Rattle.ieee_mul_add.specs.inside.CutSum.{product_of, addend_of}
use Rattle.ieee_mul_add.specs.inside.Words.{two_words, words_of}
use Rattle.ieee_mul_add.proofs.DeepEnough.{product_lt}
use Rattle.ieee_mul_add.proofs.SumOfCuts.{high_of, even-low, word_of, summed_as}
use Rattle.ieee_mul_add.proofs.summed_bits.Goals as goal
use Rattle.ieee_mul_add.proofs.summed_bits.Goals.{After-digits-3}

third : (c : After-digits-3) → c.digits-3.result < 2 ^ 53
third c = subst (λ (x : ℕ). x < 2 ^ 53) (sym c.digits-3.ensures) (digits_lt binary64 c.args.c)

pub overflow_mul-digits : goal.overflow_mul-digits
overflow_mul-digits c = omega (arith, subst (λ (x : ℕ). x < 2 ^ 53) (sym c.digits.ensures) (digits_lt binary64 c.args.a))

pub overflow_mul-digits-2 : goal.overflow_mul-digits-2
overflow_mul-digits-2 c = omega (arith, subst (λ (x : ℕ). x < 2 ^ 53) (sym c.digits-2.ensures) (digits_lt binary64 c.args.b))

pub overflow_mul-digits-3 : goal.overflow_mul-digits-3
overflow_mul-digits-3 c = omega (arith, third c)

pub summed-requires : goal.summed-requires
summed-requires c =
    let p = c in
    let m = p.digits.result in
    let n = p.digits-2.result in
    let o = third (goal.at.summed-requires c).After-digits-3 in (
      high_of p.product-p.result.high p.product-p.result.low (product_of m n) p.product-p.ensures (product_lt m n (subst (λ (x : ℕ). x < 2 ^ 53) (sym p.digits.ensures) (digits_lt binary64 p.args.a)) (subst (λ (x : ℕ). x < 2 ^ 53) (sym p.digits-2.ensures) (digits_lt binary64 p.args.b))),
      omega arith,
      even-low p.product-p.result.high p.product-p.result.low m n p.product-p.ensures,
      refl,
    )

pub returns : goal.returns
returns c =
    let p = c in
    let s = p in
    let a = s.args.a in
    let b = s.args.b in
    let o = c.digits-3 in
    summed_as s.args.alike (words_of p.product-p.result) (c.power.result + c.power-2.result + 64) (two_words (o.result * 512) 0) (c.power-3.result + 1085)
    (product_of (digits_of binary64 a) (digits_of binary64 b)) (power_of binary64 a + power_of binary64 b + 64) (addend_of (digits_of binary64 s.args.c)) (power_of binary64 s.args.c + 1085) (two_words c.summed.result.high c.summed.result.low) c.summed.result.exponent c.summed.result.second
    (p.product-p.ensures ∙ ap₂ product_of p.digits.ensures p.digits-2.ensures)
    (ap₂ (λ (x z : ℕ). x + z + 64) c.power.ensures c.power-2.ensures)
    (word_of o.result ∙ ap addend_of o.ensures)
    (ap (λ (x : ℕ). x + 1085) c.power-3.ensures)
    c.summed.ensures
