use Rattle.std.proofs.Common.{ℕ, ◌+◌, cond, refl, ap, ◌∙◌, arith, rules}
use lib.Ieee.{binary64, odd, of_fields, of_bits}
use Rattle.ieee_mul_add.proofs.rounded_f64.Goals as goal

pub returns-then-low-eq0 : goal.returns-then-low-eq0
unfolding of_bits of_fields odd
returns-then-low-eq0 c = record { none = λ z. refl; some = λ p. absurd (omega (arith, c.if-high-eq0.true, c.if-low-eq0.true)) }

pub returns-then-high-eq0 : goal.returns-then-high-eq0
returns-then-high-eq0 c =
    let s = c in
    record {
      none = λ z. absurd (omega (arith, c.if-low-eq0.false, z));
      some = λ p. c.signed_f64.ensures ∙ ap (λ (n : ℕ). of_bits binary64 (cond s.args.sign 9223372036854775808 0 + n)) c.size_f64.ensures;
    }

pub returns : goal.returns
returns c =
    let s = c in
    record {
      none = λ z. absurd (omega (arith, c.if-high-eq0.false, z));
      some = λ p. c.signed_f64-2.ensures ∙ ap (λ (n : ℕ). of_bits binary64 (cond s.args.sign 9223372036854775808 0 + n)) c.size_f64-2.ensures;
    }
