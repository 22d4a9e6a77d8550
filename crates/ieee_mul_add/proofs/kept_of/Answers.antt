use Rattle.std.proofs.Common.{ℕ, ◌*◌, ◌^◌, sym, ap, ◌∙◌, subst, arith, rules}
use Rattle.ieee_mul_add.specs.inside.RoundedFromCut.{KeptOf}
use Rattle.ieee_mul_add.specs.inside.Words.{two_words}
use Rattle.ieee_mul_add.proofs.RoundedFromWords.{raised}
use Rattle.ieee_mul_add.proofs.kept_of.Goals as goal

pub returns-then-high-eq0 : goal.returns-then-high-eq0
returns-then-high-eq0 c =
    let s = c in
    (subst (λ (n : ℕ). KeptOf s.args.precision s.args.base n c.kept_high.result.dropped c.kept_high.result.digits) (raised s.args.low s.args.exponent s.requires.3 ∙ ap (λ (h : ℕ). two_words h s.args.low * 2 ^ s.args.exponent) (sym c.if-high-eq0.true)) c.kept_high.ensures.0, omega (arith, c.kept_high.ensures.1))
