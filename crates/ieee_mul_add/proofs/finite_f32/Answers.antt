use Rattle.std.proofs.Common.{◌+◌, Bool, cond, leb, sym, refl, ap, ◌∙◌, subst, arith, rules}
use mathlib.Core.Bool.{beq}
use lib.Ieee.{binary32, binary64, of_bits}
use Rattle.ieee.specs.inside.PatternParts.{digits_of, power_of}
use Rattle.ieee_mul_add.specs.MulAdd.{mul_add}
use Rattle.ieee_mul_add.specs.inside.CutSum.{product_of, addend_of, Summed}
use Rattle.ieee_mul_add.specs.inside.RoundedFromCut.{RoundedFrom}
use Rattle.ieee_mul_add.specs.inside.Words.{two_words}
use Rattle.ieee_mul_add.proofs.ByPatterns.{rounded_from_cut}
use Rattle.ieee_mul_add.proofs.RoundedFromWords.{rounded-one}
use Rattle.ieee_mul_add.proofs.SumOfCuts.{larger-power}
use Rattle.ieee_mul_add.proofs.finite_f32.Goals as goal

pub rounded_f32-requires : goal.rounded_f32-requires
rounded_f32-requires c =
    let s = c in
    larger-power (power_of binary64 s.args.a + power_of binary64 s.args.b + 64) (power_of binary64 s.args.c + 1085) c.summed_bits-r.result.exponent c.summed_bits-r.ensures.at (omega arith) (omega arith) (omega arith) (omega arith)

pub returns : goal.returns
returns c =
    let s = c in
    let q = c.summed_bits-r in
    let u = c.unlike-s in
    rounded-one binary32 2083 c.pick.result (two_words q.result.high q.result.low) q.result.exponent c.rounded_f32.result (mul_add binary32 (of_bits binary64 s.args.a) (of_bits binary64 s.args.b) (of_bits binary64 s.args.c)) c.rounded_f32.ensures
    (subst (λ (i : Bool). RoundedFrom binary32 2083 i (two_words q.result.high q.result.low) q.result.exponent (mul_add binary32 (of_bits binary64 s.args.a) (of_bits binary64 s.args.b) (of_bits binary64 s.args.c)))
    (sym (c.pick.ensures ∙ ap (λ (i : Bool). cond q.result.second (leb 9223372036854775808 s.args.c) i) u.ensures))
    (rounded_from_cut s.args.a s.args.b s.args.c s.requires.finite_a s.requires.finite_b s.requires.finite_c s.requires.some_a s.requires.some_b binary32 2083 (omega arith) (omega arith) refl (two_words q.result.high q.result.low) q.result.exponent q.result.second
    (subst (λ (i : Bool). Summed (beq i (leb 9223372036854775808 s.args.c)) (product_of (digits_of binary64 s.args.a) (digits_of binary64 s.args.b)) (power_of binary64 s.args.a + power_of binary64 s.args.b + 64) (addend_of (digits_of binary64 s.args.c)) (power_of binary64 s.args.c + 1085) (two_words q.result.high q.result.low) q.result.exponent q.result.second) u.ensures q.ensures)))
