-- `ieee::lrint_f64` meets its contract. Assumes nothing.
use mathlib.Core.Path.{◌∙◌}
use lib.Ieee.{binary64, of_bits}
use mir.Syntax.{w32}
use mir.ValLaws.{to_z-of_z}
use borrow.Author.Rules.{rules}
use Rattle.ieee.proofs.FiniteTest.{finite_of_test, not_finite_rint}
use Rattle.ieee.proofs.lrint_f64.Goals as goal

pub within_i32-requires : goal.within_i32-requires
unfolding of_bits
within_i32-requires c = finite_of_test binary64 c.args.x c.if-x.true

pub whole-requires : goal.whole-requires
whole-requires c = c.within_i32.ensures.0

pub returns-then-x : goal.returns-then-x
returns-then-x c = to_z-of_z w32 c.whole.result (search rules) ∙ c.whole.ensures ∙ c.within_i32.ensures.1

pub returns-else-x : goal.returns-else-x
unfolding of_bits
returns-else-x c = not_finite_rint binary64 c.args.x c.if-x.false
