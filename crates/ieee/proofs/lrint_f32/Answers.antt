-- `ieee::lrint_f32` meets its contract: an f64 holds every f32. Assumes nothing.
use mathlib.Core.Path.{sym, ◌∙◌, subst}
use mathlib.Core.Bool.{not}
use lib.Dec.{T}
use lib.Ieee.{binary32, binary64, fits, is_nan, of_bits}
use lib.Ieee.Fits.{and_i, fits_widens}
use mir.Syntax.{w32}
use mir.ValLaws.{to_z-of_z}
use borrow.Author.Rules.{rules}
use Rattle.ieee.proofs.FiniteTest.{finite_of_test, number_of_test, not_finite_rint}
use Rattle.ieee.proofs.lrint_f32.Goals as goal

pub returns-then-x : goal.returns-then-x
returns-then-x c = to_z-of_z w32 c.whole.result (search rules) ∙ c.whole.ensures ∙ c.within_i32.ensures.1

pub returns-else-x : goal.returns-else-x
unfolding of_bits
returns-else-x c = not_finite_rint binary32 c.args.x c.if-x.false

pub float_to_float-x : goal.float_to_float-x
unfolding of_bits
float_to_float-x c =
    let x = c.args.x in
    and_i (fits binary64 x) (not (is_nan x)) (fits_widens x (subst T (sym c.well_formed.0.1) tt)) (number_of_test binary32 x c.if-x.true)

pub within_i32-requires : goal.within_i32-requires
unfolding of_bits
within_i32-requires c = finite_of_test binary32 c.args.x c.if-x.true

pub whole-requires : goal.whole-requires
whole-requires c = c.within_i32.ensures.0
