-- `ieee::narrow_f64` meets its contract: narrowing leaves the sign, so the size is narrowed and takes the sign again. Assumes nothing.
use mathlib.Core.Path.{◌≡◌, sym, ap, ◌∙◌, subst}
use mathlib.Core.Bool.{Bool, false, not, ◌&&◌}
use lib.Dec.{T}
use lib.Ieee.{Float, binary32, is_nan, fits, ne, div, of_bits}
use lib.Ieee.Compare.{differs_from_itself}
use lib.Ieee.Fits.{and_i}
use Rattle.ieee.specs.Nearest.{sign_of}
use Rattle.ieee.specs.Narrowing.{narrow}
use Rattle.ieee.specs.inside.Spacing.{with_sign}
use Rattle.ieee.proofs.Narrow.{narrow-fits, narrow-number, narrow_by_size}
use Rattle.ieee.proofs.Signs.{sign-is, sign-number}
use Rattle.ieee.proofs.Values.{number_of_eq}
use Rattle.ieee.proofs.narrow_f64.Goals as goal
use Rattle.ieee.proofs.narrow_f64.Goals.{After-signed_as, Then-x}

number : (c : Then-x) → T (not (is_nan c.args.x))
number c = number_of_eq c.args.x c.if-x.true

pub size-requires : goal.size-requires
size-requires c = number c

pub narrowed-requires : goal.narrowed-requires
narrowed-requires c =
    let x = c.args.x in
    subst (λ (y : Float). (sign_of y ≡ false) × T (not (is_nan y))) (sym c.size.ensures) (sign-is false x (number (goal.at.narrowed-requires c).Then-x), sign-number false x (number (goal.at.narrowed-requires c).Then-x))

pub signed_as-requires : goal.signed_as-requires
signed_as-requires c =
    let x = c.args.x in
    let N = number (goal.at.signed_as-requires c).Then-x in
    (subst (λ (y : Float). T (not (is_nan y))) (sym (c.narrowed.ensures ∙ ap narrow c.size.ensures)) (narrow-number (with_sign false x) (sign-number false x N)), N)

result-is : (c : After-signed_as) → c.signed_as.result ≡ narrow c.args.x
result-is c =
    let x = c.args.x in
    c.signed_as.ensures ∙ ap (with_sign (sign_of x)) (c.narrowed.ensures ∙ ap narrow c.size.ensures) ∙ narrow_by_size x

pub float_to_float-result : goal.float_to_float-result
float_to_float-result c =
    let x = c.args.x in
    subst (λ (y : Float). T (fits binary32 y && not (is_nan y))) (sym (result-is (goal.at.float_to_float-result c).After-signed_as)) (and_i (fits binary32 (narrow x)) (not (is_nan (narrow x))) (narrow-fits x) (narrow-number x (number (goal.at.float_to_float-result c).Then-x)))

pub returns-then-x : goal.returns-then-x
returns-then-x c = result-is (goal.at.returns-then-x c).After-signed_as

pub returns-else-x : goal.returns-else-x
unfolding of_bits div narrow ne
returns-else-x c = sym (ap narrow (differs_from_itself c.args.x (subst (λ (t : Bool). T (not t)) (sym c.if-x.false) tt)))
