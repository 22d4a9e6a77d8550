-- `ieee::within_i32` meets its contract, by the laws of `HoldFirst.antt`. Assumes nothing.
use mathlib.Core.Path.{◌≡◌, sym, subst}
use mathlib.Core.Bool.{true, false}
use lib.Dec.{T}
use lib.Ieee.{Float, of_bits, neg, lt}
use Rattle.ieee.specs.inside.FloatEnds.{least_float}
use Rattle.ieee.proofs.HoldFirst.{Holds, inside, at_most, at_least}
use Rattle.ieee.proofs.within_i32.Goals as goal
use Rattle.ieee.proofs.within_i32.Goals.{then-x, else-x}

pub returns-then-below : goal.returns-then-below
unfolding of_bits neg
returns-then-below c =
    let x = c.args.x in
    elim c.if-x.branch [
      | then-x t ↦ subst (λ (y : Float). Holds x y) (sym t.below-is) (inside x (subst (λ (y : Float). lt least_float y ≡ true) t.below-is c.if-below.true) t.if-x.true)
      | else-x t ↦ subst (λ (y : Float). Holds x y) (sym t.below-is) (at_most x c.requires t.if-x.false)
    ]

pub returns-else-below : goal.returns-else-below
unfolding of_bits neg lt
returns-else-below c =
    let x = c.args.x in
    elim c.if-x.branch [
      | then-x t ↦ at_least x c.requires (subst (λ (y : Float). lt least_float y ≡ false) t.below-is c.if-below.false)
      | else-x t ↦ absurd (subst T (subst (λ (y : Float). lt least_float y ≡ false) t.below-is c.if-below.false) tt)
    ]
