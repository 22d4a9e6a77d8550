-- `ieee::snapped` meets its contract (`NarrowBySum.antt`). Assumes nothing.
use mathlib.Core.Path.{sym, subst}
use lib.Dec.{T}
use Rattle.ieee.proofs.NarrowBySum.{narrow_by_sum}
use Rattle.ieee.proofs.StepPower.{around}
use Rattle.ieee.proofs.snapped.Goals as goal

pub anchor-far-requires : goal.anchor-far-requires
anchor-far-requires c = c.requires

pub returns : goal.returns
returns c =
    let a = c.args.a in
    let n = around a (subst T (sym c.well_formed.0.1) tt) c.requires.0 c.requires.1 in
    narrow_by_sum a c.anchor-far.result n.0 n.1 c.anchor-far.ensures
