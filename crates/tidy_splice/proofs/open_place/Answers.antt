-- `tidy_splice::open_place` meets its contract. Assumes nothing.
use Prim.Native.Nat.{◌+◌, ◌-◌}
use mathlib.Core.Path.{◌≡◌}
use native.Mathlib.Omega.{arith}
use lib.Ieee.{nan}
use Rattle.tidy_kept.proofs.PartReplaced.{opening-none, opening-more, opening-all}
use Rattle.tidy_splice.proofs.open_place.Goals as goal

pub loop-i-init : goal.loop-i-init
loop-i-init c =
    let g = c.args in
    (omega arith, opening-none nan g.column.now g.n (omega arith))

pub loop-i-preserved : goal.loop-i-preserved
loop-i-preserved c =
    let g = c.args in
    let i = c.loop-i.i in
    let above : i - 1 + 1 ≡ i = omega arith in
    (omega arith, rw above (opening-more nan g.column.now g.n (omega arith) c.loop-i.column i (i - 1) (omega arith) (omega arith) c.loop-i.invariant.1))

pub returns : goal.returns
returns c =
    let g = c.args in
    let here : c.loop-i.i ≡ g.at = omega arith in
    rw here at (opening-all nan g.column.now g.n (omega arith) c.loop-i.column c.loop-i.i g.at g.x (omega arith) here c.loop-i.invariant.1)
