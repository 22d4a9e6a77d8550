-- `tidy_splice::close_gap` meets its contract. Assumes nothing.
use Prim.Native.Nat.{◌+◌, ◌-◌}
use mathlib.Core.Path.{◌≡◌}
use native.Mathlib.Omega.{arith}
use lib.Ieee.{nan}
use Rattle.tidy_kept.proofs.PartReplaced.{closing_none, closing_more, closing_all, no_gap}
use Rattle.tidy_splice.proofs.close_gap.Goals as goal

pub loop-i-init : goal.loop-i-init
loop-i-init c =
    let g = c.args in
    let first : g.low + (g.high - g.high) ≡ g.low = omega arith in
    rw first (closing_none nan g.column.now g.n (omega arith) g.low g.high (omega arith) (omega arith))

pub loop-i-preserved : goal.loop-i-preserved
loop-i-preserved c =
    let g = c.args in
    let i = c.loop-i.i in
    let to = g.low + (i - g.high) in
    let next : g.low + (i + 1 - g.high) ≡ to + 1 = omega arith in
    rw next (closing_more nan g.column.now g.n (omega arith) g.low g.high (omega arith) (omega arith) c.loop-i.column to i (omega arith) c.loop-i.invariant)

pub returns-after-loop-i : goal.returns-after-loop-i
returns-after-loop-i c =
    let g = c.args in
    let i = c.loop-i.i in
    closing_all nan g.column.now g.n (omega arith) g.low g.high (omega arith) (omega arith) c.loop-i.column (g.low + (i - g.high)) i (omega arith) c.loop-i.invariant

pub returns-else-low-high : goal.returns-else-low-high
returns-else-low-high c =
    let g = c.args in
    no_gap nan g.column.now g.n (omega arith) g.low g.high (omega arith) (omega arith) (omega arith)
