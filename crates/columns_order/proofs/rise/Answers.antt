-- `columns_order::rise` counts the neighbours that fail. Assumes nothing.
use Rattle.std.proofs.Common.{◌≡◌, ◌-◌, get_or, arith}
use Rattle.std.specs.Float.{nan}
use Rattle.std.specs.Float.Ieee.{lt}
use Rattle.ieee.proofs.ColumnNumbers.{numbers_long, number_at}
use Rattle.limits.specs.Numbers.{miss}
use Rattle.limits.specs.Neighbours.{neighbours}
use Rattle.limits.proofs.Every.{counted_start, miss-few}
use Rattle.limits.proofs.EachTwo.{passes, two-next, two-last}
use Rattle.columns_order.proofs.rise.Goals as goal

pub loop-i-init : goal.loop-i-init
loop-i-init g c = counted_start (passes lt) (neighbours (g.R.Real.numbers c.args.column.now))

pub overflow_add-fail : goal.overflow_add-fail
overflow_add-fail g c =
    record { fits = omega (arith, c.loop-i.invariant.few, c.not_below-fail.ensures, miss-few (passes lt) (g.R.Real.number c.index-column-i.result, g.R.Real.number c.index-column-i-in-loop-i.result)) }

pub loop-i-preserved : goal.loop-i-preserved
loop-i-preserved g c =
    let each = g.met.R.Real.each in
    let column = c.args.column.now in
    let numbers = g.R.Real.numbers column in
    let i = c.loop-i.i in
    let before = number_at each column (i - 1) c.index-column-i.result nan (omega arith) c.index-column-i.is in
    let here = number_at each column i c.index-column-i-in-loop-i.result nan c.loop-i-test.true c.index-column-i-in-loop-i.is in
    let one : c.not_below-fail.result ≡ miss (passes lt) (get_or numbers (i - 1) nan, get_or numbers i nan) = rw (before, here) c.not_below-fail.ensures in
    two-next lt nan numbers c.not_below-fail.result c.loop-i.auto.i (rw (numbers_long each column) c.loop-i-test.true) one c.loop-i.invariant

pub returns : goal.returns
returns g c = two-last lt (g.R.Real.numbers c.args.column.now) c.loop-i.auto.i (rw (numbers_long g.met.R.Real.each c.args.column.now) c.loop-i-test.false) c.loop-i.invariant
