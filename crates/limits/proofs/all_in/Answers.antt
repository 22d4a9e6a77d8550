-- `limits::all_in` counts the numbers of a column that are not in the range, and there are none. Assumes nothing.
use Rattle.std.proofs.Common.{◌≡◌, ◌<◌, ◌≤◌, length, get_or, arith}
use Rattle.std.specs.Float.{nan}
use Rattle.ieee.proofs.ColumnNumbers.{numbers_long, number_at}
use Rattle.limits.specs.Numbers.{in_range, miss}
use Rattle.limits.proofs.Every.{miss-few, counted_start, counted-turn, counted-end}
use Rattle.limits.proofs.all_in.Goals as goal

pub loop-x-init : goal.loop-x-init
loop-x-init g c = counted_start _ _

pub overflow_add-outside : goal.overflow_add-outside
overflow_add-outside g c = record { fits = omega (arith, c.loop-x.invariant.few, c.one_outside-outside.ensures, miss-few (in_range c.args.range) c.widened.result) }

pub loop-x-preserved : goal.loop-x-preserved
loop-x-preserved g c =
    let test = in_range c.args.range in
    let each = g.met.R.Real.each in
    let column = c.args.column.now in
    let numbers = g.R.Real.numbers column in
    let i = c.loop-x.x-index in
    let here = number_at each column i c.x-item.result nan c.loop-x-test.true c.x-item.is in
    let inside : i < length numbers = rw (numbers_long each column) c.loop-x-test.true in
    let one : c.one_outside-outside.result ≡ miss test (get_or numbers i nan) = rw here (rw c.widened.ensures at c.one_outside-outside.ensures) in
    counted-turn test c.one_outside-outside.result nan inside one c.loop-x.invariant

pub returns : goal.returns
returns g c =
    let past : length (g.R.Real.numbers c.args.column.now) ≤ c.loop-x.x-index = rw (numbers_long g.met.R.Real.each c.args.column.now) c.loop-x-test.false in
    counted-end (in_range c.args.range) past c.loop-x.invariant
