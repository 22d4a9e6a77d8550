-- `limits::all_plain` keeps the worst of a column, and that is none. Assumes nothing.
use Rattle.std.proofs.Common.{◌≡◌, ◌+◌, ◌<◌, ◌≤◌, length, drop, get_or, refl}
use Rattle.std.specs.Float.{nan}
use Rattle.ieee.proofs.ColumnNumbers.{numbers_long, number_at}
use Rattle.limits.specs.Numbers.{every, miss}
use Rattle.limits.specs.Plain.{plain}
use Rattle.limits.proofs.WorstSoFar.{worst_turn, worst_last, every-parts, every-none}
use Rattle.limits.proofs.all_plain.Goals as goal

pub loop-x-init : goal.loop-x-init
loop-x-init g c = refl

pub loop-x-preserved : goal.loop-x-preserved
loop-x-preserved g c =
    let test = plain c.args.range in
    let each = g.met.R.Real.each in
    let numbers = g.R.Real.numbers c.args.column.now in
    let l = c.loop-x in
    let here = number_at each c.args.column.now l.x-index c.x-item.result nan c.loop-x-test.true c.x-item.is in
    let inside : l.x-index < length numbers = rw (numbers_long each c.args.column.now) c.loop-x-test.true in
    let one : c.one_not_plain.result ≡ miss test (get_or numbers l.x-index nan) = rw here (rw c.widened.ensures at c.one_not_plain.ensures) in
    let known = rw (every-parts test numbers l.x-index nan inside) at l.invariant in
    rw c.worse_of-worst.ensures
    (worst_turn l.worst c.one_not_plain.result (test (get_or numbers l.x-index nan)) (every test (drop (l.x-index + 1) numbers)) (every test numbers) one known)

pub returns : goal.returns
returns g c =
    let test = plain c.args.range in
    let numbers = g.R.Real.numbers c.args.column.now in
    let l = c.loop-x in
    let past : length numbers ≤ l.x-index = rw (numbers_long g.met.R.Real.each c.args.column.now) c.loop-x-test.false in
    worst_last l.worst (every test numbers) (rw (every-none test numbers l.x-index past) at l.invariant)
