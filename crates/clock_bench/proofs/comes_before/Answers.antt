-- `clock_bench::comes_before` meets its contract. Assumes nothing.
use Rattle.std.proofs.Common.{true, false}
use Rattle.rows.proofs.BackFromBits.{tested}
use Rattle.clock_bench.specs.RunningDown.{comes_before}
use Rattle.clock_bench.proofs.comes_before.Goals as goal

pub returns-then-row-asked : goal.returns-then-row-asked
unfolding comes_before
returns-then-row-asked c = let s = c in rw (tested s.args.row s.args.asked s.ranges.row s.ranges.asked true c.if-row-asked.true)

pub returns-then-asked-row : goal.returns-then-asked-row
unfolding comes_before
returns-then-asked-row c = let s = c in rw (tested s.args.row s.args.asked s.ranges.row s.ranges.asked false c.if-row-asked.false, tested s.args.asked s.args.row s.ranges.asked s.ranges.row true c.if-asked-row.true)

pub returns : goal.returns
unfolding comes_before
returns c = let s = c in rw (tested s.args.row s.args.asked s.ranges.row s.ranges.asked false c.if-row-asked.false, tested s.args.asked s.args.row s.ranges.asked s.ranges.row false c.if-asked-row.false)
