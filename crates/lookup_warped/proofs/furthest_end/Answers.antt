-- `lookup_warped::furthest_end` meets its contract. Assumes nothing.
use Rattle.std.proofs.Common.{le-ltb, lt-ltb}
use Rattle.lookup_warped.proofs.furthest_end.Goals as goal

pub returns-then-first-end : goal.returns-then-first-end
returns-then-first-end c = let args = c.args in rw (lt-ltb args.first args.end c.if-first-end.true)

pub returns : goal.returns
returns c = let args = c.args in rw (le-ltb args.first args.end c.if-first-end.false)
