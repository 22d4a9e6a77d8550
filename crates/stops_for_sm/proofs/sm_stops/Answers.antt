-- `stops_for_sm::sm_stops` chooses the answer. Assumes nothing.
use Rattle.std.proofs.Common.{◌*◌, sym, refl, arith, length-take-le, le-leb}
use borrow.Author.Tests.{lt-leb}
use Rattle.stops_for_sm.specs.Filling.{chosen}
use Rattle.stops_for_sm.proofs.sm_stops.Goals as goal

pub returns-then-own : goal.returns-then-own
unfolding chosen
returns-then-own c =
    rw c.if-own.true

pub slice_bounds-result-end : goal.slice_bounds-result-end
slice_bounds-result-end c =
    sym (length-take-le (c.args.filled.count * 2) c.args.work.now (omega (arith, c.if-count-work.true)))

pub returns-then-count-work : goal.returns-then-count-work
unfolding chosen
returns-then-count-work c =
    rw (c.if-own.false, le-leb _ _ c.if-count-work.true)

pub slice_bounds-result-end-2 : goal.slice_bounds-result-end-2
slice_bounds-result-end-2 c =
    refl

pub returns : goal.returns
unfolding chosen
returns c =
    rw (c.if-own.false, lt-leb _ _ c.if-count-work.false)
