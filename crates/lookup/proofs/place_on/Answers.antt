-- `lookup::place_on` goes on to the place of a row. Assumes nothing.
use Rattle.std.proofs.Common.{arith}
use Rattle.lookup_tests.proofs.RowsRise.{rises}
use Rattle.lookup.proofs.HeldPlaces.{stands-next, same_place, last-place}
use Rattle.lookup.proofs.place_on.Goals as goal

pub loop-next-init : goal.loop-next-init
loop-next-init c = c.requires.stands

pub returns-then-n-beats : goal.returns-then-n-beats
returns-then-n-beats c = (c.loop-next.invariant.0, last-place c.args.beats.now c.loop-next.n c.loop-next.before c.loop-next.next c.loop-next.invariant.0 (rises c.args.beats.now c.requires.beats_value) c.args.key c.loop-next.invariant.1 c.if-n-beats.true)

pub overflow_add-n : goal.overflow_add-n
overflow_add-n c = record { fits = omega (arith, c.loop-next.invariant.0.within, c.if-n-beats.false, c.well_formed.0.1) }

pub loop-next-smaller : goal.loop-next-smaller
loop-next-smaller c = omega (arith, c.loop-next.invariant.0.within, c.if-n-beats.false)

pub loop-next-preserved : goal.loop-next-preserved
loop-next-preserved c = (rw c.key_after-next.ensures (stands-next c.args.beats.now c.loop-next.n c.loop-next.before c.loop-next.next c.loop-next.invariant.0 (omega (arith, c.loop-next.invariant.0.within, c.if-n-beats.false))), c.loop-next-test.true)

pub returns : goal.returns
returns c = (c.loop-next.invariant.0, same_place c.args.beats.now c.loop-next.n c.loop-next.before c.loop-next.next c.loop-next.invariant.0 (rises c.args.beats.now c.requires.beats_value) c.args.key c.loop-next.invariant.1 c.loop-next-test.false)
