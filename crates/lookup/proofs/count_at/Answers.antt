-- `lookup::count_at` counts the entries at or before a row, by halves. Assumes nothing.
use Rattle.lookup.proofs.FoundEntries.{bounds_whole, bounds_met}
use Rattle.std.proofs.Common.{arith}
use Rattle.lookup.proofs.count_at.Goals as goal

pub loop-low-init : goal.loop-low-init
loop-low-init c = (omega arith, bounds_whole c.args.key c.args.beats.now)

pub halve-bounds-requires : goal.halve-bounds-requires
halve-bounds-requires c =
    record {
      beats_value = c.requires;
      low_lt_high = (c.loop-low-test.true, c.loop-low.invariant.0, c.loop-low.invariant.1);
    }

pub loop-low-smaller : goal.loop-low-smaller
loop-low-smaller c = c.halve-bounds.ensures.2

pub loop-low-preserved : goal.loop-low-preserved
loop-low-preserved c = (omega (arith, c.halve-bounds.ensures.1, c.loop-low.invariant.0), c.halve-bounds.ensures.0)

pub returns : goal.returns
returns c = bounds_met c.args.key c.args.beats.now c.loop-low.low c.loop-low.high c.loop-low-test.false c.loop-low.invariant.1
