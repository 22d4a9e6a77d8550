-- `stops_for_sm::lay_sum` lays a sum that is not zero. Assumes nothing.
use Rattle.std.proofs.Common.{arith, length-set}
use lib.Ieee.{of_bits}
use Rattle.stops_for_sm.proofs.lay_sum.Goals as goal

pub offset_bounds-work-at : goal.offset_bounds-work-at
unfolding of_bits
offset_bounds-work-at c =
    let h = c.requires.at_in_bounds c.if-value.true in let g = c.well_formed.0.1 in record { fits = omega arith }

pub bounds-work-at : goal.bounds-work-at
unfolding of_bits
bounds-work-at c =
    let h = c.requires.at_in_bounds c.if-value.true in omega arith

pub offset_bounds-work-at-then-value : goal.offset_bounds-work-at-then-value
unfolding of_bits
offset_bounds-work-at-then-value c =
    let h = c.requires.at_in_bounds c.if-value.true in let g = c.well_formed.0.1 in record { fits = omega arith }

pub bounds-work-at-then-value : goal.bounds-work-at-then-value
unfolding of_bits
bounds-work-at-then-value c =
    let h = c.requires.at_in_bounds c.if-value.true in rw (length-set c.args.work.now c.args.at c.args.beat) (omega arith)

pub returns-then-value : goal.returns-then-value
unfolding of_bits
returns-then-value c =
    record {
      value = rw c.if-value.true;
      work_after = rw c.if-value.true;
    }

pub returns : goal.returns
unfolding of_bits
returns c =
    record {
      value = rw c.if-value.false;
      work_after = rw c.if-value.false;
    }
