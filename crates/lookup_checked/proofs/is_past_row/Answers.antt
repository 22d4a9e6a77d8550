-- `lookup_checked::is_past_row` goes by the beat of the row beside. Assumes nothing.
use mathlib.Core.Path.{sym, ap, ◌∙◌, subst}
use lib.Dec.{T}
use lib.Ieee.{binary32, of_bits, neg}
use Rattle.rows.specs.Rows.{beat_of}
use Rattle.lookup_tests.proofs.RowsRise.{never}
use Rattle.lookup_checked.proofs.OffRow.{row-allowed, next_fits, next-is, next-near, past_row}
use Rattle.lookup_checked.proofs.is_past_row.Goals as goal

pub overflow_add-row : goal.overflow_add-row
overflow_add-row c = next_fits c.args.row c.ranges.row c.requires

pub beat_of_row-requires : goal.beat_of_row-requires
beat_of_row-requires c = next-near c.args.row c.ranges.row c.requires

pub returns-then-beat_of_row-beat : goal.returns-then-beat_of_row-beat
unfolding of_bits neg
returns-then-beat_of_row-beat c =
    let beside = c in
    let start = beside in
    let it = beside.beat_of_row.ensures ∙ ap (beat_of binary32) (next-is start.args.row start.ranges.row start.requires) in
    λ e. past_row start.args.row (row-allowed start.args.row start.requires) start.args.beat (rw (sym it) (subst T (sym c.if-beat_of_row-beat.true) tt)) (subst T (sym e) tt)

pub returns : goal.returns
returns c = λ e. never e
