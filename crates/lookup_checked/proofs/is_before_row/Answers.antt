-- `lookup_checked::is_before_row` goes by the beat of the row beside. Assumes nothing.
use mathlib.Core.Path.{sym, ap, ◌∙◌, subst}
use lib.Dec.{T}
use lib.Ieee.{binary32, of_bits, neg}
use Rattle.rows.specs.Rows.{beat_of}
use Rattle.lookup_tests.proofs.RowsRise.{never}
use Rattle.lookup_checked.proofs.OffRow.{row-allowed, last_fits, last-is, last-near, before-row}
use Rattle.lookup_checked.proofs.is_before_row.Goals as goal

pub overflow_sub-row : goal.overflow_sub-row
overflow_sub-row c = last_fits c.args.row c.ranges.row c.requires

pub beat_of_row-requires : goal.beat_of_row-requires
beat_of_row-requires c = last-near c.args.row c.ranges.row c.requires

pub returns-then-beat-beat_of_row : goal.returns-then-beat-beat_of_row
unfolding of_bits neg
returns-then-beat-beat_of_row c =
    let beside = c in
    let start = beside in
    let it = beside.beat_of_row.ensures ∙ ap (beat_of binary32) (last-is start.args.row start.ranges.row start.requires) in
    λ e. before-row start.args.row (row-allowed start.args.row start.requires) start.args.beat (rw (sym it) (subst T (sym c.if-beat-beat_of_row.true) tt)) (subst T (sym e) tt)

pub returns : goal.returns
returns c = λ e. never e
