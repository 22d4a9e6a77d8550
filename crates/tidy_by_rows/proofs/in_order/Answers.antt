-- `tidy_by_rows::in_order` compares each row with the one before. Assumes nothing.
use Rattle.tidy_kept.proofs.PassTurns.{from_zero, row-falls, row-stands, rows_end}
use Rattle.rows.specs.RowKey.{row_key_at}
use lib.Ieee.{nan}
use native.Mathlib.Omega.{arith}
use mathlib.Core.Path.{sym, ◌∙◌}
use Rattle.tidy_by_rows.proofs.in_order.Goals as goal

pub loop-beat-init : goal.loop-beat-init
loop-beat-init c = from_zero row_key_at c.args.beats.now

pub returns-then-row-last : goal.returns-then-row-last
returns-then-row-last c =
    let beats = c.args.beats.now in
    sym (row-falls row_key_at c.loop-beat.last beats c.loop-beat.beat-index nan (omega arith) (omega (arith, c.row_key-row.ensures))) ∙ c.loop-beat.invariant

pub loop-beat-preserved : goal.loop-beat-preserved
loop-beat-preserved c =
    let beats = c.args.beats.now in
    rw c.row_key-row.ensures (sym (row-stands row_key_at c.loop-beat.last beats c.loop-beat.beat-index nan (omega arith) (omega (arith, c.row_key-row.ensures)))) ∙ c.loop-beat.invariant

pub returns : goal.returns
returns c =
    let beats = c.args.beats.now in
    sym (rows_end row_key_at c.loop-beat.last beats c.loop-beat.beat-index (omega arith)) ∙ c.loop-beat.invariant
