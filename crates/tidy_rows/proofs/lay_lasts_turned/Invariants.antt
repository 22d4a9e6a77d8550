-- `tidy_rows::lay_lasts_turned` lays the last entry of each row, turned round. Assumes nothing.
use Rattle.order.specs.Entries.{entries}
use Rattle.columns.proofs.TurnedLaid.{LastsTurning}
use Rattle.rows.specs.RowKey.{row_key_of, on_its_row}
use Rattle.tidy_rows.proofs.lay_lasts_turned.Given as goal

abbrev pub invariant-loop-i : goal.invariant-loop-i
invariant-loop-i l = LastsTurning row_key_of on_its_row (entries l.beats l.values) l.initial.out_beats l.out_beats l.initial.out_values l.out_values l.i l.place
