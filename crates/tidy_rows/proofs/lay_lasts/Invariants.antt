-- `tidy_rows::lay_lasts` lays the last entry of each row. Assumes nothing.
use Rattle.order.specs.Entries.{entries}
use Rattle.columns.proofs.LastsLaid.{LastsLaying}
use Rattle.rows.specs.RowKey.{row_key_of, on_its_row}
use Rattle.tidy_rows.proofs.lay_lasts.Given as goal

abbrev pub invariant-loop-i : goal.invariant-loop-i
invariant-loop-i l = LastsLaying row_key_of on_its_row (entries l.beats l.values) l.initial.out_beats l.out_beats l.initial.out_values l.out_values l.i l.count
