-- `assembly_rows::assemble_in` quantises, tidies and narrows. Assumes nothing.
use mathlib.Core.Path.{sym, ◌∙◌}
use Rattle.rows.specs.Rows.{quantized}
use Rattle.columns.proofs.LaidEach.{laid-all}
use Rattle.assembly_rows.specs.AssembledRows.{change_by}
use Rattle.assembly_rows.proofs.Outcomes.{by-columns}
use borrow.Author.Rules.{rules}
use Rattle.assembly_rows.proofs.assemble_in.Goals as goal

pub returns : goal.returns
returns c = let given = c.args in
    let beats = given.beats.now in
    let values = given.values.now in
    let pre = c.requires in
    let work-beats = c.quantize_column.ensures ∙ laid-all quantized beats given.work_beats.now (sym pre.values_len.1) in
    let work-values = c.change_column.ensures ∙ laid-all (change_by given.meaning) values given.work_values.now (pre.values_len.0 ∙ sym pre.values_len.2) in
    by-columns given.meaning beats values pre.tidy_beats_len.0 pre.tidy_beats_len.1 pre.values_len.0 (rw (work-beats, work-values) at c.tidy_row_segments-tidied.ensures) c.lay_narrowed.ensures
