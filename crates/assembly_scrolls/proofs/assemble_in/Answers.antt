-- `assembly_scrolls::assemble_in` quantises, tidies and narrows. Assumes nothing.
use mathlib.Core.Path.{sym, ◌∙◌}
use Rattle.rows.specs.Rows.{quantized}
use Rattle.columns.proofs.LaidEach.{laid-all}
use Rattle.assembly_scrolls.proofs.Outcomes.{by-columns}
use borrow.Author.Rules.{rules}
use Rattle.assembly_scrolls.proofs.assemble_in.Goals as goal

pub returns : goal.returns
returns c = let given = c.args in
    let beats = given.beats.now in
    let pre = c.requires in
    let work-beats = c.quantize_column.ensures ∙ laid-all quantized beats given.work_beats.now (sym pre.0) in
    by-columns beats given.values.now pre.1 pre.2 (rw work-beats at c.tidy_scroll_segments-tidied.ensures) c.lay_narrowed.ensures
