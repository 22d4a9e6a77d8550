-- `assembly_speeds::assemble_in` quantises, tidies and narrows. Assumes nothing.
use mathlib.Core.Path.{sym, ◌∙◌}
use Rattle.rows.specs.Rows.{quantized}
use Rattle.columns.proofs.LaidEach.{laid-all}
use Rattle.assembly_speeds.proofs.Outcomes.{by-columns}
use Rattle.chart.specs.ChartColumns.{speed_columns}
use borrow.Author.Rules.{rules}
use Rattle.assembly_speeds.proofs.assemble_in.Goals as goal

pub shape_of-work_beats : goal.shape_of-work_beats
shape_of-work_beats c = c.quantize_column.auto.to

pub returns : goal.returns
returns c =
    let given = c.args in
    let beats = given.beats.now in
    let pre = c.requires in
    let work-beats = c.quantize_column.ensures ∙ laid-all quantized beats given.work_beats.now (sym pre.0) in
    by-columns (speed_columns beats given.ratios.now given.delays.now given.units.now) pre.1 pre.2 pre.3 pre.4 (rw work-beats at c.tidy_speed_segments-tidied.ensures) c.lay_narrowed.ensures
