-- `assembly_speeds::assemble_speeds` meets its contract. Assumes nothing.
use Rattle.assembly_speeds.proofs.Outcomes.{long-refused}
use Rattle.chart.specs.ChartColumns.{speed_columns}
use borrow.Author.Rules.{rules}
use Rattle.assembly_speeds.proofs.assemble_speeds.Goals as goal

pub returns-then-beats-le-MOST_ENTRIES : goal.returns-then-beats-le-MOST_ENTRIES
returns-then-beats-le-MOST_ENTRIES c = c.assemble_any.ensures

pub returns : goal.returns
returns c =
    let given = c.args in
    rw c.refused.ensures (long-refused (speed_columns given.beats.now given.ratios.now given.delays.now given.units.now) (speed_columns given.out_beats.now given.out_ratios.now given.out_delays.now given.out_units.now) c.if-beats-le-MOST_ENTRIES.false)
