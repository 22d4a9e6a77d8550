-- `mend_speeds::mend_in` walks in the lent columns, and lays what it finds. Assumes nothing.
use Rattle.chart.specs.ChartColumns.{speed_columns}
use Rattle.mend_speeds.proofs.Outcomes.{ratios-even, even-values}
use Rattle.mend_speeds.proofs.mend_in.Goals as goal

pub walk-count-requires : goal.walk-count-requires
walk-count-requires c =
    let start = c in
    let given = start.args in
    let speeds = speed_columns given.beats.now given.ratios.now given.delays.now given.units.now in
    record {
      beats_len = (ratios-even speeds start.requires.units_value, even-values speeds start.requires.units_value);
      work_for = start.requires.work_for;
    }

pub lay_mended-requires : goal.lay_mended-requires
lay_mended-requires c =
    let walked = c in
    let start = walked in
    record {
      units_value = start.requires.units_value;
      walked_beats = walked.walk-count.ensures;
    }
