-- `process_ssc::lay_all` quantises every beat and copies every value. Assumes nothing.
use mathlib.Core.Path.{◌∙◌}
use native.Mathlib.Omega.{arith}
use Rattle.rows.specs.Rows.{quantized}
use Rattle.columns.proofs.EachOverFront.{each_over_front, copied_over_front}
use Rattle.process_ssc.proofs.lay_all.Goals as goal

pub returns : goal.returns
returns c =
    let start = c in
    let given = start.args in
    record {
      out_beats_after = c.quantize_column.ensures ∙ each_over_front quantized given.beats.now given.out_beats.now (omega (arith, start.requires.beats_len_bound));
      out_values_after = c.copy.ensures ∙ copied_over_front given.values.now given.out_values.now (omega (arith, start.requires.beats_len, start.requires.beats_len_bound));
    }
