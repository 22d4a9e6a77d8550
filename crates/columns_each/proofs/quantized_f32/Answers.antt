-- `columns_each::quantized_f32` narrows, and then quantises. Assumes nothing.
use Rattle.std.proofs.Common.{ap, ◌∙◌}
use Rattle.rows.specs.Rows.{quantized32}
use Rattle.columns_each.proofs.quantized_f32.Goals as goal

pub returns : goal.returns
returns c = c.quantize_beat_f32.ensures ∙ ap quantized32 c.narrow_f64.ensures
