-- `lookup_warped::start_key` meets its contract. Assumes nothing.
use Rattle.std.proofs.Common.{ap, ◌∙◌}
use Rattle.rows.specs.RowKey.{row_key_at}
use Rattle.lookup_warped.proofs.start_key.Goals as goal

pub returns : goal.returns
returns c = c.row_key.ensures ∙ ap row_key_at c.f32_to_f64_with_nan.ensures
