-- `clock_run::rest_until` is `rest_until`. Assumes nothing.
use Rattle.std.proofs.Common.{◌∙◌}
use Rattle.rows.proofs.BackFromBits.{back}
use Rattle.clock_run.specs.inside.Outlook.{rest_until}
use Rattle.clock_run.proofs.rest_until.Goals as goal

pub returns : goal.returns
unfolding rest_until
returns c =
    rw (
      ← back c.row_at-stop.result (record { sfits = c.row_at-stop.type_inv }) ∙ c.row_at-stop.ensures,
      ← back c.row_at-warp.result (record { sfits = c.row_at-warp.type_inv }) ∙ c.row_at-warp.ensures,
      ← back c.least_of-later.result (record { sfits = c.least_of-later.type_inv }) ∙ c.least_of-later.ensures,
      ← back c.row_at-delay.result (record { sfits = c.row_at-delay.type_inv }) ∙ c.row_at-delay.ensures,
      ← back c.least_of-behind.result (record { sfits = c.least_of-behind.type_inv }) ∙ c.least_of-behind.ensures,
      ← back c.end_row-end.result (record { sfits = c.end_row-end.type_inv }) ∙ c.end_row-end.ensures,
      ← back c.least_of-next.result (record { sfits = c.least_of-next.type_inv }) ∙ c.least_of-next.ensures,
      ← back c.least_of.result (record { sfits = c.least_of.type_inv }) ∙ c.least_of.ensures,
    )
