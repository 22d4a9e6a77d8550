-- `report_stdin::cut_short` leaves what is no whole input. Assumes nothing.
use Rattle.std.proofs.Common.{ap, ◌∙◌}
use Rattle.report_form.specs.Form.{whole}
use Rattle.report_form.proofs.NoZeroByte.{zero_not_whole}
use Rattle.report_stdin.proofs.cut_short.Goals as goal

pub returns-clause-result_value : goal.returns-clause-result_value
returns-clause-result_value c = ap whole c.step.ensures ∙ zero_not_whole _
