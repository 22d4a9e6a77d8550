-- `report_form::is_over` meets its contract, test by test. Assumes nothing.
use mathlib.Core.Path.{◌≡◌}
use lib.ListN.{drop}
use Rattle.report_form.specs.Form.{over}
use Rattle.report_form.proofs.is_over.Given as goal

abbrev pub invariant-loop-count : goal.invariant-loop-count
invariant-loop-count l = over (drop l.count-index l.counts) ≡ over l.counts
