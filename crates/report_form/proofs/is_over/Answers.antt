-- `report_form::is_over` meets its contract, test by test. Assumes nothing.
use mathlib.Core.Path.{◌∙◌}
use Rattle.report_form.proofs.Counts.{over_hit, over-miss, over-end}
use Rattle.report_form.proofs.is_over.Goals as goal

pub returns-then-count-gt-MOST_COUNTED : goal.returns-then-count-gt-MOST_COUNTED
returns-then-count-gt-MOST_COUNTED c = over_hit c.args.counts.now c.loop-count.count-index c.loop-count-test.true c.if-count-gt-MOST_COUNTED.true ∙ c.loop-count.invariant

pub loop-count-preserved : goal.loop-count-preserved
loop-count-preserved c = over-miss c.args.counts.now c.loop-count.count-index c.loop-count-test.true c.if-count-gt-MOST_COUNTED.false ∙ c.loop-count.invariant

pub returns : goal.returns
returns c = over-end c.args.counts.now c.loop-count.count-index c.loop-count-test.false ∙ c.loop-count.invariant
