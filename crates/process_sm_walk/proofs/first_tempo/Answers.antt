use Rattle.process_sm_walk.proofs.Opening.{first_empty, first_some}
use Rattle.process_sm_walk.proofs.first_tempo.Goals as goal

pub returns-then-values-eq0 : goal.returns-then-values-eq0
returns-then-values-eq0 c = first_empty c.args.values.now c.if-values-eq0.true

pub returns : goal.returns
returns c = first_some c.args.values.now c.if-values-eq0.false
