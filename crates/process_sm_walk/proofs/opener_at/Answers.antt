use Rattle.process_sm_walk.proofs.Opening.{max-one}
use Rattle.process_sm_walk.proofs.opener_at.Goals as goal

pub returns-then-at-eq0 : goal.returns-then-at-eq0
returns-then-at-eq0 c = rw c.if-at-eq0.true

pub returns : goal.returns
returns c = rw (← max-one c.args.at c.if-at-eq0.false)
