-- `clock_bench::most_events` meets its contract. Assumes nothing.
use Rattle.std.proofs.Common.{eq-eqb, ne_eqb}
use Rattle.clock_bench.proofs.most_events.Goals as goal

pub returns-then-tempos-eq0 : goal.returns-then-tempos-eq0
returns-then-tempos-eq0 c = rw (eq-eqb c.args.tempos 0 c.if-tempos-eq0.true)

pub returns : goal.returns
returns c = rw (ne_eqb c.args.tempos 0 c.if-tempos-eq0.false)
