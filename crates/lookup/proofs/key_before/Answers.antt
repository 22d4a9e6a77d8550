-- `lookup::key_before` is the row of the last of the first entries. Assumes nothing.
use Rattle.picks.proofs.Rules.{flags}
use Rattle.lookup.proofs.key_before.Goals as goal

pub returns-then-n-eq0 : goal.returns-then-n-eq0
returns-then-n-eq0 c = search flags depth 8

pub returns : goal.returns
returns c = rw c.row_key_f32.ensures (search flags depth 8)
