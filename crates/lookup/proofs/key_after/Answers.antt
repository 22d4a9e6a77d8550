-- `lookup::key_after` is the row of the entry after them. Assumes nothing.
use Rattle.picks.proofs.Rules.{flags}
use Rattle.lookup.proofs.key_after.Goals as goal

pub returns-then-n-beats : goal.returns-then-n-beats
returns-then-n-beats c = rw c.row_key_f32.ensures (search flags depth 8)

pub returns : goal.returns
returns c = search flags depth 8
