-- `replay_leaf::replay` counts without overflow. Assumes nothing.
use Rattle.std.proofs.Common.{◌≤◌}
use Rattle.replay_leaf.proofs.replay.Given as goal

abbrev pub invariant-loop-line : goal.invariant-loop-line
invariant-loop-line l = l.different ≤ l.line-index
