-- `replay_lists::count_different` counts without overflow. Assumes nothing.
use Rattle.std.proofs.Common.{◌≤◌}
use Rattle.replay_lists.proofs.count_different.Given as goal

abbrev pub invariant-loop : goal.invariant-loop
invariant-loop l = l.different ≤ l.counter
