-- `replay_cases::replay_all` counts without overflow. Assumes nothing.
use Rattle.std.proofs.Common.{◌≤◌}
use Rattle.replay_cases.proofs.replay_all.Given as goal

abbrev pub invariant-loop-answers : goal.invariant-loop-answers
invariant-loop-answers l = l.different ≤ l.answers
