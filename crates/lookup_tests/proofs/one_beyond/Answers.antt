-- `lookup_tests::one_beyond` is 1 for a row beyond the limit. Assumes nothing.
use mir.Syntax.{w32}
use mir.ValLaws.{to_z-of_z}
use Rattle.picks.proofs.Rules.{flags}
use Rattle.lookup_tests.proofs.one_beyond.Goals as goal

pub returns-then-row_taken : goal.returns-then-row_taken
returns-then-row_taken c = rw (← rw (to_z-of_z w32 c.args.row c.ranges.row) at c.row_taken.ensures) (search flags)

pub returns-else-row_taken : goal.returns-else-row_taken
returns-else-row_taken c = rw (← rw (to_z-of_z w32 c.args.row c.ranges.row) at c.row_taken.ensures) (search flags)
