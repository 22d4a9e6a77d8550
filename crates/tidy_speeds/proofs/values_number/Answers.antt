-- `tidy_speeds::values_number` meets its contract. Assumes nothing.
use Rattle.picks.proofs.Rules.{flags}
use Rattle.tidy_speeds.specs.SpeedTidying.{values_number}
use borrow.Author.Rules.{rules}
use Rattle.tidy_speeds.proofs.values_number.Goals as goal

pub returns-then-not-column_taken : goal.returns-then-not-column_taken
unfolding values_number
returns-then-not-column_taken c = rw (← c.column_taken.ensures) (search flags depth 9)

pub returns-then-not-column_taken-2 : goal.returns-then-not-column_taken-2
unfolding values_number
returns-then-not-column_taken-2 c = rw (← c.column_taken.ensures, ← c.column_taken-2.ensures) (search flags depth 9)

pub returns-then-not-units_taken : goal.returns-then-not-units_taken
unfolding values_number
returns-then-not-units_taken c = rw (← c.column_taken.ensures, ← c.column_taken-2.ensures, ← c.units_taken.ensures) (search flags depth 9)

pub returns : goal.returns
unfolding values_number
returns c = rw (← c.column_taken.ensures, ← c.column_taken-2.ensures, ← c.units_taken.ensures) (search flags depth 9)
