-- `tidy_speeds::speed_list_number` makes the tests in their order. Assumes nothing.
use Rattle.picks.proofs.Rules.{flags}
use Rattle.tidy_speeds.specs.SpeedTidying.{speed_list_number}
use borrow.Author.Rules.{rules}
use Rattle.tidy_speeds.proofs.speed_list_number.Goals as goal

pub returns-then-beats-gt-MOST_ENTRIES : goal.returns-then-beats-gt-MOST_ENTRIES
unfolding speed_list_number
returns-then-beats-gt-MOST_ENTRIES c = search flags depth 9

pub returns-then-ratios-gt-MOST_ENTRIES : goal.returns-then-ratios-gt-MOST_ENTRIES
unfolding speed_list_number
returns-then-ratios-gt-MOST_ENTRIES c = search flags depth 9

pub returns-then-delays-gt-MOST_ENTRIES : goal.returns-then-delays-gt-MOST_ENTRIES
unfolding speed_list_number
returns-then-delays-gt-MOST_ENTRIES c = search flags depth 9

pub returns-then-units-gt-MOST_ENTRIES : goal.returns-then-units-gt-MOST_ENTRIES
unfolding speed_list_number
returns-then-units-gt-MOST_ENTRIES c = search flags depth 9

pub returns-then-beats-ratios : goal.returns-then-beats-ratios
unfolding speed_list_number
returns-then-beats-ratios c = search flags depth 9

pub returns-then-beats-delays : goal.returns-then-beats-delays
unfolding speed_list_number
returns-then-beats-delays c = search flags depth 9

pub returns-then-beats-units : goal.returns-then-beats-units
unfolding speed_list_number
returns-then-beats-units c = search flags depth 9

pub returns-then-not-column_taken : goal.returns-then-not-column_taken
unfolding speed_list_number
returns-then-not-column_taken c = rw (← c.column_taken.ensures) (search flags depth 12)

pub returns : goal.returns
unfolding speed_list_number
returns c = rw (← c.column_taken.ensures, ← c.values_number.ensures) (search flags depth 12)
