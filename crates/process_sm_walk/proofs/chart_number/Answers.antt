use Rattle.picks.proofs.Rules.{flags}
use Rattle.process_sm_walk.specs.Walking.{chart_number}
use Rattle.process_sm_walk.proofs.chart_number.Goals as goal

pub returns-then-all_numbers : goal.returns-then-all_numbers
unfolding chart_number
returns-then-all_numbers c = rw (← c.all_numbers.ensures) (search flags depth 9)

pub returns-then-stop_beats-stop_values : goal.returns-then-stop_beats-stop_values
unfolding chart_number
returns-then-stop_beats-stop_values c = rw (← c.all_numbers.ensures) (search flags depth 9)

pub returns-then-tempo_beats-tempo_values : goal.returns-then-tempo_beats-tempo_values
unfolding chart_number
returns-then-tempo_beats-tempo_values c = search flags depth 9

pub returns : goal.returns
unfolding chart_number
returns c = search flags depth 9
