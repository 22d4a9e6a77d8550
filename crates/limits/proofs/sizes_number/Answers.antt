-- `limits::sizes_number` is `sizes_number`, test by test. Assumes nothing.
use Rattle.picks.proofs.Rules.{flags}
use Rattle.limits.specs.Refusals.{sizes_number}
use Rattle.limits.proofs.sizes_number.Goals as goal

pub returns-then-beats-gt-MOST_ENTRIES : goal.returns-then-beats-gt-MOST_ENTRIES
unfolding sizes_number
returns-then-beats-gt-MOST_ENTRIES c = search flags depth 8

pub returns-then-values-gt-MOST_ENTRIES : goal.returns-then-values-gt-MOST_ENTRIES
unfolding sizes_number
returns-then-values-gt-MOST_ENTRIES c = search flags depth 8

pub returns-then-beats-values : goal.returns-then-beats-values
unfolding sizes_number
returns-then-beats-values c = search flags depth 8

pub returns : goal.returns
unfolding sizes_number
returns c = search flags depth 8
