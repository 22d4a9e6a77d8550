-- `limits::list_number` is `list_number`, test by test. Assumes nothing.
use Rattle.std.proofs.Common.{ℕ, ◌≡◌, List, Float, length}
use Rattle.ieee.proofs.ColumnNumbers.{numbers_long}
use Rattle.picks.proofs.Rules.{flags}
use Rattle.picks.specs.Pick.{pick}
use Rattle.limits.specs.declared.Range.{Range}
use Rattle.limits.specs.Numbers.{all_in}
use Rattle.limits.specs.Refusals.{sizes_then, list_number}
use Rattle.limits.specs.Table.{bad_beat, bad_value}
use Rattle.limits.proofs.list_number.Goals as goal

-- by how many entries the columns have whose numbers these are
by_lengths : {many more answer : ℕ} (beat value : Range) (beats values : List Float) → length beats ≡ many → length values ≡ more
    → answer ≡ sizes_then many more (pick (all_in beat beats) (pick (all_in value values) 0 bad_value) bad_beat) → answer ≡ list_number beat value beats values
unfolding list_number
by_lengths beat value beats values long longer known = rw (long, longer) known

pub returns-then-beats-gt-MOST_ENTRIES : goal.returns-then-beats-gt-MOST_ENTRIES
returns-then-beats-gt-MOST_ENTRIES g c = let each = g.met.R.Real.each in by_lengths _ _ _ _ (numbers_long each c.args.beats.now) (numbers_long each c.args.values.now) (search flags depth 9)

pub returns-then-values-gt-MOST_ENTRIES : goal.returns-then-values-gt-MOST_ENTRIES
returns-then-values-gt-MOST_ENTRIES g c = let each = g.met.R.Real.each in by_lengths _ _ _ _ (numbers_long each c.args.beats.now) (numbers_long each c.args.values.now) (search flags depth 9)

pub returns-then-beats-values : goal.returns-then-beats-values
returns-then-beats-values g c = let each = g.met.R.Real.each in by_lengths _ _ _ _ (numbers_long each c.args.beats.now) (numbers_long each c.args.values.now) (search flags depth 9)

pub returns-then-not-column_taken : goal.returns-then-not-column_taken
returns-then-not-column_taken g c = let each = g.met.R.Real.each in by_lengths _ _ _ _ (numbers_long each c.args.beats.now) (numbers_long each c.args.values.now) (rw (← c.column_taken.ensures) (search flags depth 9))

pub returns-then-not-column_taken-2 : goal.returns-then-not-column_taken-2
returns-then-not-column_taken-2 g c = let each = g.met.R.Real.each in by_lengths _ _ _ _ (numbers_long each c.args.beats.now) (numbers_long each c.args.values.now) (rw (← c.column_taken-2.ensures, ← c.column_taken.ensures) (search flags depth 12))

pub returns : goal.returns
returns g c = let each = g.met.R.Real.each in by_lengths _ _ _ _ (numbers_long each c.args.beats.now) (numbers_long each c.args.values.now) (rw (← c.column_taken-2.ensures, ← c.column_taken.ensures) (search flags depth 12))
