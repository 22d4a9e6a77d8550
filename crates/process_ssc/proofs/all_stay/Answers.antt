-- `process_ssc::all_stay` looks at the lengths and at each column. Assumes nothing.
use mathlib.Core.Path.{sym, ◌∙◌}
use Rattle.process_ssc.proofs.EachStays.{no, whole-list}
use Rattle.process_ssc.proofs.all_stay.Goals as goal

pub returns-then-beats-gt-MOST_ENTRIES : goal.returns-then-beats-gt-MOST_ENTRIES
returns-then-beats-gt-MOST_ENTRIES c e = no e

pub returns-then-beats-values : goal.returns-then-beats-values
returns-then-beats-values c e = no e

pub returns-then-beats_stay : goal.returns-then-beats_stay
returns-then-beats_stay c e =
    let s = c in
    whole-list s.args.beats.now s.args.values.now c.if-beats-gt-MOST_ENTRIES.false c.if-beats-values.false (sym c.beats_stay.ensures ∙ c.if-beats_stay.true) (sym c.values_stay.ensures ∙ e)

pub returns : goal.returns
returns c e = no e
