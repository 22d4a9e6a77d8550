-- `assembly_scrolls::scrolls_number` has the list assembled only where its number is not known at once. Assumes nothing.
use mathlib.Core.Path.{sym, ◌∙◌}
use mathlib.Core.Bool.{true, false}
use Rattle.assembly_scrolls.proofs.Untested.{later-short, later-by}
use borrow.Author.Rules.{rules}
use Rattle.assembly_scrolls.proofs.scrolls_number.Goals as goal

pub returns-then-beats-room : goal.returns-then-beats-room
returns-then-beats-room c = let given = c.args in c.number_in.ensures ∙ later-short given.beats.now given.values.now given.room c.if-beats-room.true

pub returns-then-never_fall : goal.returns-then-never_fall
returns-then-never_fall c = let given = c.args in later-by given.beats.now given.values.now given.room true c.if-beats-room.false (sym c.if-never_fall.true ∙ c.never_fall.ensures)

pub returns : goal.returns
returns c =
    let given = c.args in
    c.number_in-2.ensures ∙ later-by given.beats.now given.values.now given.room false c.if-beats-room.false (sym c.if-never_fall.false ∙ c.never_fall.ensures)
