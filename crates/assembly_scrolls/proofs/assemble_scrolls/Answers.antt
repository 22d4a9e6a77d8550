-- `assembly_scrolls::assemble_scrolls` meets its contract. Assumes nothing.
use Rattle.assembly_scrolls.proofs.Outcomes.{long-refused}
use borrow.Author.Rules.{rules}
use Rattle.assembly_scrolls.proofs.assemble_scrolls.Goals as goal

pub returns-then-beats-le-MOST_ENTRIES : goal.returns-then-beats-le-MOST_ENTRIES
returns-then-beats-le-MOST_ENTRIES c = c.assemble_any.ensures

pub returns : goal.returns
returns c =
    let given = c.args in
    rw c.refused.ensures (long-refused given.beats.now given.values.now given.out_beats.now given.out_values.now c.if-beats-le-MOST_ENTRIES.false)
