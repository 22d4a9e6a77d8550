-- `lookup_tests::rows_taken` counts the rows beyond the limit, and there are none. Assumes nothing.
use mir.Syntax.{w32}
use mir.ValLaws.{to_z-of_z}
use mathlib.Core.Path.{ap, ◌∙◌}
use lib.IntN.{pos}
use lib.ListN.{get_or}
use Rattle.limits.proofs.Every.{counted-turn, counted-end}
use Rattle.limits.specs.Numbers.{row_in, miss}
use borrow.Author.Rules.{rules}
use Rattle.lookup_tests.proofs.rows_taken.Goals as goal

pub loop-row-preserved : goal.loop-row-preserved
loop-row-preserved c =
    let start = c in
    let asked = get_or start.args.rows.now c.loop-row.row-index (pos 0) in
    let said = c.one_beyond-beyond.ensures ∙ ap (miss row_in) (to_z-of_z w32 asked (record { sfits = search rules })) in
    counted-turn row_in c.one_beyond-beyond.result (pos 0) c.loop-row-test.true said c.loop-row.invariant

pub returns : goal.returns
returns c = counted-end row_in c.loop-row-test.false c.loop-row.invariant
