-- `tidy_marks::marked_number` is `marked_number`, test by test. Assumes nothing.
use mathlib.Core.Path.{sym, ◌∙◌}
use borrow.Author.Tests.{not-true, not-false}
use Rattle.tidy_marks.proofs.MarkedTaken.{refused_by_sizes, sizes-passed}
use Rattle.tidy_marks.proofs.marked_number.Goals as goal

pub returns-then-sizes-ne-TAKEN : goal.returns-then-sizes-ne-TAKEN
returns-then-sizes-ne-TAKEN c =
    let start = c in
    let sizes = c.sizes_number-sizes in
    sizes.ensures ∙ refused_by_sizes start.args.beats.now start.args.marks.now (λ z. c.if-sizes-ne-TAKEN.true (sizes.ensures ∙ z))

pub returns-then-not-column_taken : goal.returns-then-not-column_taken
returns-then-not-column_taken c =
    let start = c in
    let bad = sym c.column_taken.ensures ∙ not-true c.column_taken.result c.if-not-column_taken.true-raw in
    sym (sizes-passed start.args.beats.now start.args.marks.now (sym c.sizes_number-sizes.ensures ∙ c.if-sizes-ne-TAKEN.false) ∙ rw bad)

pub returns-then-not-units_taken : goal.returns-then-not-units_taken
returns-then-not-units_taken c =
    let start = c in
    let good = sym c.column_taken.ensures ∙ not-false c.column_taken.result c.if-not-column_taken.false-raw in
    let bad = sym c.units_taken.ensures ∙ not-true c.units_taken.result c.if-not-units_taken.true-raw in
    sym (sizes-passed start.args.beats.now start.args.marks.now (sym c.sizes_number-sizes.ensures ∙ c.if-sizes-ne-TAKEN.false) ∙ rw (good, bad))

pub returns : goal.returns
returns c =
    let start = c in
    let good = sym c.column_taken.ensures ∙ not-false c.column_taken.result c.if-not-column_taken.false-raw in
    let all = sym c.units_taken.ensures ∙ not-false c.units_taken.result c.if-not-units_taken.false-raw in
    sym (sizes-passed start.args.beats.now start.args.marks.now (sym c.sizes_number-sizes.ensures ∙ c.if-sizes-ne-TAKEN.false) ∙ rw (good, all))
