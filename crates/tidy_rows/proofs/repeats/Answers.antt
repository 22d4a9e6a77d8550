-- `tidy_rows::repeats` is 1 for beats on one row. Assumes nothing.
use native.Mathlib.Omega.{arith}
use borrow.Author.Tests.{eq-eqb, ne_eqb}
use Rattle.rows.specs.RowKey.{row_key_at}
use Rattle.tidy_rows.proofs.repeats.Goals as goal

pub returns-then-row_pattern : goal.returns-then-row_pattern
returns-then-row_pattern c =
    let given = c.args in
    rw (eq-eqb (row_key_at given.beat) (row_key_at given.next) (omega (arith, c.if-row_pattern.true, c.row_pattern.ensures, c.row_pattern-2.ensures)))

pub returns-else-row_pattern : goal.returns-else-row_pattern
returns-else-row_pattern c =
    let given = c.args in
    rw (ne_eqb (row_key_at given.beat) (row_key_at given.next) (λ e. c.if-row_pattern.false (omega (arith, e, c.row_pattern.ensures, c.row_pattern-2.ensures))))
