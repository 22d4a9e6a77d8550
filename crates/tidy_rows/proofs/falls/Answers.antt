-- `tidy_rows::falls` is 1 where the next row is lower. Assumes nothing.
use native.Mathlib.Omega.{arith}
use borrow.Author.Tests.{lt-ltb, le-ltb}
use Rattle.rows.specs.RowKey.{row_key_at}
use Rattle.tidy_rows.proofs.falls.Goals as goal

pub returns-then-row_pattern : goal.returns-then-row_pattern
returns-then-row_pattern c =
    let given = c.args in
    rw (lt-ltb (row_key_at given.next) (row_key_at given.beat) (omega (arith, c.if-row_pattern.true, c.row_pattern.ensures, c.row_pattern-2.ensures)))

pub returns-else-row_pattern : goal.returns-else-row_pattern
returns-else-row_pattern c =
    let given = c.args in
    rw (le-ltb (row_key_at given.next) (row_key_at given.beat) (omega (arith, c.if-row_pattern.false, c.row_pattern.ensures, c.row_pattern-2.ensures)))
