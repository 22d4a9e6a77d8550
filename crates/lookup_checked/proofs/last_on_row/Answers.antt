-- `lookup_checked::last_on_row` compares the key of the entry at a place. Assumes nothing.
use mathlib.Core.Path.{◌∙◌, sym, ap}
use native.Mathlib.Omega.{arith}
use mir.Syntax.{w32}
use mir.ValLaws.{to_z-of_z}
use Rattle.rows.specs.RowKey.{row_key}
use Rattle.lookup_checked.proofs.OnRow.{by_key, another_row}
use borrow.Author.Rules.{rules}
use Rattle.lookup_checked.proofs.last_on_row.Goals as goal

pub returns-then-is_before_row : goal.returns-then-is_before_row
returns-then-is_before_row c =
    let before = c in
    let start = before in
    let row = start.args.row in
    another_row start.args.beats.now start.args.place (row_key row) (omega arith) (λ e. before.is_before_row.ensures c.if-is_before_row.true (e ∙ sym (ap row_key (to_z-of_z w32 row start.ranges.row))))

pub returns : goal.returns
returns c =
    let key = c in
    let start = key in
    let row = start.args.row in
    rw (key.row_key_f32.ensures, c.key_of_row.ensures, to_z-of_z w32 row start.ranges.row) (by_key start.args.beats.now start.args.place (row_key row) (omega arith))
