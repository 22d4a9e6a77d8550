-- `clock_tests::rows_in` is `rows_in`. Assumes nothing.
use Rattle.std.proofs.Common.{◌≡◌, true, false, ℤ, sym, ap, ◌∙◌, w32}
use Rattle.clock_tests.specs.CursorNumbers.{fresh_mark, rows_in}
use lib.Signed.{le_z}
use mir.ValLaws.{to_z-of_z}
use Rattle.limits.specs.Numbers.{row_in}
use Rattle.picks.proofs.Rules.{flags}
use Rattle.clock_tests.specs.CursorNumbers.{rows_in}
use Rattle.clock_tests.proofs.rows_in.Goals as goal

pub returns-then-row_taken-2 : goal.returns-then-row_taken-2
unfolding rows_in
returns-then-row_taken-2 c =
    rw (← ap row_in (to_z-of_z w32 c.args.last c.ranges.last), ← ap row_in (to_z-of_z w32 c.args.asked c.ranges.asked), ← c.row_taken-then-row_taken.ensures, ← c.row_taken.ensures) (search flags depth 9)

marked : (last asked : ℤ) → row_in last ≡ true → row_in asked ≡ false → le_z asked fresh_mark ≡ rows_in last asked
unfolding rows_in
marked last asked h k = rw (h, k)

pub returns-then-row_taken : goal.returns-then-row_taken
returns-then-row_taken c =
    let s = c in rw (to_z-of_z w32 s.args.asked s.ranges.asked) (marked s.args.last s.args.asked (sym (c.row_taken.ensures ∙ ap row_in (to_z-of_z w32 s.args.last s.ranges.last)) ∙ c.if-row_taken.true) (sym (c.row_taken-then-row_taken.ensures ∙ ap row_in (to_z-of_z w32 s.args.asked s.ranges.asked)) ∙ c.if-row_taken-2.false))

pub returns : goal.returns
unfolding rows_in
returns c =
    rw (← ap row_in (to_z-of_z w32 c.args.last c.ranges.last), ← c.row_taken.ensures) (search flags depth 9)
