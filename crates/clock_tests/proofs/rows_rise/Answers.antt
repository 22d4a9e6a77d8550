-- `clock_tests::rows_rise` goes row by row. Assumes nothing.
use mir.ValLaws.{to_z-of_z}
use Rattle.std.proofs.Common.{◌≡◌, ◌+◌, get_or, ℤ, sym, ap, ◌∙◌, subst, arith, w32, to_z, of_z}
use lib.Signed.{lt_z}
use lib.Ieee.{nan, binary64}
use Rattle.rows.specs.Rows.{row}
use Rattle.clock_tests.proofs.RowByRow.{none-rise, Rising, begun, over, not_higher, higher, length-behind, get_or-behind}
use Rattle.clock_tests.proofs.rows_rise.Goals as goal
use Rattle.clock_tests.proofs.rows_rise.Goals.{After-row_of-row}

pub returns-then-beats-eq0 : goal.returns-then-beats-eq0
returns-then-beats-eq0 c =
    none-rise c.args.beats.now c.if-beats-eq0.true

pub loop-beat-init : goal.loop-beat-init
loop-beat-init c =
    let l = c.args.beats.now in
    subst (λ (z : ℤ). Rising l z 1) (sym (to_z-of_z w32 c.row_of-last.result (record { sfits = c.row_of-last.type_inv }) ∙ c.row_of-last.ensures)) (begun l c.if-beats-eq0.false)

is_row : (c : After-row_of-row) → to_z w32 (of_z w32 c.row_of-row.result) ≡ row binary64 (get_or c.args.beats.now (c.loop-beat.beat-index + 1) nan)
is_row c =
    to_z-of_z w32 c.row_of-row.result (record { sfits = c.row_of-row.type_inv })
    ∙ c.row_of-row.ensures
    ∙ ap (row binary64) (get_or-behind c.args.beats.now c.loop-beat.beat-index)

pub loop-beat-preserved : goal.loop-beat-preserved
loop-beat-preserved c =
    let l = c.args.beats.now in
    let at = c.loop-beat in
    let is = is_row (goal.at.loop-beat-preserved c).After-row_of-row in
    rw is (higher l (to_z w32 at.last-bits) (at.beat-index + 1) at.invariant (omega (arith, length-behind l, c.loop-beat-test.true)) (sym (ap (lt_z (to_z w32 at.last-bits)) is) ∙ c.if-last-row.true))

pub returns-in-loop-beat : goal.returns-in-loop-beat
returns-in-loop-beat c =
    let l = c.args.beats.now in
    let at = c.loop-beat in
    let is = is_row (goal.at.returns-in-loop-beat c).After-row_of-row in
    not_higher l (to_z w32 at.last-bits) (at.beat-index + 1) at.invariant (omega (arith, length-behind l, c.loop-beat-test.true)) (sym (ap (lt_z (to_z w32 at.last-bits)) is) ∙ c.if-last-row.false)

pub returns : goal.returns
returns c =
    let l = c.args.beats.now in
    let at = c.loop-beat in
    over l (to_z w32 at.last-bits) (at.beat-index + 1) at.invariant (omega (arith, length-behind l, c.loop-beat-test.false))
