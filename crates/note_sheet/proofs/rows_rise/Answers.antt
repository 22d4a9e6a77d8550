-- `note_sheet::rows_rise` counts the neighbours that fail. Assumes nothing.
use Prim.Native.Nat.{◌+◌, ◌-◌}
use native.Mathlib.Omega.{arith}
use lib.ListN.{get_or}
use mathlib.Core.Path.{◌≡◌}
use lib.IntN.{pos}
use mir.Syntax.{w32}
use mir.ValLaws.{to_z-of_z}
use Rattle.limits.specs.Numbers.{miss}
use lib.Signed.{lt_z}
use Rattle.limits.proofs.Every.{counted_start, miss-few}
use Rattle.limits.specs.Neighbours.{neighbours}
use Rattle.limits.proofs.EachTwo.{passes, two-turn, two-end}
use Rattle.note_sheet.proofs.rows_rise.Goals as goal
use Rattle.note_sheet.proofs.rows_rise.Goals.{After-not_below-fail}

pub loop-i-init : goal.loop-i-init
loop-i-init c = counted_start (passes lt_z) (neighbours c.args.rows.now)

-- what is added of two neighbours
here : (c : After-not_below-fail) →
    let rows = c.args.rows.now in
    let i = c.loop-i.i in
    c.not_below-fail.result ≡ miss (passes lt_z) (get_or rows (i - 1) (pos 0), get_or rows i (pos 0))
here c =
    rw (to_z-of_z w32 _ (record { sfits = c.not_below-arg-1.given }), to_z-of_z w32 _ (record { sfits = c.not_below-arg-in-loop-i-1.given })) at c.not_below-fail.ensures

pub overflow_add-fail : goal.overflow_add-fail
overflow_add-fail c = record { fits = omega (arith, c.loop-i.invariant.few, here c, miss-few (passes lt_z) (get_or c.args.rows.now (c.loop-i.i - 1) (pos 0), get_or c.args.rows.now c.loop-i.i (pos 0))) }

pub loop-i-preserved : goal.loop-i-preserved
loop-i-preserved c =
    let i = c.loop-i.i in
    let back : i - 1 + 1 ≡ i = omega arith in
    let on : i + 1 - 1 ≡ i = omega arith in
    rw on (rw back at (two-turn lt_z (pos 0) c.args.rows.now {i = i - 1} c.not_below-fail.result (omega arith) (rw back (here c)) c.loop-i.invariant))

pub returns : goal.returns
returns c = two-end lt_z c.args.rows.now (omega arith) c.loop-i.invariant
