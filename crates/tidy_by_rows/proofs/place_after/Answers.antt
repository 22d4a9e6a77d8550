-- `tidy_by_rows::place_after` halves what is left until the place is found. Assumes nothing.
use Rattle.tidy_kept.proofs.Searched.{halving_all, halving_up, halving_down, halving_ends}
use Rattle.rows.specs.RowKey.{row_key_at}
use lib.ListN.{length, get_or}
use lib.Ieee.{nan}
use native.Mathlib.Omega.{arith}
use Prim.Native.Nat.{◌+◌, ◌-◌, ◌/◌}
use borrow.Author.Tests.{le-leb, lt-leb}
use Rattle.tidy_by_rows.proofs.place_after.Goals as goal
use Rattle.tidy_by_rows.proofs.place_after.Invariants.{passes}

pub loop-low-init : goal.loop-low-init
loop-low-init c = halving_all (passes c.args.beats.now c.args.row) (length c.args.beats.now)

pub loop-low-preserved-then-row_key-row : goal.loop-low-preserved-then-row_key-row
loop-low-preserved-then-row_key-row c =
    let at = c in
    let beats = at.args.beats.now in
    let row = at.args.row in
    let low = at.loop-low.low in
    let high = at.loop-low.high in
    let middle = low + (high - low) / 2 in
    halving_up (passes beats row) (length beats) low high at.loop-low.invariant (omega arith) (le-leb (row_key_at (get_or beats middle nan)) row (omega (arith, c.row_key.ensures, c.if-row_key-row.true)))

pub loop-low-preserved : goal.loop-low-preserved
loop-low-preserved c =
    let at = c in
    let beats = at.args.beats.now in
    let row = at.args.row in
    let low = at.loop-low.low in
    let high = at.loop-low.high in
    let middle = low + (high - low) / 2 in
    halving_down (passes beats row) (length beats) low high at.loop-low.invariant (omega arith) (lt-leb (row_key_at (get_or beats middle nan)) row (omega (arith, c.row_key.ensures, c.if-row_key-row.false)))

pub returns : goal.returns
returns c =
    let at = c in
    let beats = at.args.beats.now in
    halving_ends (passes beats at.args.row) (length beats) at.loop-low.low at.loop-low.high at.loop-low.invariant (omega arith)
