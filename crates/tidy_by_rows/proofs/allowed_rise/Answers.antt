-- `tidy_by_rows::allowed_rise` counts the beats that are on no later row than the one before. Assumes nothing.
use Prim.Native.Nat.{◌+◌, ◌-◌}
use native.Mathlib.Omega.{arith}
use lib.Ieee.{nan}
use mathlib.Core.Path.{◌≡◌}
use Rattle.limits.proofs.EachTwo.{two-turn, two-end}
use Rattle.rows.proofs.Allowed.{allowed_at}
use Rattle.tidy_by_rows.specs.ByMarks.{row_rises}
use Rattle.tidy_by_rows.proofs.allowed_rise.Goals as goal

pub not_later-fail-requires : goal.not_later-fail-requires
not_later-fail-requires c =
    let beats = c.args.beats.now in
    (allowed_at beats (c.loop-i.i - 1) c.requires (omega arith), allowed_at beats c.loop-i.i c.requires c.loop-i-test.true)

pub loop-i-preserved : goal.loop-i-preserved
loop-i-preserved c =
    let passed = c.loop-i.i - 1 in
    let here : passed + 1 ≡ c.loop-i.i = omega arith in
    let next : c.loop-i.i + 1 - 1 ≡ passed + 1 = omega arith in
    rw next (two-turn row_rises nan c.args.beats.now c.not_later-fail.result (omega arith) (rw here c.not_later-fail.ensures) c.loop-i.invariant)

pub returns : goal.returns
returns c = two-end row_rises c.args.beats.now (omega arith) c.loop-i.invariant
