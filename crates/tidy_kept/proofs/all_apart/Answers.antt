-- `tidy_kept::all_apart` counts the values that are near the one before. Assumes nothing.
use Prim.Native.Nat.{◌+◌, ◌-◌}
use native.Mathlib.Omega.{arith}
use lib.Ieee.{nan}
use mathlib.Core.Path.{◌≡◌}
use Rattle.limits.proofs.EachTwo.{two-turn, two-end}
use Rattle.tidy_kept.specs.Near.{far_from}
use Rattle.tidy_kept.proofs.all_apart.Goals as goal

pub loop-i-preserved : goal.loop-i-preserved
loop-i-preserved c =
    let passed = c.loop-i.i - 1 in
    let here : passed + 1 ≡ c.loop-i.i = omega arith in
    let next : c.loop-i.i + 1 - 1 ≡ passed + 1 = omega arith in
    rw next (two-turn far_from nan c.args.values.now c.one_near-fail.result (omega arith) (rw here c.one_near-fail.ensures) c.loop-i.invariant)

pub returns : goal.returns
returns c = two-end far_from c.args.values.now (omega arith) c.loop-i.invariant
