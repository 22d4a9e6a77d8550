-- `columns::copy_turned` writes each number, the last first, as far as both columns go. Assumes nothing.
use mathlib.Core.Path.{refl}
use Prim.Native.Nat.{◌<◌}
use native.Mathlib.Omega.{arith}
use lib.Ieee.{nan}
use lib.ListN.{length}
use Rattle.columns.proofs.LaidEach.{ended}
use Rattle.columns.proofs.EachTurned.{begun-turned, inside-turned, next-turned}
use Rattle.columns.proofs.copy_turned.Goals as goal
use Rattle.columns.proofs.copy_turned.Goals.{In-loop-i}

pub loop-i-init : goal.loop-i-init
loop-i-init c = begun-turned c.args.from.now c.room_of-n.ensures

inside : (c : In-loop-i) → c.loop-i.i < length c.args.from.now
inside c = inside-turned c.args.from.now c.loop-i.invariant c.loop-i-test.true

pub overflow_sub-to : goal.overflow_sub-to
overflow_sub-to c = omega (arith, inside c)

pub overflow_sub-to-in-loop-i : goal.overflow_sub-to-in-loop-i
overflow_sub-to-in-loop-i c = omega (arith, inside c)

pub loop-i-preserved : goal.loop-i-preserved
loop-i-preserved c = next-turned c.args.from.now c.loop-i.invariant nan c.loop-i-test.true refl

pub returns : goal.returns
returns c = ended c.loop-i.invariant (omega arith)
