-- `lookup_tests::rows_rise` counts the rows that do not rise, and there are none. Assumes nothing.
use native.Mathlib.Omega.{arith}
use mathlib.Core.Path.{◌≡◌}
use Prim.Native.Nat.{◌+◌, ◌-◌}
use lib.ListN.{get_or}
use lib.Ieee.{nan}
use Rattle.lookup_tests.proofs.RowsRise.{few-fall, falls-turn, falls-last}
use Rattle.lookup_tests.proofs.rows_rise.Goals as goal

pub overflow_add-falls : goal.overflow_add-falls
overflow_add-falls c = record { fits = omega (arith, c.one_not_above-falls.ensures, few-fall (get_or c.args.beats.now (c.loop-i.i - 1) nan) (get_or c.args.beats.now c.loop-i.i nan), c.loop-i.invariant.few) }

pub loop-i-preserved : goal.loop-i-preserved
loop-i-preserved c =
    let i = c.loop-i.i in
    let here : i - 1 + 1 ≡ i = omega arith in
    let next : i + 1 - 1 ≡ i - 1 + 1 = omega arith in
    rw next (falls-turn c.args.beats.now (i - 1) c.loop-i.falls c.loop-i.invariant c.one_not_above-falls.result (omega arith) (rw here c.one_not_above-falls.ensures))

pub returns : goal.returns
returns c = falls-last c.args.beats.now (c.loop-i.i - 1) c.loop-i.falls c.loop-i.invariant (omega arith)
