-- `assembly_tempos::cast_column` writes each number, as far as both columns go. Assumes nothing.
use Prim.Native.Nat.{◌<◌}
use native.Mathlib.Omega.{arith}
use lib.Ieee.{nan}
use lib.ListN.{length-take}
use lib.Seq.{get_or-take}
use Rattle.columns.proofs.LaidEach.{begun, turned, ended}
use Rattle.assembly_tempos.proofs.OnRows.{held_at}
use Rattle.assembly_tempos.proofs.cast_column.Goals as goal

pub loop-i-init : goal.loop-i-init
loop-i-init c = begun c.room_of-n.ensures

pub float_to_float-to : goal.float_to_float-to
float_to_float-to c =
    let n = c.room_of-n.result in
    let from = c.args.from.now in
    let more : c.loop-i.i < n = omega (arith, length-take n from) in
    rw (get_or-take n from c.loop-i.i nan more) (held_at from c.requires c.loop-i.i (omega (arith, c.room_of-n.ensures)))

pub loop-i-preserved : goal.loop-i-preserved
loop-i-preserved c =
    let n = c.room_of-n.result in
    let from = c.args.from.now in
    let more : c.loop-i.i < n = omega (arith, length-take n from) in
    turned c.loop-i.invariant nan more (get_or-take n from c.loop-i.i nan more)

pub returns : goal.returns
returns c = ended c.loop-i.invariant (omega (arith, c.room_of-n.ensures, length-take c.room_of-n.result c.args.from.now))
