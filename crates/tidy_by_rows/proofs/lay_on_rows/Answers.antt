-- `tidy_by_rows::lay_on_rows` writes the beat of each row, as far as both columns go. Assumes nothing.
use mathlib.Core.Path.{ap, ◌∙◌}
use Prim.Native.Nat.{◌<◌}
use native.Mathlib.Omega.{arith}
use lib.Ieee.{nan}
use lib.ListN.{length-take}
use lib.Seq.{get_or-take}
use Rattle.rows.specs.Marks.{beat_of_mark}
use Rattle.columns.proofs.LaidEach.{turned, ended}
use Rattle.tidy_by_rows.proofs.lay_on_rows.Goals as goal

pub loop-i-preserved : goal.loop-i-preserved
loop-i-preserved c =
    let inside : c.loop-i.i < c.room_of-n.result = omega (arith, length-take c.room_of-n.result c.args.beats.now) in
    turned c.loop-i.invariant nan inside (c.beat_of_mark.ensures ∙ ap beat_of_mark (rw get_or-take at c.row_mark.ensures))

pub returns : goal.returns
returns c = ended c.loop-i.invariant (omega (arith, length-take c.room_of-n.result c.args.beats.now))
