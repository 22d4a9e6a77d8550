-- `assembly_tempos::lay_warps` lends a part of an array that is as long as the list, where a warp was made. Assumes nothing.
use Prim.Native.Nat.{◌≤◌}
use mathlib.Core.Path.{sym}
use lib.ListN.{length}
use lib.Seq.{length-take-le}
use Rattle.assembly_marks.specs.AssembledMarks.{merged_marks}
use Rattle.assembly_tempos.proofs.WarpsWithMarks.{none_made, few-beats}
use Rattle.assembly_tempos.proofs.lay_warps.Goals as goal
use Rattle.assembly_tempos.proofs.lay_warps.Goals.{Else-made-eq0}

short : (c : Else-made-eq0) → length c.args.beats.now ≤ 1024
short c = let given = c.args in few-beats given.beats.now given.lengths.now (merged_marks given.marks.now given.made) given.out_beats.now given.out_lengths.now given.out_marks.now c.requires

pub lay_merged-requires : goal.lay_merged-requires
lay_merged-requires c = let given = c.args in rw (none_made given.marks.now given.made c.if-made-eq0.true) at c.requires

pub returns-then-made-eq0 : goal.returns-then-made-eq0
returns-then-made-eq0 c = let given = c.args in rw (none_made given.marks.now given.made c.if-made-eq0.true) c.lay_merged.ensures

pub slice_bounds-lay_warps_in-end : goal.slice_bounds-lay_warps_in-end
slice_bounds-lay_warps_in-end c = sym (length-take-le _ _ c.if-n-le-FEW.true)

pub lay_warps_in-requires : goal.lay_warps_in-requires
lay_warps_in-requires c =
    record {
      fact = c.requires;
      merged_len = length-take-le _ _ c.if-n-le-FEW.true;
    }

pub slice_bounds-merged-end-2 : goal.slice_bounds-merged-end-2
slice_bounds-merged-end-2 c = short (goal.at.slice_bounds-merged-end-2 c).Else-made-eq0

pub slice_bounds-lay_warps_in-end-2 : goal.slice_bounds-lay_warps_in-end-2
slice_bounds-lay_warps_in-end-2 c = sym (length-take-le _ _ (short (goal.at.slice_bounds-lay_warps_in-end-2 c).Else-made-eq0))

pub lay_warps_in-requires-2 : goal.lay_warps_in-requires-2
lay_warps_in-requires-2 c =
    record {
      fact = c.requires;
      merged_len = length-take-le _ _ (short (goal.at.lay_warps_in-requires-2 c).Else-made-eq0);
    }
