-- `assembly_tempos::lay_merged` copies a front of marks that are all the same, and lends a part of an array where they differ. Assumes nothing.
use Prim.Native.Nat.{◌≤◌}
use mathlib.Core.Path.{sym, ◌∙◌}
use lib.ListN.{length}
use lib.Seq.{length-take-le}
use Rattle.assembly_tempos.proofs.WarpsWithMarks.{few-beats, marks-inside, front-written}
use Rattle.assembly_tempos.proofs.lay_merged.Goals as goal
use Rattle.assembly_tempos.proofs.lay_merged.Goals.{Else-all_the_same}

short : (c : Else-all_the_same) → length c.args.beats.now ≤ 1024
short c = let given = c.args in few-beats given.beats.now given.lengths.now given.marks.now given.out_beats.now given.out_lengths.now given.out_marks.now c.requires

pub slice_bounds-copy-end : goal.slice_bounds-copy-end
slice_bounds-copy-end c =
    let warps = c.assemble_untested-warps in
    let given = c.args in
    sym (length-take-le _ _ (marks-inside given.beats.now given.lengths.now given.marks.now given.out_beats.now given.out_lengths.now given.out_marks.now c.requires warps.result warps.ensures.rows_untested))

pub returns-then-all_the_same : goal.returns-then-all_the_same
returns-then-all_the_same c =
    let warps = c.assemble_untested-warps in
    let given = c.args in
    front-written given.beats.now given.lengths.now given.marks.now given.out_beats.now given.out_lengths.now given.out_marks.now c.requires warps.result warps.ensures.rows_untested warps.ensures.moved_value (sym c.all_the_same.ensures ∙ c.if-all_the_same.true) c.copy.ensures

pub slice_bounds-lay_differing-end : goal.slice_bounds-lay_differing-end
slice_bounds-lay_differing-end c = sym (length-take-le _ _ c.if-n-le-FEW.true)

pub lay_differing-requires : goal.lay_differing-requires
lay_differing-requires c =
    record {
      warps_fit = c.requires;
      quantised_len = length-take-le _ _ c.if-n-le-FEW.true;
    }

pub slice_bounds-quantised-end-2 : goal.slice_bounds-quantised-end-2
slice_bounds-quantised-end-2 c = short (goal.at.slice_bounds-quantised-end-2 c).Else-all_the_same

pub slice_bounds-lay_differing-end-2 : goal.slice_bounds-lay_differing-end-2
slice_bounds-lay_differing-end-2 c = sym (length-take-le _ _ (short (goal.at.slice_bounds-lay_differing-end-2 c).Else-all_the_same))

pub lay_differing-requires-2 : goal.lay_differing-requires-2
lay_differing-requires-2 c =
    record {
      warps_fit = c.requires;
      quantised_len = length-take-le _ _ (short (goal.at.lay_differing-requires-2 c).Else-all_the_same);
    }
