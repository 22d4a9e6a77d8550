-- `assembly_tempos::lay_tidied` tidies quantised warps with their marks, and narrows what is left. Assumes nothing.
use mathlib.Core.Path.{◌≡◌, sym, ◌∙◌}
use mathlib.Core.List.{map}
use Rattle.rows.specs.Rows.{quantized}
use Rattle.columns.proofs.LaidEach.{laid-all}
use Rattle.assembly_tempos.proofs.WarpsWithMarks.{even-lengths, tidied-written}
use Rattle.assembly_tempos.proofs.lay_tidied.Goals as goal
use Rattle.assembly_tempos.proofs.lay_tidied.Goals.{After-tidy_warp_segments-tidied, Start}

-- ---- once they are tidied
abbrev start : After-tidy_warp_segments-tidied → Start
start c = (goal.at.After-tidy_warp_segments-tidied c).Start

beats-are : (c : After-tidy_warp_segments-tidied) → c.quantize_column.new.to ≡ map quantized (start c).args.beats.now
beats-are c = let s = start c in c.quantize_column.ensures ∙ laid-all quantized s.args.beats.now s.args.work_beats.now (sym s.requires.off_value.1)

lengths-are : (c : After-tidy_warp_segments-tidied) → c.quantize_column-2.new.to ≡ map quantized (start c).args.lengths.now
lengths-are c =
    let s = start c in
    let given = s.args in
    c.quantize_column-2.ensures
    ∙ laid-all quantized given.lengths.now given.work_lengths.now (sym (even-lengths given.beats.now given.lengths.now given.marks.now given.out_beats.now given.out_lengths.now given.out_marks.now s.requires.warps_fit) ∙ sym s.requires.off_value.2)

pub shape_of-work_beats : goal.shape_of-work_beats
shape_of-work_beats c = c.work_beats-1.given

pub returns : goal.returns
returns c =
    let at = c in
    let s = start (goal.at.returns at).After-tidy_warp_segments-tidied in
    let given = s.args in
    let up = c.with_moved.ensures in
    tidied-written given.beats.now given.lengths.now given.marks.now given.out_beats.now given.out_lengths.now given.out_marks.now s.requires.warps_fit (beats-are (goal.at.returns at).After-tidy_warp_segments-tidied) (lengths-are (goal.at.returns at).After-tidy_warp_segments-tidied) s.requires.tidy_beats_len.0 s.requires.tidy_beats_len.1 at.tidy_warp_segments-tidied.ensures c.lay_narrowed-outcome.ensures up.0 up.1 s.requires.off_value.0
