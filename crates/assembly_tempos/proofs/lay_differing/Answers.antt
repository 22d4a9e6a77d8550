-- `assembly_tempos::lay_differing` looks whether quantised beats rise, and lends parts of four arrays where they do not. Assumes nothing.
use Prim.Native.Nat.{◌≤◌}
use mathlib.Core.Path.{◌≡◌, sym, ◌∙◌}
use mathlib.Core.List.{map}
use lib.ListN.{length}
use lib.Seq.{length-take-le}
use Rattle.rows.specs.Rows.{quantized}
use Rattle.columns.proofs.LaidEach.{laid-all}
use Rattle.columns_each.specs.OffGrid.{moved_in}
use Rattle.columns_each.proofs.OffGridCounts.{whole-counted}
use Rattle.assembly_tempos.proofs.WarpsWithMarks.{few-beats, rising-written}
use Rattle.assembly_tempos.proofs.lay_differing.Goals as goal
use Rattle.assembly_tempos.proofs.lay_differing.Goals.{After-quantize_beats-off, Start}

-- ---- once the beats are quantised
abbrev start : After-quantize_beats-off → Start
start c = (goal.at.After-quantize_beats-off c).Start

short : (c : After-quantize_beats-off) → length (start c).args.beats.now ≤ 1024
short c = let given = (start c).args in few-beats given.beats.now given.lengths.now given.marks.now given.out_beats.now given.out_lengths.now given.out_marks.now (start c).requires.warps_fit

beats-are : (c : After-quantize_beats-off) → c.quantize_beats-off.new.to ≡ map quantized (start c).args.beats.now
beats-are c = let s = start c in c.quantize_beats-off.ensures.to_after ∙ laid-all quantized s.args.beats.now s.args.quantised.now (sym s.requires.quantised_len)

counted : (c : After-quantize_beats-off) → c.quantize_beats-off.result ≡ moved_in (start c).args.beats.now
counted c = let s = start c in c.quantize_beats-off.ensures.value ∙ whole-counted s.args.beats.now s.args.quantised.now s.requires.quantised_len (short c)

pub returns-then-rise : goal.returns-then-rise
returns-then-rise c =
    let at = c in
    let given = (start (goal.at.returns-then-rise at).After-quantize_beats-off).args in
    let up = c.with_moved.ensures in
    rising-written given.beats.now given.lengths.now given.marks.now given.out_beats.now given.out_lengths.now given.out_marks.now (start (goal.at.returns-then-rise at).After-quantize_beats-off).requires.warps_fit (beats-are (goal.at.returns-then-rise at).After-quantize_beats-off) (sym c.rise.ensures ∙ c.if-rise.true) c.lay_each-outcome.ensures c.copy.ensures up.0 up.1 (counted (goal.at.returns-then-rise at).After-quantize_beats-off)

pub slice_bounds-lay_tidied-end : goal.slice_bounds-lay_tidied-end
slice_bounds-lay_tidied-end c = sym (length-take-le _ _ c.if-n-le-FEW.true)

pub slice_bounds-lay_tidied-end-then-n-le-FEW : goal.slice_bounds-lay_tidied-end-then-n-le-FEW
slice_bounds-lay_tidied-end-then-n-le-FEW c = sym (length-take-le _ _ c.if-n-le-FEW.true)

pub slice_bounds-lay_tidied-end-then-n-le-FEW-2 : goal.slice_bounds-lay_tidied-end-then-n-le-FEW-2
slice_bounds-lay_tidied-end-then-n-le-FEW-2 c = sym (length-take-le _ _ c.if-n-le-FEW.true)

pub slice_bounds-lay_tidied-end-then-n-le-FEW-3 : goal.slice_bounds-lay_tidied-end-then-n-le-FEW-3
slice_bounds-lay_tidied-end-then-n-le-FEW-3 c = sym (length-take-le _ _ c.if-n-le-FEW.true)

pub lay_tidied-requires : goal.lay_tidied-requires
lay_tidied-requires c =
    let h = c.if-n-le-FEW.true in
    record {
      warps_fit = c.requires.warps_fit;
      off_value = (counted (goal.at.lay_tidied-requires c).After-quantize_beats-off, length-take-le _ _ h, length-take-le _ _ h);
      tidy_beats_len = (length-take-le _ _ h, length-take-le _ _ h);
    }

pub slice_bounds-work_beats-end-2 : goal.slice_bounds-work_beats-end-2
slice_bounds-work_beats-end-2 c = short (goal.at.slice_bounds-work_beats-end-2 c).After-quantize_beats-off

pub slice_bounds-lay_tidied-end-2 : goal.slice_bounds-lay_tidied-end-2
slice_bounds-lay_tidied-end-2 c = sym (length-take-le _ _ (short (goal.at.slice_bounds-lay_tidied-end-2 c).After-quantize_beats-off))

pub slice_bounds-work_lengths-end-2 : goal.slice_bounds-work_lengths-end-2
slice_bounds-work_lengths-end-2 c = short (goal.at.slice_bounds-work_lengths-end-2 c).After-quantize_beats-off

pub slice_bounds-lay_tidied-end-3 : goal.slice_bounds-lay_tidied-end-3
slice_bounds-lay_tidied-end-3 c = sym (length-take-le _ _ (short (goal.at.slice_bounds-lay_tidied-end-3 c).After-quantize_beats-off))

pub slice_bounds-tidy_beats-end-2 : goal.slice_bounds-tidy_beats-end-2
slice_bounds-tidy_beats-end-2 c = short (goal.at.slice_bounds-tidy_beats-end-2 c).After-quantize_beats-off

pub slice_bounds-lay_tidied-end-4 : goal.slice_bounds-lay_tidied-end-4
slice_bounds-lay_tidied-end-4 c = sym (length-take-le _ _ (short (goal.at.slice_bounds-lay_tidied-end-4 c).After-quantize_beats-off))

pub slice_bounds-tidy_lengths-end-2 : goal.slice_bounds-tidy_lengths-end-2
slice_bounds-tidy_lengths-end-2 c = short (goal.at.slice_bounds-tidy_lengths-end-2 c).After-quantize_beats-off

pub slice_bounds-lay_tidied-end-5 : goal.slice_bounds-lay_tidied-end-5
slice_bounds-lay_tidied-end-5 c = sym (length-take-le _ _ (short (goal.at.slice_bounds-lay_tidied-end-5 c).After-quantize_beats-off))

pub lay_tidied-requires-2 : goal.lay_tidied-requires-2
lay_tidied-requires-2 c =
    let h = short (goal.at.lay_tidied-requires-2 c).After-quantize_beats-off in
    record {
      warps_fit = c.requires.warps_fit;
      off_value = (counted (goal.at.lay_tidied-requires-2 c).After-quantize_beats-off, length-take-le _ _ h, length-take-le _ _ h);
      tidy_beats_len = (length-take-le _ _ h, length-take-le _ _ h);
    }
