-- What is said of tempos, stops and warps assembled leaves one outcome: the number, of each list its count and its rooms, the marks, the offset, and the warps off the
-- grid. Assumes nothing.
use Prim.Native.Nat.{ℕ}
use mathlib.Core.Path.{◌≡◌, sym, ◌∙◌}
use mathlib.Core.List.{List}
use Rattle.columns.proofs.OneOutcome.{one_list}
use Rattle.process.specs.ByFormat.{ThreeLists}
use Rattle.process_raw.specs.LentLists.{ThreeColumns}
use Rattle.assembly_warps.proofs.OneOutcome.{each_column}
use Rattle.assembly_marks.specs.LentMarks.{MarkColumns}
use Rattle.assembly_tempos.specs.declared.AssembledTempos.{AssembledTempos}
use Rattle.assembly_tempos.specs.AssembledTempos.{ThreeLaid}

pub one_outcome : {raw later most : ℕ} {lists : ThreeLists} {a b : AssembledTempos} {old new_a new_b : ThreeColumns} {marks : MarkColumns} {left_a left_b : List ℕ}
    → ThreeLaid raw later most lists marks a old new_a left_a → ThreeLaid raw later most lists marks b old new_b left_b
    → (a ≡ b) × (new_a ≡ new_b) × (left_a ≡ left_b)
one_outcome {a = a} {b = b} {new_a = new_a} {new_b = new_b} x y =
    let number : a.number ≡ b.number = cc in
    let tempos = one_list x.tempos_laid (rw (sym number) at y.tempos_laid) in
    let stops = one_list x.stops_laid (rw (sym number) at y.stops_laid) in
    let warps = one_list x.warps_laid (rw (sym number) at y.warps_laid) in
    let same : ◌≡◌ {A = AssembledTempos} (record { number = a.number; tempos = a.tempos; stops = a.stops; warps = a.warps; offset = a.offset; moved = a.moved }) (record { number = b.number; tempos = b.tempos; stops = b.stops; warps = b.warps; offset = b.offset; moved = b.moved }) = cc in
    let rooms : each_column new_a ≡ each_column new_b = cc in
    let marks = x.marks_laid ∙ sym (rw (sym number) at y.marks_laid) in
    (same, rooms, marks)
