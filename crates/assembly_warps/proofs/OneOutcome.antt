-- What is said of processed lists laid over three rooms leaves one outcome: number, counts, offset and the rooms. Assumes nothing.
use Prim.Native.Nat.{ℕ}
use mathlib.Core.Path.{◌≡◌, sym}
use Rattle.columns.proofs.OneOutcome.{one_list}
use Rattle.process_raw.specs.declared.Processed.{Processed}
use Rattle.process.specs.ByFormat.{ThreeLists}
use Rattle.process_raw.specs.LentLists.{ThreeColumns, three_columns}
use Rattle.assembly_warps.specs.MergedWarps.{ListsOver}

-- a record of columns, column by column
abbrev pub each_column : ThreeColumns → ThreeColumns
each_column c = three_columns c.tempos.beats c.tempos.values c.stops.beats c.stops.values c.warps.beats c.warps.values

pub one_outcome : {tests : ℕ} {lists : ThreeLists} {a b : Processed} {old new_a new_b : ThreeColumns}
    → ListsOver tests lists a old new_a → ListsOver tests lists b old new_b → (a ≡ b) × (new_a ≡ new_b)
one_outcome {a = a} {b = b} {new_a = new_a} {new_b = new_b} x y =
    let number : a.number ≡ b.number = cc in
    let tempos = one_list x.tempos_laid (rw (sym number) at y.tempos_laid) in
    let stops = one_list x.stops_laid (rw (sym number) at y.stops_laid) in
    let warps = one_list x.warps_laid (rw (sym number) at y.warps_laid) in
    let same : ◌≡◌ {A = Processed} (record { number = a.number; tempos = a.tempos; stops = a.stops; warps = a.warps; offset = a.offset }) (record { number = b.number; tempos = b.tempos; stops = b.stops; warps = b.warps; offset = b.offset }) = cc in
    let rooms : each_column new_a ≡ each_column new_b = cc in
    (same, rooms)
