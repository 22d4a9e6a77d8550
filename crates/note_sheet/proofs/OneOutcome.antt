-- What is said of a sheet leaves one outcome: its number, its count, its steps and the three columns. Assumes nothing.
use mathlib.Core.Path.{◌≡◌}
use mathlib.Core.List.{List}
use lib.IntN.{ℤ}
use Rattle.note_sheet.specs.Sheet.{Song, SheetColumns, SheetLaid}
use Rattle.note_sheet.specs.declared.Sheet.{Sheet}

pub one_outcome : {s : Song} {rows : List ℤ} {a b : Sheet} {old new_a new_b : SheetColumns} → SheetLaid s rows a old new_a → SheetLaid s rows b old new_b → (a ≡ b) × (new_a ≡ new_b)
one_outcome {a = a} {b = b} {new_a = new_a} {new_b = new_b} x y =
    let same : ◌≡◌ {A = Sheet} (record { number = a.number; count = a.count; steps = a.steps }) (record { number = b.number; count = b.count; steps = b.steps }) = cc in
    let laid : ◌≡◌ {A = SheetColumns} (record { times = new_a.times; judged = new_a.judged; snaps = new_a.snaps }) (record { times = new_b.times; judged = new_b.judged; snaps = new_b.snaps }) = cc in
    (same, laid)
