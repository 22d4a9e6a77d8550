-- Of a list that is taken, the number for want of room. Assumes nothing.
use Prim.Native.Nat.{ℕ}
use mathlib.Core.Path.{◌≡◌}
use mathlib.Core.List.{List}
use lib.ListN.{length}
use lib.Ieee.{Float}
use Rattle.picks.specs.Pick.{pick}
use Rattle.columns.specs.Laying.{room_number}
use Rattle.tidy_rows.specs.RowTidying.{rows_number}
use Rattle.assembly_rows.specs.AssembledRows.{change_by, assembled_rows, rows_fit_in}
use Rattle.assembly_rows.proofs.FitsWhenTaken.{fits_when_taken}
use Rattle.assembly_rows.proofs.QuantizedTaken.{quantized-taken}
use Rattle.assembly_rows.specs.declared.Meaning.{Meaning}

pub fit-number : (meaning : Meaning) (beats values : List Float) (room : ℕ) → rows_number beats values ≡ 0
    → pick (rows_fit_in meaning beats values room) 0 7 ≡ room_number 0 (length (assembled_rows (change_by meaning) beats values)) room
unfolding room_number
fit-number meaning beats values room taken = rw (fits_when_taken meaning beats values room (quantized-taken beats values meaning taken))
