-- Assembly of a list whose entries are a beat and a value: stops, delays, warps and fakes. Definitions only.
use Rattle.std.specs.Prelude.{ℕ, Bool, true, false, List, map, leb, eqb, length, take, Float}
use Rattle.std.specs.Float.Ieee.{lt}
use Rattle.limits.specs.Table.{uneven, most_entries}
use Rattle.picks.specs.Pick.{pick}
use Rattle.ieee.specs.Narrowing.{narrow}
use Rattle.rows.specs.Rows.{quantized}
use Rattle.limits.specs.Neighbours.{every_two}
use Rattle.order.specs.Entries.{entries}
use Rattle.columns.specs.declared.Outcome.{Outcome}
use Rattle.columns.specs.Laying.{room_number, LaidPair}
use Rattle.assembly_rows.specs.declared.Meaning.{Meaning}
use Rattle.assembly_rows.specs.declared.Meaning.TheVariants.{Lengths, Values}
use Rattle.tidy_rows.specs.RowTidying.{tidy_rows, rows_number}

-- the f32 of a beat and of its value
abbrev pub narrowed_entry : Float × Float → Float × Float
narrowed_entry e = (narrow e.0, narrow e.1)

-- what becomes of a value first: a length is moved to whole rows as a beat is, any other value stays
abbrev pub change_by : Meaning → Float → Float
change_by Lengths value = quantized value
change_by Values value = value

-- beats quantised, values changed, tidied by row, and all of it as f32
unfoldable pub assembled_rows : (Float → Float) → List Float → List Float → List (Float × Float)
assembled_rows change beats values = map narrowed_entry (tidy_rows (map quantized beats) (map change values))

-- the tests of what tidying is given
abbrev pub assembled_number : (Float → Float) → List Float → List Float → ℕ
assembled_number change beats values = rows_number (map quantized beats) (map change values)

-- the one outcome of the call, with the rooms of beats and of values before and after
abbrev pub RowsAssembled : Meaning → List Float → List Float → Outcome → List Float → List Float → List Float → List Float → Type 0
RowsAssembled meaning beats values outcome beats_old beats_new values_old values_new =
    LaidPair (assembled_number (change_by meaning) beats values) (assembled_rows (change_by meaning) beats values) outcome beats_old beats_new values_old values_new

-- whether a list needs no more than a room: at once where the room holds all that is given, and otherwise where the call would take it
unfoldable pub rows_fit_in : Meaning → List Float → List Float → ℕ → Bool
rows_fit_in meaning beats values room =
    pick (leb (length beats) room) true
    (eqb (room_number (assembled_number (change_by meaning) beats values) (length (assembled_rows (change_by meaning) beats values)) room) 0)

-- ---- a list that is not tested first

-- beats that are quantised as they are, and each value by itself, as f32
abbrev pub each_by_itself : Meaning → List Float → List Float → List (Float × Float)
each_by_itself meaning quantised values = entries quantised (map (λ (value : Float). narrow (change_by meaning value)) values)

-- the one outcome of laying them, 2 where they are not as many
abbrev pub EachLaid : Meaning → List Float → List Float → Outcome → List Float → List Float → List Float → List Float → Type 0
EachLaid meaning quantised values = LaidPair (pick (eqb (length quantised) (length values)) 0 uneven) (each_by_itself meaning quantised values)

-- whether each is laid by itself: columns of one length, that of a list, and quantised beats that rise
unfoldable pub by_itself_at : List Float → List Float → Bool
by_itself_at beats values = pick (eqb (length beats) (length values)) (pick (leb (length beats) most_entries) (every_two lt (map quantized beats)) false) false

-- the one outcome of the call that tests no number: any other list is assembled. Of a list that is taken both are the same
abbrev pub RowsUntested : Meaning → List Float → List Float → Outcome → List Float → List Float → List Float → List Float → Type 0
RowsUntested meaning beats values =
    LaidPair (pick (by_itself_at beats values) 0 (assembled_number (change_by meaning) beats values))
    (pick (by_itself_at beats values) (each_by_itself meaning (map quantized beats) values) (assembled_rows (change_by meaning) beats values))

-- ---- the steps that other lists share

-- the first n entries of two columns, as f32
abbrev pub narrowed_front : ℕ → List Float → List Float → List (Float × Float)
narrowed_front n firsts seconds = map narrowed_entry (entries (take n firsts) (take n seconds))
