-- Assembly of scrolls. Definitions only.
use Rattle.std.specs.Prelude.{ℕ, Bool, false, List, map, leb, eqb, length, Float}
use Rattle.std.specs.Float.Ieee.{lt}
use Rattle.limits.specs.Table.{most_entries}
use Rattle.picks.specs.Pick.{pick}
use Rattle.rows.specs.Rows.{quantized}
use Rattle.limits.specs.Neighbours.{every_two, not_falling}
use Rattle.tidy_kept.specs.Near.{far_from}
use Rattle.columns.specs.declared.Outcome.{Outcome}
use Rattle.columns.specs.Laying.{room_number, LaidPair}
use Rattle.tidy_scrolls.specs.ScrollTidying.{tidy_scrolls, scrolls_number}
use Rattle.assembly_rows.specs.AssembledRows.{narrowed_entry, each_by_itself}
use Rattle.assembly_rows.specs.declared.Meaning.TheVariants.{Values}

-- beats quantised, tidied, and all of it as f32
unfoldable pub assembled_scrolls : List Float → List Float → List (Float × Float)
assembled_scrolls beats values = map narrowed_entry (tidy_scrolls (map quantized beats) values)

-- the tests of what tidying is given
abbrev pub assembled_scrolls_number : List Float → List Float → ℕ
assembled_scrolls_number beats values = scrolls_number (map quantized beats) values

-- the one outcome of the call, with the rooms of beats and of values before and after
abbrev pub ScrollsAssembled : List Float → List Float → Outcome → List Float → List Float → List Float → List Float → Type 0
ScrollsAssembled beats values outcome beats_old beats_new values_old values_new =
    LaidPair (assembled_scrolls_number beats values) (assembled_scrolls beats values) outcome beats_old beats_new values_old values_new

-- what the call answers where the shorter room has a length
abbrev pub scrolls_room_number : List Float → List Float → ℕ → ℕ
scrolls_room_number beats values room = room_number (assembled_scrolls_number beats values) (length (assembled_scrolls beats values)) room

-- the same of a list that is known to be taken: 0 at once where the room holds all that is given and no beat is above the next
unfoldable pub scrolls_later : List Float → List Float → ℕ → ℕ
scrolls_later beats values room =
    pick (leb (length beats) room) (pick (every_two not_falling beats) 0 (scrolls_room_number beats values room)) (scrolls_room_number beats values room)

-- ---- a list that is not tested first

-- beats that rise, and no value near the one before it
unfoldable pub rise_apart : List Float → List Float → Bool
rise_apart beats values = pick (every_two lt beats) (every_two far_from values) false

-- whether each is laid by itself: columns of one length, that of a list, and quantised beats with their values as that says
unfoldable pub scrolls_by_themselves : List Float → List Float → Bool
scrolls_by_themselves beats values =
    pick (eqb (length beats) (length values)) (pick (leb (length beats) most_entries) (rise_apart (map quantized beats) values) false) false

-- the one outcome of the call that tests no number: any other list is assembled. Of a list that is taken both are the same
abbrev pub ScrollsUntested : List Float → List Float → Outcome → List Float → List Float → List Float → List Float → Type 0
ScrollsUntested beats values =
    LaidPair (pick (scrolls_by_themselves beats values) 0 (assembled_scrolls_number beats values))
    (pick (scrolls_by_themselves beats values) (each_by_itself Values (map quantized beats) values) (assembled_scrolls beats values))
