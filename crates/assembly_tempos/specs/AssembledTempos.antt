-- Assembly of tempos, stops and warps, which are processed first, under the one number of all seven lists. Definitions only.
use Rattle.std.specs.Prelude.{ℕ, min, true, List, map, ◌≡◌, leb, eqb, length, Float}
use Rattle.limits.specs.Table.{too_long_number, most_entries}
use Rattle.ieee.specs.Constants.{plus_zero}
use Rattle.picks.specs.Pick.{pick}
use Rattle.ieee.specs.Narrowing.{narrow}
use Rattle.limits.specs.Refusals.{lower}
use Rattle.order.specs.Entries.{first, second}
use Rattle.columns.specs.Laying.{room_number, LaidList}
use Rattle.columns_each.specs.OffGrid.{moved_in, moved_under}
use Rattle.tidy_rows.specs.RowTidying.{tidy_rows}
use Rattle.tidy_warps.specs.Marks.{marks_number}
use Rattle.chart.specs.declared.TimingFormat.{TimingFormat}
use Rattle.chart.specs.ChartColumns.{ListColumns}
use Rattle.process_raw.specs.RawLists.{list_room}
use Rattle.process.specs.ByFormat.{ThreeLists, processed_lists}
use Rattle.assembly_rows.specs.AssembledRows.{narrowed_entry, change_by, assembled_rows}
use Rattle.assembly_marks.specs.LentMarks.{MarkColumns, MarksWritten}
use Rattle.process_raw.specs.LentLists.{ThreeColumns}
use Rattle.assembly_warps.specs.MergedWarps.{three_number}
use Rattle.assembly_tempos.specs.declared.AssembledTempos.{AssembledTempos}
use Rattle.assembly_rows.specs.declared.Meaning.TheVariants.{Lengths}

-- ---- the lists, of what processing leaves

-- tempos are tidied already
abbrev pub assembled_tempos : ThreeLists → List (Float × Float)
assembled_tempos lists = map narrowed_entry lists.tempos

-- beats of stops are on rows already
abbrev pub assembled_stops : ThreeLists → List (Float × Float)
assembled_stops lists = map narrowed_entry (tidy_rows (map first lists.stops) (map second lists.stops))

-- warps, given and made, as any list of lengths
abbrev pub assembled_warps : ThreeLists → List (Float × Float)
assembled_warps lists = assembled_rows (change_by Lengths) (map first lists.warps) (map second lists.warps)

-- how many warps processing makes behind the given ones
abbrev pub made_warps : TimingFormat → (raw : ThreeColumns) → ℕ
made_warps format raw = length (processed_lists format raw.tempos.beats raw.tempos.values raw.stops.beats raw.stops.values).warps

-- ---- the number

-- the lowest raw number of the three lists, of the others, which is given, and of the marks of the given warps
abbrev pub raw_with : (other : ℕ) (raw : ThreeColumns) (marks : List ℕ) → ℕ
raw_with other raw marks = lower (lower (three_number raw) other) (marks_number (length raw.warps.beats) marks)

-- 7 where a result is longer than its room
abbrev pub fit_number : List (Float × Float) → ℕ → ℕ
fit_number result room = room_number 0 (length result) room

-- The call's number: the lowest of the raw lists; then 1 where merged warps are more than asked for, or than a list may have; then what comes later.
unfoldable pub verdict : (raw warps most later : ℕ) → ℕ
verdict raw warps most later = pick (eqb raw 0) (pick (leb warps (min most most_entries)) later too_long_number) raw

-- what comes later of the three lists
abbrev pub three_rooms : ThreeLists → (tempo_room stop_room warp_room : ℕ) → ℕ
three_rooms lists tempo_room stop_room warp_room =
    lower (lower (fit_number (assembled_tempos lists) tempo_room) (fit_number (assembled_stops lists) stop_room)) (fit_number (assembled_warps lists) warp_room)

-- warps have room for as many as the shortest of their three columns
abbrev pub rooms_number : ThreeLists → (rooms : ThreeColumns) (mark_room : ℕ) → ℕ
rooms_number lists rooms mark_room = three_rooms lists (list_room rooms.tempos) (list_room rooms.stops) (min (list_room rooms.warps) mark_room)

-- ---- the one outcome

-- A list written over the front of its room where the number is 0; after a refusal nothing is.
abbrev pub ListWritten : (number : ℕ) (result : List (Float × Float)) (count : ℕ) (old new : ListColumns) → Type 0
ListWritten number result count old new = LaidList number result count old.beats new.beats old.values new.values

-- The number of all lists, of which `raw` and `later` are known; under it the three lists, the marks of the warps, the offset, which is 0 after a refusal, and how
-- many warps were off the grid, which none is then.
pub record ThreeLaid (raw later most : ℕ) (lists : ThreeLists) (marks : MarkColumns) (outcome : AssembledTempos) (old new : ThreeColumns) (marks_left : List ℕ) : Type 0 where
  pub number : outcome.number ≡ verdict raw (length lists.warps) most (lower later (rooms_number lists old (length marks.room)))
  pub tempos_laid : ListWritten outcome.number (assembled_tempos lists) outcome.tempos old.tempos new.tempos
  pub stops_laid : ListWritten outcome.number (assembled_stops lists) outcome.stops old.stops new.stops
  pub warps_laid : ListWritten outcome.number (assembled_warps lists) outcome.warps old.warps new.warps
  pub marks_laid : MarksWritten outcome.number (map first lists.warps) marks marks_left
  pub offset_is : outcome.offset ≡ pick (eqb outcome.number 0) (narrow lists.offset) plus_zero
  pub warps_moved : outcome.moved ≡ moved_under outcome.number (moved_in (map first lists.warps))
