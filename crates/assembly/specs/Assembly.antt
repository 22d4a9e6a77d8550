-- Assembly of the seven lists. Definitions only.
use Rattle.std.specs.Prelude.{ℕ, ◌+◌, min, true, false, List, map, ◌≡◌, eqb, length, Float}
use Rattle.picks.specs.Pick.{pick}
use Rattle.ieee.specs.Constants.{plus_zero}
use Rattle.ieee.specs.Narrowing.{narrow}
use Rattle.limits.specs.declared.Kind.TheVariants.{Beat, Value}
use Rattle.limits.specs.Numbers.{range_of}
use Rattle.limits.specs.Refusals.{lower, list_number}
use Rattle.order.specs.Entries.{entries, first}
use Rattle.columns.specs.Laying.{given, column_laid}
use Rattle.columns_each.specs.OffGrid.{moved_of, always}
use Rattle.chart.specs.declared.TimingFormat.{TimingFormat}
use Rattle.chart.specs.ChartColumns.{ListColumns, SpeedColumns, ChartColumns, ChartRoom}
use Rattle.tidy_speeds_entries.specs.Speed.{SpeedEntry, speed_entries}
use Rattle.tidy_speeds_entries.specs.LaidSpeeds.{ratio_of, delay_of, unit_of, least_of}
use Rattle.tidy_speeds.specs.SpeedTidying.{speed_list_number}
use Rattle.tidy_warps.specs.Marks.{marks_number}
use Rattle.process.specs.ByFormat.{ThreeLists}
use Rattle.assembly_moved.specs.MovedRaw.{moved_raw}
use Rattle.assembly_rows.specs.AssembledRows.{change_by, assembled_rows}
use Rattle.assembly_marks.specs.LentMarks.{MarkColumns, with_made, MarksWritten}
use Rattle.assembly_scrolls.specs.AssembledScrolls.{assembled_scrolls, scrolls_room_number}
use Rattle.assembly_speeds.specs.AssembledSpeeds.{assembled_speeds, speeds_room_number}
use Rattle.process_raw.specs.LentLists.{ThreeColumns}
use Rattle.assembly_warps.specs.MergedWarps.{three_number, merged_lists}
use Rattle.process_raw.specs.RawLists.{list_room}
use Rattle.assembly_tempos.specs.AssembledTempos.{assembled_tempos, assembled_stops, assembled_warps, made_warps, fit_number, verdict, three_rooms, ListWritten}
use Rattle.assembly.specs.declared.Assembled.{Assembled}
use Rattle.assembly.specs.declared.MovedBeats.{MovedBeats}
use Rattle.assembly_rows.specs.declared.Meaning.TheVariants.{Lengths, Values}

-- ---- the lists

-- delays keep their values; the lengths of fakes are quantised
abbrev pub assembled_delays : List Float → List Float → List (Float × Float)
assembled_delays beats values = assembled_rows (change_by Values) beats values

abbrev pub assembled_fakes : List Float → List Float → List (Float × Float)
assembled_fakes beats lengths = assembled_rows (change_by Lengths) beats lengths

-- the lists that are processed together
abbrev pub processed_together : ChartColumns → ThreeColumns
processed_together lists = record { tempos = lists.tempos; stops = lists.stops; warps = lists.warps }

-- tempos, stops and warps as processing leaves them, the warps that it makes behind the given ones
abbrev pub processed_chart : TimingFormat → ChartColumns → ThreeLists
processed_chart format raw = merged_lists format (processed_together raw)

-- ---- the number

-- the raw tests of a list of beats and values
abbrev pub list_tests : List Float → List Float → ℕ
list_tests beats values = list_number (range_of Beat) (range_of Value) beats values

-- the lowest raw number of delays, speeds, scrolls and fakes
abbrev pub others_number : (delays : ListColumns) (speeds : SpeedColumns) (scrolls fakes : ListColumns) → ℕ
others_number delays speeds scrolls fakes =
    lower
    (lower
    (lower (list_tests delays.beats delays.values) (speed_list_number speeds.beats speeds.ratios speeds.delays speeds.units))
    (list_tests scrolls.beats scrolls.values))
    (list_tests fakes.beats fakes.values)

-- the lowest that they answer where they are taken: 6 for scrolls or speeds, 7 for any that is longer than its room
abbrev pub others_later : (delays : ListColumns) (speeds : SpeedColumns) (scrolls fakes : ListColumns) (delay_room speed_room scroll_room fake_room : ℕ) → ℕ
others_later delays speeds scrolls fakes delay_room speed_room scroll_room fake_room =
    lower
    (lower
    (lower (fit_number (assembled_delays delays.beats delays.values) delay_room) (speeds_room_number speeds speed_room))
    (scrolls_room_number scrolls.beats scrolls.values scroll_room))
    (fit_number (assembled_fakes fakes.beats fakes.values) fake_room)

-- 1 to 4: the lowest raw number of all seven
abbrev pub seven_number : ChartColumns → ℕ
seven_number raw =
    lower (three_number (processed_together raw))
    (others_number raw.delays raw.speeds raw.scrolls raw.fakes)

-- and of the marks of the given warps
abbrev pub seven_with_marks : ChartColumns → (marks : List ℕ) → ℕ
seven_with_marks raw marks = lower (seven_number raw) (marks_number (length raw.warps.beats) marks)

-- 6 or 7: the lowest that any answers as it is written
abbrev pub later_number : TimingFormat → ChartColumns → ChartRoom → ℕ
later_number format raw room =
    lower (others_later raw.delays raw.speeds raw.scrolls raw.fakes room.delays room.speeds room.scrolls room.fakes)
    (three_rooms (processed_chart format raw) room.tempos room.stops room.warps)

-- The call's number: 1 to 4 for the raw lists and the marks; then 1 where the warps given and made are more than asked for, or than a list may have; then 6 or 7;
-- 0 where all are taken.
abbrev pub assembly_number : (most : ℕ) → TimingFormat → ChartColumns → (marks : List ℕ) → ChartRoom → ℕ
assembly_number most format raw marks room = verdict (seven_with_marks raw marks) (length (processed_chart format raw).warps) most (later_number format raw room)

-- a list has room for as many entries as its shortest column, that of the marks among those of the warps
abbrev pub room_of : ChartColumns → (mark_room : ℕ) → ChartRoom
room_of rooms mark_room = record {
  tempos = list_room rooms.tempos;
  stops = list_room rooms.stops;
  delays = list_room rooms.delays;
  warps = min (list_room rooms.warps) mark_room;
  speeds = least_of (length rooms.speeds.beats) (length rooms.speeds.ratios) (length rooms.speeds.delays) (length rooms.speeds.units);
  scrolls = list_room rooms.scrolls;
  fakes = list_room rooms.fakes;
}

-- ---- entries off the grid, by their beats as they were given

-- of a list of which every entry stays
abbrev pub moved_list : ListColumns → ℕ
moved_list list = moved_of always first (entries list.beats list.values)

-- Of tempos and stops what the format keeps counts, of the other lists every entry that is given. So warps that are made do not count, and entries that tidying
-- loses do.
abbrev pub moved_beats : TimingFormat → ChartColumns → MovedBeats
moved_beats format raw = record {
  tempos = moved_raw format raw.tempos.beats raw.tempos.values;
  stops = moved_raw format raw.stops.beats raw.stops.values;
  delays = moved_list raw.delays;
  warps = moved_list raw.warps;
  speeds = moved_of always first (speed_entries raw.speeds.beats raw.speeds.ratios raw.speeds.delays raw.speeds.units);
  scrolls = moved_list raw.scrolls;
  fakes = moved_list raw.fakes;
}

abbrev pub none_moved : MovedBeats
none_moved = record { tempos = 0; stops = 0; delays = 0; warps = 0; speeds = 0; scrolls = 0; fakes = 0 }

-- of all lists together
abbrev pub moved_total : MovedBeats → ℕ
moved_total moved = moved.tempos + moved.stops + moved.delays + moved.warps + moved.speeds + moved.scrolls + moved.fakes

-- ---- the outcome

-- One list of four columns of a call that has several lists, under the call's one number: its count, and the four rooms to their last place.
pub record SpeedsWritten (number : ℕ) (result : List SpeedEntry) (count : ℕ) (old new : SpeedColumns) : Type 0 where
  pub counted : count ≡ length (given number result)
  pub beats_are : new.beats ≡ column_laid first number result old.beats
  pub ratios_are : new.ratios ≡ column_laid ratio_of number result old.ratios
  pub delays_are : new.delays ≡ column_laid delay_of number result old.delays
  pub units_are : new.units ≡ column_laid unit_of number result old.units

-- THE CALL: of a raw chart, the marks of its warps, and the rooms as they were, the one outcome and the rooms as they are left. After a refusal no list has an
-- entry, the offset is 0, and nothing is counted.
pub record Assembles (most : ℕ) (format : TimingFormat) (raw : ChartColumns) (marks : MarkColumns) (outcome : Assembled) (old new : ChartColumns) (marks_left : List ℕ) : Type 0 where
  pub number_is : outcome.number ≡ assembly_number most format raw marks.given (room_of old (length marks.room))
  pub tempos_are : ListWritten outcome.number (assembled_tempos (processed_chart format raw)) outcome.tempos old.tempos new.tempos
  pub stops_are : ListWritten outcome.number (assembled_stops (processed_chart format raw)) outcome.stops old.stops new.stops
  pub delays_are : ListWritten outcome.number (assembled_delays raw.delays.beats raw.delays.values) outcome.delays old.delays new.delays
  pub warps_are : ListWritten outcome.number (assembled_warps (processed_chart format raw)) outcome.warps old.warps new.warps
  pub marks_are : MarksWritten outcome.number (map first (processed_chart format raw).warps) (with_made (made_warps format (processed_together raw)) marks) marks_left
  pub speeds_are : SpeedsWritten outcome.number (assembled_speeds raw.speeds) outcome.speeds old.speeds new.speeds
  pub scrolls_are : ListWritten outcome.number (assembled_scrolls raw.scrolls.beats raw.scrolls.values) outcome.scrolls old.scrolls new.scrolls
  pub fakes_are : ListWritten outcome.number (assembled_fakes raw.fakes.beats raw.fakes.values) outcome.fakes old.fakes new.fakes
  pub offset_is : outcome.offset ≡ pick (eqb outcome.number 0) (narrow (processed_chart format raw).offset) plus_zero
  pub moved_are : outcome.moved ≡ pick (eqb outcome.number 0) (moved_beats format raw) none_moved
