-- `assembly::compute_timing_segments` asks every list for its number before it writes any, and hands up what each has counted. Assumes nothing.
use Prim.Native.Nat.{ℕ}
use mathlib.Core.Path.{◌≡◌, ◌∙◌}
use mathlib.Core.List.{map}
use lib.ListN.{length}
use Rattle.limits.proofs.NoRefusal.{lower-none}
use Rattle.order.specs.Entries.{first}
use Rattle.columns_each.specs.OffGrid.{moved_in}
use Rattle.columns.proofs.Rooms.{list-refused, list_of_pair}
use Rattle.process_raw.specs.RawLists.{room_for}
use Rattle.tidy_warps.specs.Marks.{marks_number}
use Rattle.tidy_speeds_entries.specs.LaidSpeeds.{least_of}
use Rattle.process_raw.specs.LentLists.{ThreeColumns, three_columns}
use Rattle.assembly_warps.specs.MergedWarps.{three_number, merged_lists}
use Rattle.assembly.specs.Assembly.{others_number, others_later, seven_number}
use Rattle.assembly.proofs.Ends.{speeds-refused, speeds-laid, others-taken, same-rooms, others-fit, rows-number, rows-laid, as_asked, taken-part, all-passed, assembles}
use Rattle.assembly_speeds.proofs.Untested.{untested_taken as speeds-untested}
use Rattle.assembly_scrolls.proofs.Untested.{untested_taken as scrolls-untested}
use Rattle.assembly.proofs.CountsHandedUp.{under-taken, all_handed_up, refused-up}
use Rattle.chart.specs.ChartColumns.{ListColumns, SpeedColumns, ChartColumns, list_columns, speed_columns}
use borrow.Author.Rules.{rules}
use Rattle.assembly_rows.specs.declared.Meaning.TheVariants.{Lengths, Values}
use Rattle.assembly.proofs.compute_timing_segments.Goals as goal
use Rattle.assembly.proofs.compute_timing_segments.Goals.{After-others_later-later, Start}

-- ---- what is given
abbrev processed : Start → ThreeColumns
processed s = three_columns s.args.tempo_beats.now s.args.tempo_values.now s.args.stop_beats.now s.args.stop_values.now s.args.warp_beats.now s.args.warp_lengths.now

abbrev delay : Start → ListColumns
delay s = list_columns s.args.delay_beats.now s.args.delay_values.now

abbrev speed : Start → SpeedColumns
speed s = speed_columns s.args.speed_beats.now s.args.speed_ratios.now s.args.speed_delays.now s.args.speed_units.now

abbrev scroll : Start → ListColumns
scroll s = list_columns s.args.scroll_beats.now s.args.scroll_values.now

abbrev fake : Start → ListColumns
fake s = list_columns s.args.fake_beats.now s.args.fake_lengths.now

abbrev chart : Start → ChartColumns
chart s = record {
  tempos = (processed s).tempos;
  stops = (processed s).stops;
  delays = delay s;
  warps = (processed s).warps;
  speeds = speed s;
  scrolls = scroll s;
  fakes = fake s;
}

abbrev others : Start → ℕ
others s = others_number (delay s) (speed s) (scroll s) (fake s)

abbrev marked : Start → ℕ
marked s = marks_number (length s.args.warp_beats.now) s.args.warp_marks.now

-- ---- the rooms of the other lists
abbrev delay_room : Start → ℕ
delay_room s = room_for s.args.out_delay_beats.now s.args.out_delay_values.now

abbrev speed_room : Start → ℕ
speed_room s = least_of (length s.args.out_speed_beats.now) (length s.args.out_speed_ratios.now) (length s.args.out_speed_delays.now) (length s.args.out_speed_units.now)

abbrev scroll_room : Start → ℕ
scroll_room s = room_for s.args.out_scroll_beats.now s.args.out_scroll_values.now

abbrev fake_room : Start → ℕ
fake_room s = room_for s.args.out_fake_beats.now s.args.out_fake_lengths.now

abbrev later : Start → ℕ
later s = others_later (delay s) (speed s) (scroll s) (fake s) (delay_room s) (speed_room s) (scroll_room s) (fake_room s)

-- what they answer, once they are asked
abbrev start : After-others_later-later → Start
start c = (goal.at.After-others_later-later c).Start

asked-later : (c : After-others_later-later) → others (start c) ≡ 0 → c.others_later-later.result ≡ later (start c)
asked-later c zero =
    c.others_later-later.ensures zero
    ∙ same-rooms (delay (start c)) (speed (start c)) (scroll (start c)) (fake (start c)) c.room_of.ensures c.least_of.ensures c.room_of-2.ensures c.room_of-3.ensures

pub shape_of-out_tempo_beats-then-processed-ne-TAKEN : goal.shape_of-out_tempo_beats-then-processed-ne-TAKEN
shape_of-out_tempo_beats-then-processed-ne-TAKEN c = c.out_tempo_beats-1.given

pub shape_of-out_tempo_values-then-processed-ne-TAKEN : goal.shape_of-out_tempo_values-then-processed-ne-TAKEN
shape_of-out_tempo_values-then-processed-ne-TAKEN c = c.out_tempo_values-1.given

pub shape_of-out_stop_beats-then-processed-ne-TAKEN : goal.shape_of-out_stop_beats-then-processed-ne-TAKEN
shape_of-out_stop_beats-then-processed-ne-TAKEN c = c.out_stop_beats-1.given

pub shape_of-out_stop_values-then-processed-ne-TAKEN : goal.shape_of-out_stop_values-then-processed-ne-TAKEN
shape_of-out_stop_values-then-processed-ne-TAKEN c = c.out_stop_values-1.given

pub shape_of-out_warp_beats-then-processed-ne-TAKEN : goal.shape_of-out_warp_beats-then-processed-ne-TAKEN
shape_of-out_warp_beats-then-processed-ne-TAKEN c = c.out_warp_beats-1.given

pub shape_of-out_warp_lengths-then-processed-ne-TAKEN : goal.shape_of-out_warp_lengths-then-processed-ne-TAKEN
shape_of-out_warp_lengths-then-processed-ne-TAKEN c = c.out_warp_lengths-1.given

pub shape_of-out_warp_marks-then-processed-ne-TAKEN : goal.shape_of-out_warp_marks-then-processed-ne-TAKEN
shape_of-out_warp_marks-then-processed-ne-TAKEN c = c.out_warp_marks-1.given

pub returns-then-processed-ne-TAKEN : goal.returns-then-processed-ne-TAKEN
returns-then-processed-ne-TAKEN c =
    let at = c in
    let s = start (goal.at.returns-then-processed-ne-TAKEN at).After-others_later-later in
    let some = c.if-processed-ne-TAKEN.true in
    let all = as_asked (three_number (processed s)) (others s) (marked s) (later s) c.others_number-other.ensures (asked-later (goal.at.returns-then-processed-ne-TAKEN at).After-others_later-later) c.assemble_tempos-processed.ensures in
    assembles all (list-refused some) (speeds-refused some) (list-refused some) (list-refused some) (refused-up s.args.format (chart s) (moved_in (map first (merged_lists s.args.format (processed s)).warps)) some all.warps_moved)

pub shape_of-out_tempo_beats : goal.shape_of-out_tempo_beats
shape_of-out_tempo_beats c = c.out_tempo_beats-1.given

pub shape_of-out_tempo_values : goal.shape_of-out_tempo_values
shape_of-out_tempo_values c = c.out_tempo_values-1.given

pub shape_of-out_stop_beats : goal.shape_of-out_stop_beats
shape_of-out_stop_beats c = c.out_stop_beats-1.given

pub shape_of-out_stop_values : goal.shape_of-out_stop_values
shape_of-out_stop_values c = c.out_stop_values-1.given

pub shape_of-out_delay_beats : goal.shape_of-out_delay_beats
shape_of-out_delay_beats c = c.out_delay_beats-1.given

pub shape_of-out_delay_values : goal.shape_of-out_delay_values
shape_of-out_delay_values c = c.out_delay_values-1.given

pub shape_of-out_warp_beats : goal.shape_of-out_warp_beats
shape_of-out_warp_beats c = c.out_warp_beats-1.given

pub shape_of-out_warp_lengths : goal.shape_of-out_warp_lengths
shape_of-out_warp_lengths c = c.out_warp_lengths-1.given

pub shape_of-out_warp_marks : goal.shape_of-out_warp_marks
shape_of-out_warp_marks c = c.out_warp_marks-1.given

pub shape_of-out_speed_beats : goal.shape_of-out_speed_beats
shape_of-out_speed_beats c = c.out_speed_beats-1.given

pub shape_of-out_speed_ratios : goal.shape_of-out_speed_ratios
shape_of-out_speed_ratios c = c.out_speed_ratios-1.given

pub shape_of-out_speed_delays : goal.shape_of-out_speed_delays
shape_of-out_speed_delays c = c.out_speed_delays-1.given

pub shape_of-out_speed_units : goal.shape_of-out_speed_units
shape_of-out_speed_units c = c.out_speed_units-1.given

pub shape_of-out_scroll_beats : goal.shape_of-out_scroll_beats
shape_of-out_scroll_beats c = c.out_scroll_beats-1.given

pub shape_of-out_scroll_values : goal.shape_of-out_scroll_values
shape_of-out_scroll_values c = c.out_scroll_values-1.given

pub shape_of-out_fake_beats : goal.shape_of-out_fake_beats
shape_of-out_fake_beats c = c.out_fake_beats-1.given

pub shape_of-out_fake_lengths : goal.shape_of-out_fake_lengths
shape_of-out_fake_lengths c = c.out_fake_lengths-1.given

pub returns : goal.returns
returns c =
    let at = c in
    let s = start (goal.at.returns at).After-others_later-later in
    let given = s.args in
    let three = c.assemble_tempos-processed in
    let delayed = c.assemble_untested-delays in
    let sped = c.assemble_untested-speeds in
    let scrolled = c.assemble_untested-scrolls in
    let faked = c.assemble_untested-fakes in
    let all = as_asked (three_number (processed s)) (others s) (marked s) (later s) c.others_number-other.ensures (asked-later (goal.at.returns at).After-others_later-later) c.assemble_tempos-processed.ensures in
    let none = c.if-processed-ne-TAKEN.false in
    let passed = all-passed all none in
    let seven = (lower-none (seven_number (chart s)) (marked s) passed.0).0 in
    let fit = others-fit (delay s) (speed s) (scroll s) (fake s) (delay_room s) (speed_room s) (scroll_room s) (fake_room s) passed.1 in
    let taken = others-taken (delay s) (speed s) (scroll s) (fake s) (lower-none (three_number (processed s)) (others s) seven).1 in
    let speeds = speeds-untested (speed s) taken.speeds c.assemble_untested-speeds.ensures.fact in
    let scrolls = scrolls-untested given.scroll_beats.now given.scroll_values.now taken.scrolls c.assemble_untested-scrolls.ensures.scrolls_untested in
    assembles (taken-part all none)
    (rows-laid Values given.delay_beats.now given.delay_values.now taken.delays fit.delays_fit c.assemble_untested-delays.ensures.rows_untested)
    (speeds-laid speeds (speeds.number ∙ fit.speeds_fit))
    (list_of_pair scrolls (scrolls.number ∙ fit.scrolls_fit))
    (rows-laid Lengths given.fake_beats.now given.fake_lengths.now taken.fakes fit.fakes_fit c.assemble_untested-fakes.ensures.rows_untested)
    (all_handed_up given.format (chart s)
    (record {
      tempos = c.count_moved-tempos_moved.result;
      stops = c.count_moved-stops_moved.result;
      delays = delayed.result.moved;
      warps = three.result.moved;
      speeds = sped.result.moved;
      scrolls = scrolled.result.moved;
      fakes = faked.result.moved;
    })
    seven
    (record {
      tempos_up = c.count_moved-tempos_moved.ensures;
      stops_up = c.count_moved-stops_moved.ensures;
      delays_up = under-taken (rows-number Values given.delay_beats.now given.delay_values.now taken.delays fit.delays_fit delayed.ensures.rows_untested) delayed.ensures.moved_value;
      warps_up = (taken-part all none).warps_moved;
      speeds_up = under-taken (speeds.number ∙ fit.speeds_fit) sped.ensures.moved_value;
      scrolls_up = under-taken (scrolls.number ∙ fit.scrolls_fit) scrolled.ensures.moved_value;
      fakes_up = under-taken (rows-number Lengths given.fake_beats.now given.fake_lengths.now taken.fakes fit.fakes_fit faked.ensures.rows_untested) faked.ensures.moved_value;
    }))
