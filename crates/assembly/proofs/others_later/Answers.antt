-- `assembly::others_later` asks each list for its room, and scrolls and speeds for a fall. Assumes nothing.
use mathlib.Core.Path.{◌∙◌}
use Rattle.assembly.proofs.Ends.{later-is}
use Rattle.chart.specs.ChartColumns.{list_columns, speed_columns}
use borrow.Author.Rules.{rules}
use Rattle.assembly.proofs.others_later.Goals as goal

pub returns : goal.returns
returns c = λ taken. c.lower_of-3.ensures ∙ rw (c.lower_of-2.ensures, c.lower_of.ensures, c.no_room-delays.ensures, c.rows_fit.ensures, c.speeds_number-speeds.ensures, c.scrolls_number-scrolls.ensures, c.no_room-fakes.ensures, c.rows_fit-2.ensures) (later-is (list_columns c.args.delay_beats.now c.args.delay_values.now) (speed_columns c.args.speed_beats.now c.args.speed_ratios.now c.args.speed_delays.now c.args.speed_units.now) (list_columns c.args.scroll_beats.now c.args.scroll_values.now) (list_columns c.args.fake_beats.now c.args.fake_lengths.now) c.args.delay_room c.args.speed_room c.args.scroll_room c.args.fake_room taken)
