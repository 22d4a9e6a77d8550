-- `assembly_speeds::lay_each` writes each number by itself. Assumes nothing.
use Prim.Native.Nat.{◌≤◌}
use mathlib.Core.Path.{refl, sym, ◌∙◌}
use native.Mathlib.Nat.{le_trans, le_of_eq}
use native.Mathlib.Omega.{arith}
use lib.ListN.{length}
use Rattle.tidy_speeds_entries.specs.LaidSpeeds.{least_of}
use Rattle.tidy_speeds_entries.proofs.Rooms.{refused_for_room, taken}
use Rattle.assembly_speeds.specs.AssembledSpeeds.{each_speed}
use Rattle.assembly_speeds.proofs.Untested.{each-length, each_laid}
use Rattle.chart.specs.ChartColumns.{speed_columns}
use borrow.Author.Rules.{rules}
use Rattle.assembly_speeds.proofs.lay_each.Goals as goal

pub returns-then-count-room : goal.returns-then-count-room
returns-then-count-room c =
    let given = c.args in
    rw c.refused.ensures
    (refused_for_room 0 (each_speed (speed_columns given.quantised.now given.ratios.now given.delays.now given.units.now)) given.out_beats.now given.out_ratios.now given.out_delays.now given.out_units.now refl (omega (arith, c.if-count-room.true, c.least_of-room.ensures, each-length (speed_columns given.quantised.now given.ratios.now given.delays.now given.units.now) c.requires)))

pub returns : goal.returns
returns c =
    let given = c.args in
    let long = each-length (speed_columns given.quantised.now given.ratios.now given.delays.now given.units.now) c.requires in
    let room : length given.quantised.now ≤ least_of (length given.out_beats.now) (length given.out_ratios.now) (length given.out_delays.now) (length given.out_units.now) = omega (arith, c.if-count-room.false, c.least_of-room.ensures) in
    let laid = each_laid (speed_columns given.quantised.now given.ratios.now given.delays.now given.units.now) c.requires (speed_columns given.out_beats.now given.out_ratios.now given.out_delays.now given.out_units.now) room in
    taken 0 (each_speed (speed_columns given.quantised.now given.ratios.now given.delays.now given.units.now)) given.out_beats.now given.out_ratios.now given.out_delays.now given.out_units.now (length given.quantised.now) _ _ _ _ refl (le_trans (le_of_eq long) room) (sym long)
    (record {
      beats_are = c.copy.ensures ∙ laid.beats_are;
      ratios_are = c.narrow_column.ensures ∙ laid.ratios_are;
      delays_are = c.narrow_column-2.ensures ∙ laid.delays_are;
      units_are = c.copy-2.ensures ∙ laid.units_are;
    })
