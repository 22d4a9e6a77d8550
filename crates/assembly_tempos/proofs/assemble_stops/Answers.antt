-- `assembly_tempos::assemble_stops` lays beats that rise as they are, and else goes the longer way. Assumes nothing.
use Prim.Native.Nat.{◌≤◌, min}
use mathlib.Core.Path.{sym, ◌∙◌}
use native.Mathlib.Omega.{arith}
use lib.ListN.{length}
use Rattle.assembly_tempos.proofs.OnRows.{on_row_held, laid_as_they_are}
use Rattle.assembly_tempos.proofs.assemble_stops.Goals as goal

pub returns-then-beats-room_of : goal.returns-then-beats-room_of
returns-then-beats-room_of c = c.assemble_untested.ensures.rows_untested

pub cast_column-requires : goal.cast_column-requires
cast_column-requires c = on_row_held c.args.beats.now c.requires.1

pub narrow_values-requires : goal.narrow_values-requires
narrow_values-requires c = c.requires.2

pub returns-then-rise : goal.returns-then-rise
returns-then-rise c =
    let given = c.args in
    let room : length given.beats.now ≤ min (length given.out_beats.now) (length given.out_values.now) = omega (arith, c.if-beats-room_of.false, c.room_of.ensures) in
    let laid = laid_as_they_are given.beats.now given.values.now given.out_beats.now given.out_values.now c.requires.0 c.requires.1 (sym c.rise.ensures ∙ c.if-rise.true) room in
    record { number = laid.number; count = laid.count; first_is = c.cast_column.ensures ∙ laid.first_is; second_is = c.narrow_values.ensures ∙ laid.second_is }

pub returns : goal.returns
returns c = c.assemble_untested-2.ensures.rows_untested
