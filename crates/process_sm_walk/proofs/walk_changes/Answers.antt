use Rattle.std.proofs.Common.{sym, ◌∙◌}
use Rattle.process_sm_walk.specs.Columns.{columns}
use Rattle.process_sm_walk.proofs.Outcomes.{number_by_rooms, refused-laid, chart-taken, room-taken, taken-laid}
use Rattle.process_sm_walk.proofs.walk_changes.Goals as goal

pub returns-then-number-ne-TAKEN : goal.returns-then-number-ne-TAKEN
returns-then-number-ne-TAKEN c = let number = number_by_rooms _ _ _ _ (columns c.args.out_tempo_beats.now c.args.out_tempo_values.now c.args.out_stop_beats.now c.args.out_stop_values.now c.args.out_warp_beats.now c.args.out_warp_lengths.now) c.walk_number-number.result _ _ _ c.room_of-tempo_room.ensures c.room_of-stop_room.ensures c.room_of-warp_room.ensures c.walk_number-number.ensures in rw (← number, c.refused.ensures) (refused-laid _ _ _ _ c.if-number-ne-TAKEN.true)

pub walk_chart-done-requires : goal.walk_chart-done-requires
walk_chart-done-requires c = let taken = sym (number_by_rooms _ _ _ _ (columns c.args.out_tempo_beats.now c.args.out_tempo_values.now c.args.out_stop_beats.now c.args.out_stop_values.now c.args.out_warp_beats.now c.args.out_warp_lengths.now) c.walk_number-number.result _ _ _ c.room_of-tempo_room.ensures c.room_of-stop_room.ensures c.room_of-warp_room.ensures c.walk_number-number.ensures) ∙ c.if-number-ne-TAKEN.false in
    record {
      chart = chart-taken _ _ _ _ _ taken;
      fact = room-taken _ _ _ _ _ taken;
    }

pub returns : goal.returns
returns c = let taken = sym (number_by_rooms _ _ _ _ (columns c.args.out_tempo_beats.now c.args.out_tempo_values.now c.args.out_stop_beats.now c.args.out_stop_values.now c.args.out_warp_beats.now c.args.out_warp_lengths.now) c.walk_number-number.result _ _ _ c.room_of-tempo_room.ensures c.room_of-stop_room.ensures c.room_of-warp_room.ensures c.walk_number-number.ensures) ∙ c.if-number-ne-TAKEN.false in rw taken (taken-laid _ _ _ _ _ taken c.walk_chart-done.result (columns c.walk_chart-done.new.out_tempo_beats c.walk_chart-done.new.out_tempo_values c.walk_chart-done.new.out_stop_beats c.walk_chart-done.new.out_stop_values c.walk_chart-done.new.out_warp_beats c.walk_chart-done.new.out_warp_lengths) c.walk_chart-done.ensures.result_value c.walk_chart-done.ensures.rooms_value)
