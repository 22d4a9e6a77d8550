-- `process_sm::process_bpms_and_stops_sm` goes by whether every room holds the most that the lists come to. Assumes nothing.
use Rattle.std.proofs.Common.{length, rules}
use Rattle.process_raw.specs.LentLists.{three_columns}
use Rattle.process_sm.specs.inside.Rooms.{ResultRooms}
use Rattle.process_sm.proofs.process_bpms_and_stops_sm.Goals as goal
use Rattle.process_sm.proofs.process_bpms_and_stops_sm.Goals.{Start, Then-hold}

abbrev given : Then-hold → Start
given c = (goal.at.Then-hold c).Start

rooms : (c : Then-hold) → ResultRooms (length (given c).args.tempo_beats.now) (length (given c).args.stop_beats.now)
    (three_columns (given c).args.out_tempo_beats.now (given c).args.out_tempo_values.now (given c).args.out_stop_beats.now (given c).args.out_stop_values.now (given c).args.out_warp_beats.now (given c).args.out_warp_lengths.now)
rooms c = rw (c.room_of-tempo_room.ensures, c.room_of-stop_room.ensures, c.room_of-warp_room.ensures) at (c.rooms_hold-hold.ensures c.if-hold.true)

pub into_rooms-requires : goal.into_rooms-requires
into_rooms-requires c = rooms (goal.at.into_rooms-requires c).Then-hold

pub shape_of-out_tempo_beats-then-hold : goal.shape_of-out_tempo_beats-then-hold
shape_of-out_tempo_beats-then-hold c = c.out_tempo_beats-1.given

pub shape_of-out_tempo_values-then-hold : goal.shape_of-out_tempo_values-then-hold
shape_of-out_tempo_values-then-hold c = c.out_tempo_values-1.given

pub shape_of-out_stop_beats-then-hold : goal.shape_of-out_stop_beats-then-hold
shape_of-out_stop_beats-then-hold c = c.out_stop_beats-1.given

pub shape_of-out_stop_values-then-hold : goal.shape_of-out_stop_values-then-hold
shape_of-out_stop_values-then-hold c = c.out_stop_values-1.given

pub shape_of-out_warp_beats-then-hold : goal.shape_of-out_warp_beats-then-hold
shape_of-out_warp_beats-then-hold c = c.out_warp_beats-1.given

pub shape_of-out_warp_lengths-then-hold : goal.shape_of-out_warp_lengths-then-hold
shape_of-out_warp_lengths-then-hold c = c.out_warp_lengths-1.given

pub returns-then-hold : goal.returns-then-hold
returns-then-hold c = c.into_rooms.ensures

pub shape_of-out_tempo_beats : goal.shape_of-out_tempo_beats
shape_of-out_tempo_beats c = c.out_tempo_beats-2-1.given

pub shape_of-out_tempo_values : goal.shape_of-out_tempo_values
shape_of-out_tempo_values c = c.out_tempo_values-2-1.given

pub shape_of-out_stop_beats : goal.shape_of-out_stop_beats
shape_of-out_stop_beats c = c.out_stop_beats-2-1.given

pub shape_of-out_stop_values : goal.shape_of-out_stop_values
shape_of-out_stop_values c = c.out_stop_values-2-1.given

pub shape_of-out_warp_beats : goal.shape_of-out_warp_beats
shape_of-out_warp_beats c = c.out_warp_beats-2-1.given

pub shape_of-out_warp_lengths : goal.shape_of-out_warp_lengths
shape_of-out_warp_lengths c = c.out_warp_lengths-2-1.given

pub returns : goal.returns
returns c = c.process_by_columns.ensures
