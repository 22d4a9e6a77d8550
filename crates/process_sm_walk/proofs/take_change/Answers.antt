use Rattle.process_sm_machine.specs.Machine.{pass}
use lib.Ieee.{Float}
use Rattle.std.proofs.Common.{ap, ◌∙◌}
use Rattle.process_sm_walk.specs.Chart.{written_by}
use Rattle.process_sm_walk.specs.Columns.{columns}
use Rattle.process_sm_walk.proofs.OneChange.{same-written, same_then, room-passing, room-meeting, turned}
use Rattle.process_sm_walk.proofs.take_change.Goals as goal

pub write-midway-requires : goal.write-midway-requires
write-midway-requires c = room-passing c.args.state c.args.change c.args.counts c.pass-passing.result (c.pass-passing.ensures ∙ ap (λ (b : Float). pass c.args.state b) c.beat_at.ensures) (columns c.args.tempo_beats.now c.args.tempo_values.now c.args.stop_beats.now c.args.stop_values.now c.args.warp_beats.now c.args.warp_lengths.now) c.requires

pub write-counted-requires : goal.write-counted-requires
write-counted-requires c = room-meeting c.args.state c.args.change c.args.counts c.pass-passing.result (c.pass-passing.ensures ∙ ap (λ (b : Float). pass c.args.state b) c.beat_at.ensures) (columns c.args.tempo_beats.now c.args.tempo_values.now c.args.stop_beats.now c.args.stop_values.now c.args.warp_beats.now c.args.warp_lengths.now) c.requires c.meet-meeting.result c.meet-meeting.ensures c.write-midway.result c.write-midway.ensures.value (columns c.write-midway.new.tempo_beats c.write-midway.new.tempo_values c.write-midway.new.stop_beats c.write-midway.new.stop_values c.write-midway.new.warp_beats c.write-midway.new.warp_lengths) c.write-midway.ensures.rooms_value

pub shape_of-tempo_beats : goal.shape_of-tempo_beats
shape_of-tempo_beats c = (same_then (columns c.write-counted.new.tempo_beats c.write-counted.new.tempo_values c.write-counted.new.stop_beats c.write-counted.new.stop_values c.write-counted.new.warp_beats c.write-counted.new.warp_lengths) (columns c.write-midway.new.tempo_beats c.write-midway.new.tempo_values c.write-midway.new.stop_beats c.write-midway.new.stop_values c.write-midway.new.warp_beats c.write-midway.new.warp_lengths) (columns c.args.tempo_beats.now c.args.tempo_values.now c.args.stop_beats.now c.args.stop_values.now c.args.warp_beats.now c.args.warp_lengths.now) (same-written c.write-midway.result (written_by c.meet-meeting.result) (columns c.write-counted.new.tempo_beats c.write-counted.new.tempo_values c.write-counted.new.stop_beats c.write-counted.new.stop_values c.write-counted.new.warp_beats c.write-counted.new.warp_lengths) (columns c.write-midway.new.tempo_beats c.write-midway.new.tempo_values c.write-midway.new.stop_beats c.write-midway.new.stop_values c.write-midway.new.warp_beats c.write-midway.new.warp_lengths) c.write-counted.ensures.rooms_value) (same-written c.args.counts (written_by c.pass-passing.result) (columns c.write-midway.new.tempo_beats c.write-midway.new.tempo_values c.write-midway.new.stop_beats c.write-midway.new.stop_values c.write-midway.new.warp_beats c.write-midway.new.warp_lengths) (columns c.args.tempo_beats.now c.args.tempo_values.now c.args.stop_beats.now c.args.stop_values.now c.args.warp_beats.now c.args.warp_lengths.now) c.write-midway.ensures.rooms_value)).tempo_beats

pub shape_of-tempo_values : goal.shape_of-tempo_values
shape_of-tempo_values c = (same_then (columns c.write-counted.new.tempo_beats c.write-counted.new.tempo_values c.write-counted.new.stop_beats c.write-counted.new.stop_values c.write-counted.new.warp_beats c.write-counted.new.warp_lengths) (columns c.write-midway.new.tempo_beats c.write-midway.new.tempo_values c.write-midway.new.stop_beats c.write-midway.new.stop_values c.write-midway.new.warp_beats c.write-midway.new.warp_lengths) (columns c.args.tempo_beats.now c.args.tempo_values.now c.args.stop_beats.now c.args.stop_values.now c.args.warp_beats.now c.args.warp_lengths.now) (same-written c.write-midway.result (written_by c.meet-meeting.result) (columns c.write-counted.new.tempo_beats c.write-counted.new.tempo_values c.write-counted.new.stop_beats c.write-counted.new.stop_values c.write-counted.new.warp_beats c.write-counted.new.warp_lengths) (columns c.write-midway.new.tempo_beats c.write-midway.new.tempo_values c.write-midway.new.stop_beats c.write-midway.new.stop_values c.write-midway.new.warp_beats c.write-midway.new.warp_lengths) c.write-counted.ensures.rooms_value) (same-written c.args.counts (written_by c.pass-passing.result) (columns c.write-midway.new.tempo_beats c.write-midway.new.tempo_values c.write-midway.new.stop_beats c.write-midway.new.stop_values c.write-midway.new.warp_beats c.write-midway.new.warp_lengths) (columns c.args.tempo_beats.now c.args.tempo_values.now c.args.stop_beats.now c.args.stop_values.now c.args.warp_beats.now c.args.warp_lengths.now) c.write-midway.ensures.rooms_value)).tempo_values

pub shape_of-stop_beats : goal.shape_of-stop_beats
shape_of-stop_beats c = (same_then (columns c.write-counted.new.tempo_beats c.write-counted.new.tempo_values c.write-counted.new.stop_beats c.write-counted.new.stop_values c.write-counted.new.warp_beats c.write-counted.new.warp_lengths) (columns c.write-midway.new.tempo_beats c.write-midway.new.tempo_values c.write-midway.new.stop_beats c.write-midway.new.stop_values c.write-midway.new.warp_beats c.write-midway.new.warp_lengths) (columns c.args.tempo_beats.now c.args.tempo_values.now c.args.stop_beats.now c.args.stop_values.now c.args.warp_beats.now c.args.warp_lengths.now) (same-written c.write-midway.result (written_by c.meet-meeting.result) (columns c.write-counted.new.tempo_beats c.write-counted.new.tempo_values c.write-counted.new.stop_beats c.write-counted.new.stop_values c.write-counted.new.warp_beats c.write-counted.new.warp_lengths) (columns c.write-midway.new.tempo_beats c.write-midway.new.tempo_values c.write-midway.new.stop_beats c.write-midway.new.stop_values c.write-midway.new.warp_beats c.write-midway.new.warp_lengths) c.write-counted.ensures.rooms_value) (same-written c.args.counts (written_by c.pass-passing.result) (columns c.write-midway.new.tempo_beats c.write-midway.new.tempo_values c.write-midway.new.stop_beats c.write-midway.new.stop_values c.write-midway.new.warp_beats c.write-midway.new.warp_lengths) (columns c.args.tempo_beats.now c.args.tempo_values.now c.args.stop_beats.now c.args.stop_values.now c.args.warp_beats.now c.args.warp_lengths.now) c.write-midway.ensures.rooms_value)).stop_beats

pub shape_of-stop_values : goal.shape_of-stop_values
shape_of-stop_values c = (same_then (columns c.write-counted.new.tempo_beats c.write-counted.new.tempo_values c.write-counted.new.stop_beats c.write-counted.new.stop_values c.write-counted.new.warp_beats c.write-counted.new.warp_lengths) (columns c.write-midway.new.tempo_beats c.write-midway.new.tempo_values c.write-midway.new.stop_beats c.write-midway.new.stop_values c.write-midway.new.warp_beats c.write-midway.new.warp_lengths) (columns c.args.tempo_beats.now c.args.tempo_values.now c.args.stop_beats.now c.args.stop_values.now c.args.warp_beats.now c.args.warp_lengths.now) (same-written c.write-midway.result (written_by c.meet-meeting.result) (columns c.write-counted.new.tempo_beats c.write-counted.new.tempo_values c.write-counted.new.stop_beats c.write-counted.new.stop_values c.write-counted.new.warp_beats c.write-counted.new.warp_lengths) (columns c.write-midway.new.tempo_beats c.write-midway.new.tempo_values c.write-midway.new.stop_beats c.write-midway.new.stop_values c.write-midway.new.warp_beats c.write-midway.new.warp_lengths) c.write-counted.ensures.rooms_value) (same-written c.args.counts (written_by c.pass-passing.result) (columns c.write-midway.new.tempo_beats c.write-midway.new.tempo_values c.write-midway.new.stop_beats c.write-midway.new.stop_values c.write-midway.new.warp_beats c.write-midway.new.warp_lengths) (columns c.args.tempo_beats.now c.args.tempo_values.now c.args.stop_beats.now c.args.stop_values.now c.args.warp_beats.now c.args.warp_lengths.now) c.write-midway.ensures.rooms_value)).stop_values

pub shape_of-warp_beats : goal.shape_of-warp_beats
shape_of-warp_beats c = (same_then (columns c.write-counted.new.tempo_beats c.write-counted.new.tempo_values c.write-counted.new.stop_beats c.write-counted.new.stop_values c.write-counted.new.warp_beats c.write-counted.new.warp_lengths) (columns c.write-midway.new.tempo_beats c.write-midway.new.tempo_values c.write-midway.new.stop_beats c.write-midway.new.stop_values c.write-midway.new.warp_beats c.write-midway.new.warp_lengths) (columns c.args.tempo_beats.now c.args.tempo_values.now c.args.stop_beats.now c.args.stop_values.now c.args.warp_beats.now c.args.warp_lengths.now) (same-written c.write-midway.result (written_by c.meet-meeting.result) (columns c.write-counted.new.tempo_beats c.write-counted.new.tempo_values c.write-counted.new.stop_beats c.write-counted.new.stop_values c.write-counted.new.warp_beats c.write-counted.new.warp_lengths) (columns c.write-midway.new.tempo_beats c.write-midway.new.tempo_values c.write-midway.new.stop_beats c.write-midway.new.stop_values c.write-midway.new.warp_beats c.write-midway.new.warp_lengths) c.write-counted.ensures.rooms_value) (same-written c.args.counts (written_by c.pass-passing.result) (columns c.write-midway.new.tempo_beats c.write-midway.new.tempo_values c.write-midway.new.stop_beats c.write-midway.new.stop_values c.write-midway.new.warp_beats c.write-midway.new.warp_lengths) (columns c.args.tempo_beats.now c.args.tempo_values.now c.args.stop_beats.now c.args.stop_values.now c.args.warp_beats.now c.args.warp_lengths.now) c.write-midway.ensures.rooms_value)).warp_beats

pub shape_of-warp_lengths : goal.shape_of-warp_lengths
shape_of-warp_lengths c = (same_then (columns c.write-counted.new.tempo_beats c.write-counted.new.tempo_values c.write-counted.new.stop_beats c.write-counted.new.stop_values c.write-counted.new.warp_beats c.write-counted.new.warp_lengths) (columns c.write-midway.new.tempo_beats c.write-midway.new.tempo_values c.write-midway.new.stop_beats c.write-midway.new.stop_values c.write-midway.new.warp_beats c.write-midway.new.warp_lengths) (columns c.args.tempo_beats.now c.args.tempo_values.now c.args.stop_beats.now c.args.stop_values.now c.args.warp_beats.now c.args.warp_lengths.now) (same-written c.write-midway.result (written_by c.meet-meeting.result) (columns c.write-counted.new.tempo_beats c.write-counted.new.tempo_values c.write-counted.new.stop_beats c.write-counted.new.stop_values c.write-counted.new.warp_beats c.write-counted.new.warp_lengths) (columns c.write-midway.new.tempo_beats c.write-midway.new.tempo_values c.write-midway.new.stop_beats c.write-midway.new.stop_values c.write-midway.new.warp_beats c.write-midway.new.warp_lengths) c.write-counted.ensures.rooms_value) (same-written c.args.counts (written_by c.pass-passing.result) (columns c.write-midway.new.tempo_beats c.write-midway.new.tempo_values c.write-midway.new.stop_beats c.write-midway.new.stop_values c.write-midway.new.warp_beats c.write-midway.new.warp_lengths) (columns c.args.tempo_beats.now c.args.tempo_values.now c.args.stop_beats.now c.args.stop_values.now c.args.warp_beats.now c.args.warp_lengths.now) c.write-midway.ensures.rooms_value)).warp_lengths

pub returns : goal.returns
returns c =
    let given = turned c.args.state c.args.change c.args.counts c.pass-passing.result (c.pass-passing.ensures ∙ ap (λ (b : Float). pass c.args.state b) c.beat_at.ensures) (columns c.args.tempo_beats.now c.args.tempo_values.now c.args.stop_beats.now c.args.stop_values.now c.args.warp_beats.now c.args.warp_lengths.now) c.requires c.meet-meeting.result c.meet-meeting.ensures c.write-midway.result c.write-counted.result c.write-midway.ensures.value c.write-counted.ensures.value (columns c.write-midway.new.tempo_beats c.write-midway.new.tempo_values c.write-midway.new.stop_beats c.write-midway.new.stop_values c.write-midway.new.warp_beats c.write-midway.new.warp_lengths) (columns c.write-counted.new.tempo_beats c.write-counted.new.tempo_values c.write-counted.new.stop_beats c.write-counted.new.stop_values c.write-counted.new.warp_beats c.write-counted.new.warp_lengths) c.write-midway.ensures.rooms_value c.write-counted.ensures.rooms_value in
    record {
      value = given.0;
      rooms_value = given.1;
    }
