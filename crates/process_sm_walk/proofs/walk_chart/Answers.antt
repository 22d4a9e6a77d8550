use Rattle.order.specs.Entries.{entries}
use Rattle.process_sm_walk.specs.Changes.{changes_left}
use Rattle.process_sm_walk.specs.Chart.{walk_changes, written_by}
use Rattle.process_sm_walk.specs.Columns.{columns, most_written}
use Rattle.process_sm_walk.specs.inside.Written.{none_counted}
use Rattle.std.proofs.Common.{length}
use Rattle.process_sm_walk.proofs.OneChange.{same-written, same_then, room-same}
use Rattle.process_sm_walk.proofs.WholeChart.{room-opening, reached-here, within-here, whole}
use Rattle.process_sm_walk.proofs.walk_chart.Goals as goal

pub write-so_far-requires : goal.write-so_far-requires
write-so_far-requires c = room-opening c.args.tempo_beats.now c.args.tempo_values.now c.args.stop_beats.now c.args.stop_values.now c.requires.chart c.opening_tempo-opener.result c.opening_tempo-opener.ensures c.early_stops-early.result c.early_stops-early.ensures c.open_chart-opening.result c.open_chart-opening.ensures (columns c.args.out_tempo_beats.now c.args.out_tempo_values.now c.args.out_stop_beats.now c.args.out_stop_values.now c.args.out_warp_beats.now c.args.out_warp_lengths.now) c.requires.fact

pub walk_on-counts-requires : goal.walk_on-counts-requires
walk_on-counts-requires c =
    record {
      chart = c.requires.chart;
      reached = reached-here c.args.tempo_beats.now c.args.tempo_values.now c.args.stop_beats.now c.args.stop_values.now c.requires.chart c.opening_tempo-opener.result c.opening_tempo-opener.ensures c.early_stops-early.result c.early_stops-early.ensures c.open_chart-opening.result c.open_chart-opening.ensures (columns c.args.out_tempo_beats.now c.args.out_tempo_values.now c.args.out_stop_beats.now c.args.out_stop_values.now c.args.out_warp_beats.now c.args.out_warp_lengths.now) c.requires.fact;
      written_within = within-here c.args.tempo_beats.now c.args.tempo_values.now c.args.stop_beats.now c.args.stop_values.now c.requires.chart c.opening_tempo-opener.result c.opening_tempo-opener.ensures c.early_stops-early.result c.early_stops-early.ensures c.open_chart-opening.result c.open_chart-opening.ensures (columns c.args.out_tempo_beats.now c.args.out_tempo_values.now c.args.out_stop_beats.now c.args.out_stop_values.now c.args.out_warp_beats.now c.args.out_warp_lengths.now) c.requires.fact c.write-so_far.result c.write-so_far.ensures.value;
      fact = room-same (most_written (length c.args.tempo_beats.now) (length c.args.stop_beats.now)) (columns c.write-so_far.new.tempo_beats c.write-so_far.new.tempo_values c.write-so_far.new.stop_beats c.write-so_far.new.stop_values c.write-so_far.new.warp_beats c.write-so_far.new.warp_lengths) (columns c.args.out_tempo_beats.now c.args.out_tempo_values.now c.args.out_stop_beats.now c.args.out_stop_values.now c.args.out_warp_beats.now c.args.out_warp_lengths.now) (same-written none_counted (written_by c.open_chart-opening.result) (columns c.write-so_far.new.tempo_beats c.write-so_far.new.tempo_values c.write-so_far.new.stop_beats c.write-so_far.new.stop_values c.write-so_far.new.warp_beats c.write-so_far.new.warp_lengths) (columns c.args.out_tempo_beats.now c.args.out_tempo_values.now c.args.out_stop_beats.now c.args.out_stop_values.now c.args.out_warp_beats.now c.args.out_warp_lengths.now) c.write-so_far.ensures.rooms_value) c.requires.fact;
    }

pub shape_of-out_tempo_beats : goal.shape_of-out_tempo_beats
shape_of-out_tempo_beats c = (same_then (columns c.walk_on-counts.new.out_tempo_beats c.walk_on-counts.new.out_tempo_values c.walk_on-counts.new.out_stop_beats c.walk_on-counts.new.out_stop_values c.walk_on-counts.new.out_warp_beats c.walk_on-counts.new.out_warp_lengths) (columns c.write-so_far.new.tempo_beats c.write-so_far.new.tempo_values c.write-so_far.new.stop_beats c.write-so_far.new.stop_values c.write-so_far.new.warp_beats c.write-so_far.new.warp_lengths) (columns c.args.out_tempo_beats.now c.args.out_tempo_values.now c.args.out_stop_beats.now c.args.out_stop_values.now c.args.out_warp_beats.now c.args.out_warp_lengths.now) (same-written c.write-so_far.result (walk_changes (changes_left (entries c.args.tempo_beats.now c.args.tempo_values.now) (entries c.args.stop_beats.now c.args.stop_values.now) (record { tempo = c.opening_tempo-opener.result.used; stop = c.early_stops-early.result.used })) c.open_chart-opening.result.state) (columns c.walk_on-counts.new.out_tempo_beats c.walk_on-counts.new.out_tempo_values c.walk_on-counts.new.out_stop_beats c.walk_on-counts.new.out_stop_values c.walk_on-counts.new.out_warp_beats c.walk_on-counts.new.out_warp_lengths) (columns c.write-so_far.new.tempo_beats c.write-so_far.new.tempo_values c.write-so_far.new.stop_beats c.write-so_far.new.stop_values c.write-so_far.new.warp_beats c.write-so_far.new.warp_lengths) c.walk_on-counts.ensures.rooms_value) (same-written none_counted (written_by c.open_chart-opening.result) (columns c.write-so_far.new.tempo_beats c.write-so_far.new.tempo_values c.write-so_far.new.stop_beats c.write-so_far.new.stop_values c.write-so_far.new.warp_beats c.write-so_far.new.warp_lengths) (columns c.args.out_tempo_beats.now c.args.out_tempo_values.now c.args.out_stop_beats.now c.args.out_stop_values.now c.args.out_warp_beats.now c.args.out_warp_lengths.now) c.write-so_far.ensures.rooms_value)).tempo_beats

pub shape_of-out_tempo_values : goal.shape_of-out_tempo_values
shape_of-out_tempo_values c = (same_then (columns c.walk_on-counts.new.out_tempo_beats c.walk_on-counts.new.out_tempo_values c.walk_on-counts.new.out_stop_beats c.walk_on-counts.new.out_stop_values c.walk_on-counts.new.out_warp_beats c.walk_on-counts.new.out_warp_lengths) (columns c.write-so_far.new.tempo_beats c.write-so_far.new.tempo_values c.write-so_far.new.stop_beats c.write-so_far.new.stop_values c.write-so_far.new.warp_beats c.write-so_far.new.warp_lengths) (columns c.args.out_tempo_beats.now c.args.out_tempo_values.now c.args.out_stop_beats.now c.args.out_stop_values.now c.args.out_warp_beats.now c.args.out_warp_lengths.now) (same-written c.write-so_far.result (walk_changes (changes_left (entries c.args.tempo_beats.now c.args.tempo_values.now) (entries c.args.stop_beats.now c.args.stop_values.now) (record { tempo = c.opening_tempo-opener.result.used; stop = c.early_stops-early.result.used })) c.open_chart-opening.result.state) (columns c.walk_on-counts.new.out_tempo_beats c.walk_on-counts.new.out_tempo_values c.walk_on-counts.new.out_stop_beats c.walk_on-counts.new.out_stop_values c.walk_on-counts.new.out_warp_beats c.walk_on-counts.new.out_warp_lengths) (columns c.write-so_far.new.tempo_beats c.write-so_far.new.tempo_values c.write-so_far.new.stop_beats c.write-so_far.new.stop_values c.write-so_far.new.warp_beats c.write-so_far.new.warp_lengths) c.walk_on-counts.ensures.rooms_value) (same-written none_counted (written_by c.open_chart-opening.result) (columns c.write-so_far.new.tempo_beats c.write-so_far.new.tempo_values c.write-so_far.new.stop_beats c.write-so_far.new.stop_values c.write-so_far.new.warp_beats c.write-so_far.new.warp_lengths) (columns c.args.out_tempo_beats.now c.args.out_tempo_values.now c.args.out_stop_beats.now c.args.out_stop_values.now c.args.out_warp_beats.now c.args.out_warp_lengths.now) c.write-so_far.ensures.rooms_value)).tempo_values

pub shape_of-out_stop_beats : goal.shape_of-out_stop_beats
shape_of-out_stop_beats c = (same_then (columns c.walk_on-counts.new.out_tempo_beats c.walk_on-counts.new.out_tempo_values c.walk_on-counts.new.out_stop_beats c.walk_on-counts.new.out_stop_values c.walk_on-counts.new.out_warp_beats c.walk_on-counts.new.out_warp_lengths) (columns c.write-so_far.new.tempo_beats c.write-so_far.new.tempo_values c.write-so_far.new.stop_beats c.write-so_far.new.stop_values c.write-so_far.new.warp_beats c.write-so_far.new.warp_lengths) (columns c.args.out_tempo_beats.now c.args.out_tempo_values.now c.args.out_stop_beats.now c.args.out_stop_values.now c.args.out_warp_beats.now c.args.out_warp_lengths.now) (same-written c.write-so_far.result (walk_changes (changes_left (entries c.args.tempo_beats.now c.args.tempo_values.now) (entries c.args.stop_beats.now c.args.stop_values.now) (record { tempo = c.opening_tempo-opener.result.used; stop = c.early_stops-early.result.used })) c.open_chart-opening.result.state) (columns c.walk_on-counts.new.out_tempo_beats c.walk_on-counts.new.out_tempo_values c.walk_on-counts.new.out_stop_beats c.walk_on-counts.new.out_stop_values c.walk_on-counts.new.out_warp_beats c.walk_on-counts.new.out_warp_lengths) (columns c.write-so_far.new.tempo_beats c.write-so_far.new.tempo_values c.write-so_far.new.stop_beats c.write-so_far.new.stop_values c.write-so_far.new.warp_beats c.write-so_far.new.warp_lengths) c.walk_on-counts.ensures.rooms_value) (same-written none_counted (written_by c.open_chart-opening.result) (columns c.write-so_far.new.tempo_beats c.write-so_far.new.tempo_values c.write-so_far.new.stop_beats c.write-so_far.new.stop_values c.write-so_far.new.warp_beats c.write-so_far.new.warp_lengths) (columns c.args.out_tempo_beats.now c.args.out_tempo_values.now c.args.out_stop_beats.now c.args.out_stop_values.now c.args.out_warp_beats.now c.args.out_warp_lengths.now) c.write-so_far.ensures.rooms_value)).stop_beats

pub shape_of-out_stop_values : goal.shape_of-out_stop_values
shape_of-out_stop_values c = (same_then (columns c.walk_on-counts.new.out_tempo_beats c.walk_on-counts.new.out_tempo_values c.walk_on-counts.new.out_stop_beats c.walk_on-counts.new.out_stop_values c.walk_on-counts.new.out_warp_beats c.walk_on-counts.new.out_warp_lengths) (columns c.write-so_far.new.tempo_beats c.write-so_far.new.tempo_values c.write-so_far.new.stop_beats c.write-so_far.new.stop_values c.write-so_far.new.warp_beats c.write-so_far.new.warp_lengths) (columns c.args.out_tempo_beats.now c.args.out_tempo_values.now c.args.out_stop_beats.now c.args.out_stop_values.now c.args.out_warp_beats.now c.args.out_warp_lengths.now) (same-written c.write-so_far.result (walk_changes (changes_left (entries c.args.tempo_beats.now c.args.tempo_values.now) (entries c.args.stop_beats.now c.args.stop_values.now) (record { tempo = c.opening_tempo-opener.result.used; stop = c.early_stops-early.result.used })) c.open_chart-opening.result.state) (columns c.walk_on-counts.new.out_tempo_beats c.walk_on-counts.new.out_tempo_values c.walk_on-counts.new.out_stop_beats c.walk_on-counts.new.out_stop_values c.walk_on-counts.new.out_warp_beats c.walk_on-counts.new.out_warp_lengths) (columns c.write-so_far.new.tempo_beats c.write-so_far.new.tempo_values c.write-so_far.new.stop_beats c.write-so_far.new.stop_values c.write-so_far.new.warp_beats c.write-so_far.new.warp_lengths) c.walk_on-counts.ensures.rooms_value) (same-written none_counted (written_by c.open_chart-opening.result) (columns c.write-so_far.new.tempo_beats c.write-so_far.new.tempo_values c.write-so_far.new.stop_beats c.write-so_far.new.stop_values c.write-so_far.new.warp_beats c.write-so_far.new.warp_lengths) (columns c.args.out_tempo_beats.now c.args.out_tempo_values.now c.args.out_stop_beats.now c.args.out_stop_values.now c.args.out_warp_beats.now c.args.out_warp_lengths.now) c.write-so_far.ensures.rooms_value)).stop_values

pub shape_of-out_warp_beats : goal.shape_of-out_warp_beats
shape_of-out_warp_beats c = (same_then (columns c.walk_on-counts.new.out_tempo_beats c.walk_on-counts.new.out_tempo_values c.walk_on-counts.new.out_stop_beats c.walk_on-counts.new.out_stop_values c.walk_on-counts.new.out_warp_beats c.walk_on-counts.new.out_warp_lengths) (columns c.write-so_far.new.tempo_beats c.write-so_far.new.tempo_values c.write-so_far.new.stop_beats c.write-so_far.new.stop_values c.write-so_far.new.warp_beats c.write-so_far.new.warp_lengths) (columns c.args.out_tempo_beats.now c.args.out_tempo_values.now c.args.out_stop_beats.now c.args.out_stop_values.now c.args.out_warp_beats.now c.args.out_warp_lengths.now) (same-written c.write-so_far.result (walk_changes (changes_left (entries c.args.tempo_beats.now c.args.tempo_values.now) (entries c.args.stop_beats.now c.args.stop_values.now) (record { tempo = c.opening_tempo-opener.result.used; stop = c.early_stops-early.result.used })) c.open_chart-opening.result.state) (columns c.walk_on-counts.new.out_tempo_beats c.walk_on-counts.new.out_tempo_values c.walk_on-counts.new.out_stop_beats c.walk_on-counts.new.out_stop_values c.walk_on-counts.new.out_warp_beats c.walk_on-counts.new.out_warp_lengths) (columns c.write-so_far.new.tempo_beats c.write-so_far.new.tempo_values c.write-so_far.new.stop_beats c.write-so_far.new.stop_values c.write-so_far.new.warp_beats c.write-so_far.new.warp_lengths) c.walk_on-counts.ensures.rooms_value) (same-written none_counted (written_by c.open_chart-opening.result) (columns c.write-so_far.new.tempo_beats c.write-so_far.new.tempo_values c.write-so_far.new.stop_beats c.write-so_far.new.stop_values c.write-so_far.new.warp_beats c.write-so_far.new.warp_lengths) (columns c.args.out_tempo_beats.now c.args.out_tempo_values.now c.args.out_stop_beats.now c.args.out_stop_values.now c.args.out_warp_beats.now c.args.out_warp_lengths.now) c.write-so_far.ensures.rooms_value)).warp_beats

pub shape_of-out_warp_lengths : goal.shape_of-out_warp_lengths
shape_of-out_warp_lengths c = (same_then (columns c.walk_on-counts.new.out_tempo_beats c.walk_on-counts.new.out_tempo_values c.walk_on-counts.new.out_stop_beats c.walk_on-counts.new.out_stop_values c.walk_on-counts.new.out_warp_beats c.walk_on-counts.new.out_warp_lengths) (columns c.write-so_far.new.tempo_beats c.write-so_far.new.tempo_values c.write-so_far.new.stop_beats c.write-so_far.new.stop_values c.write-so_far.new.warp_beats c.write-so_far.new.warp_lengths) (columns c.args.out_tempo_beats.now c.args.out_tempo_values.now c.args.out_stop_beats.now c.args.out_stop_values.now c.args.out_warp_beats.now c.args.out_warp_lengths.now) (same-written c.write-so_far.result (walk_changes (changes_left (entries c.args.tempo_beats.now c.args.tempo_values.now) (entries c.args.stop_beats.now c.args.stop_values.now) (record { tempo = c.opening_tempo-opener.result.used; stop = c.early_stops-early.result.used })) c.open_chart-opening.result.state) (columns c.walk_on-counts.new.out_tempo_beats c.walk_on-counts.new.out_tempo_values c.walk_on-counts.new.out_stop_beats c.walk_on-counts.new.out_stop_values c.walk_on-counts.new.out_warp_beats c.walk_on-counts.new.out_warp_lengths) (columns c.write-so_far.new.tempo_beats c.write-so_far.new.tempo_values c.write-so_far.new.stop_beats c.write-so_far.new.stop_values c.write-so_far.new.warp_beats c.write-so_far.new.warp_lengths) c.walk_on-counts.ensures.rooms_value) (same-written none_counted (written_by c.open_chart-opening.result) (columns c.write-so_far.new.tempo_beats c.write-so_far.new.tempo_values c.write-so_far.new.stop_beats c.write-so_far.new.stop_values c.write-so_far.new.warp_beats c.write-so_far.new.warp_lengths) (columns c.args.out_tempo_beats.now c.args.out_tempo_values.now c.args.out_stop_beats.now c.args.out_stop_values.now c.args.out_warp_beats.now c.args.out_warp_lengths.now) c.write-so_far.ensures.rooms_value)).warp_lengths

pub returns : goal.returns
returns c =
    let given = whole c.args.tempo_beats.now c.args.tempo_values.now c.args.stop_beats.now c.args.stop_values.now c.requires.chart c.opening_tempo-opener.result c.opening_tempo-opener.ensures c.early_stops-early.result c.early_stops-early.ensures c.open_chart-opening.result c.open_chart-opening.ensures (columns c.args.out_tempo_beats.now c.args.out_tempo_values.now c.args.out_stop_beats.now c.args.out_stop_values.now c.args.out_warp_beats.now c.args.out_warp_lengths.now) c.requires.fact c.write-so_far.result c.walk_on-counts.result (columns c.write-so_far.new.tempo_beats c.write-so_far.new.tempo_values c.write-so_far.new.stop_beats c.write-so_far.new.stop_values c.write-so_far.new.warp_beats c.write-so_far.new.warp_lengths) (columns c.walk_on-counts.new.out_tempo_beats c.walk_on-counts.new.out_tempo_values c.walk_on-counts.new.out_stop_beats c.walk_on-counts.new.out_stop_values c.walk_on-counts.new.out_warp_beats c.walk_on-counts.new.out_warp_lengths) c.write-so_far.ensures.value c.write-so_far.ensures.rooms_value c.walk_on-counts.ensures.result_value c.walk_on-counts.ensures.rooms_value in
    record {
      result_value = given.0;
      rooms_value = given.1;
    }
