-- `tidy_speeds_ordered::lay_kept` lays what the pass writes. Assumes nothing.
use Prim.Native.Nat.{◌+◌}
use mathlib.Core.Path.{refl}
use mathlib.Core.List.{[]}
use native.Mathlib.Omega.{arith}
use lib.ListN.{drop}
use Rattle.rows.specs.RowKey.{row_key_at}
use Rattle.tidy_kept.specs.Passing.{still_written}
use Rattle.tidy_speeds_entries.specs.Speed.{speed_value_of, near_speed, speed_entries}
use Rattle.tidy_speeds_ordered.specs.inside.Waiting.{speed_waiting}
use Rattle.tidy_speeds_ordered.specs.OrderedSpeeds.{kept_speeds}
use Rattle.tidy_speeds_ordered.proofs.Turns.{speed-writes, speed-waits, ends_waiting, ends}
use Rattle.tidy_speeds_entries.proofs.SpeedsLaid.{speeds-same, speeds-room, speeds-more, speeds-count, speeds-all}
use Rattle.tidy_speeds_ordered.proofs.lay_kept.Goals as goal
use Rattle.tidy_speeds_ordered.proofs.lay_kept.Goals.{then-writes, else-writes}

pub write_speed-requires : goal.write_speed-requires
write_speed-requires c =
    let beats = c.args.beats.now in
    let ratios = c.args.ratios.now in
    let delays = c.args.delays.now in
    let units = c.args.units.now in
    let i = c.loop-i.i in
    let s = speed_waiting c.loop-i.held in
    let more = c.loop-i-test.true in
    let whole = kept_speeds (speed_entries beats ratios delays units) in
    let left = still_written row_key_at near_speed s (drop i (speed_entries beats ratios delays units)) in
    let next = speed_waiting c.pass-next.result in
    let turn = speed-writes beats ratios delays units c.args.n c.requires.n_value s next i (omega (arith, more)) (speed_value_of c.speed_at.result) c.speed_at.ensures c.pass-next.ensures c.row_key-row.result c.row_key-row.ensures c.writes.result c.writes.ensures c.if-writes.true in
    speeds-room whole left c.args.out_beats.now c.loop-i.out_beats c.args.out_ratios.now c.loop-i.out_ratios c.args.out_delays.now c.loop-i.out_delays c.args.out_units.now c.loop-i.out_units c.loop-i.count c.loop-i.invariant.1 (s.beat, s.value) (still_written row_key_at near_speed next (drop (i + 1) (speed_entries beats ratios delays units))) turn c.requires.kept_bound

pub loop-i-preserved : goal.loop-i-preserved
loop-i-preserved c =
    let beats = c.args.beats.now in
    let ratios = c.args.ratios.now in
    let delays = c.args.delays.now in
    let units = c.args.units.now in
    let i = c.loop-i.i in
    let s = speed_waiting c.loop-i.held in
    let more = c.loop-i-test.true in
    let whole = kept_speeds (speed_entries beats ratios delays units) in
    let left = still_written row_key_at near_speed s (drop i (speed_entries beats ratios delays units)) in
    let next = speed_waiting c.pass-next.result in
    let less = still_written row_key_at near_speed next (drop (i + 1) (speed_entries beats ratios delays units)) in
    let row = c.row_key-row in
    elim c.if-writes.branch [
      | then-writes w ↦
          let turn = speed-writes beats ratios delays units c.args.n c.requires.n_value s next i more (speed_value_of c.speed_at.result) c.speed_at.ensures c.pass-next.ensures row.result row.ensures c.writes.result c.writes.ensures w.if-writes.true in
          let room = speeds-room whole left c.args.out_beats.now c.loop-i.out_beats c.args.out_ratios.now c.loop-i.out_ratios c.args.out_delays.now c.loop-i.out_delays c.args.out_units.now c.loop-i.out_units c.loop-i.count c.loop-i.invariant.1 (s.beat, s.value) less turn c.requires.kept_bound in
          rw (w.count-is, w.out_beats-is, w.out_ratios-is, w.out_delays-is, w.out_units-is)
          (omega (arith, c.loop-i.invariant.0), speeds-more whole left c.args.out_beats.now c.loop-i.out_beats c.args.out_ratios.now c.loop-i.out_ratios c.args.out_delays.now c.loop-i.out_delays c.args.out_units.now c.loop-i.out_units c.loop-i.count c.loop-i.invariant.1 (s.beat, s.value) less turn _ _ _ _ room w.write_speed.ensures.out_beats_after w.write_speed.ensures.out_ratios_after w.write_speed.ensures.out_delays_after w.write_speed.ensures.out_units_after)
      | else-writes w ↦
          let turn = speed-waits beats ratios delays units c.args.n c.requires.n_value s next i more (speed_value_of c.speed_at.result) c.speed_at.ensures c.pass-next.ensures row.result row.ensures c.writes.result c.writes.ensures w.if-writes.false in
          rw (w.count-is, w.out_beats-is, w.out_ratios-is, w.out_delays-is, w.out_units-is)
          (omega (arith, c.loop-i.invariant.0), speeds-same whole left c.args.out_beats.now c.loop-i.out_beats c.args.out_ratios.now c.loop-i.out_ratios c.args.out_delays.now c.loop-i.out_delays c.args.out_units.now c.loop-i.out_units c.loop-i.count c.loop-i.invariant.1 less turn)
    ]

pub write_speed-requires-then-held : goal.write_speed-requires-then-held
write_speed-requires-then-held c =
    let beats = c.args.beats.now in
    let ratios = c.args.ratios.now in
    let delays = c.args.delays.now in
    let units = c.args.units.now in
    let i = c.loop-i.i in
    let s = speed_waiting c.loop-i.held in
    let whole = kept_speeds (speed_entries beats ratios delays units) in
    let left = still_written row_key_at near_speed s (drop i (speed_entries beats ratios delays units)) in
    let turn = ends_waiting beats ratios delays units c.args.n c.requires.n_value s i c.loop-i-test.false c.if-held.true in
    speeds-room whole left c.args.out_beats.now c.loop-i.out_beats c.args.out_ratios.now c.loop-i.out_ratios c.args.out_delays.now c.loop-i.out_delays c.args.out_units.now c.loop-i.out_units c.loop-i.count c.loop-i.invariant.1 (s.beat, s.value) [] turn c.requires.kept_bound

pub returns-then-held : goal.returns-then-held
returns-then-held c =
    let beats = c.args.beats.now in
    let ratios = c.args.ratios.now in
    let delays = c.args.delays.now in
    let units = c.args.units.now in
    let i = c.loop-i.i in
    let s = speed_waiting c.loop-i.held in
    let whole = kept_speeds (speed_entries beats ratios delays units) in
    let left = still_written row_key_at near_speed s (drop i (speed_entries beats ratios delays units)) in
    let turn = ends_waiting beats ratios delays units c.args.n c.requires.n_value s i c.loop-i-test.false c.if-held.true in
    let done = speeds-more whole left c.args.out_beats.now c.loop-i.out_beats c.args.out_ratios.now c.loop-i.out_ratios c.args.out_delays.now c.loop-i.out_delays c.args.out_units.now c.loop-i.out_units c.loop-i.count c.loop-i.invariant.1 (s.beat, s.value) [] turn _ _ _ _ (speeds-room whole left c.args.out_beats.now c.loop-i.out_beats c.args.out_ratios.now c.loop-i.out_ratios c.args.out_delays.now c.loop-i.out_delays c.args.out_units.now c.loop-i.out_units c.loop-i.count c.loop-i.invariant.1 (s.beat, s.value) [] turn c.requires.kept_bound) c.write_speed-then-held.ensures.out_beats_after c.write_speed-then-held.ensures.out_ratios_after c.write_speed-then-held.ensures.out_delays_after c.write_speed-then-held.ensures.out_units_after in
    record {
      value = speeds-count whole [] c.args.out_beats.now _ c.args.out_ratios.now _ c.args.out_delays.now _ c.args.out_units.now _ (c.loop-i.count + 1) done refl;
      fact = speeds-all whole [] c.args.out_beats.now _ c.args.out_ratios.now _ c.args.out_delays.now _ c.args.out_units.now _ (c.loop-i.count + 1) done refl;
    }

pub returns : goal.returns
returns c =
    let beats = c.args.beats.now in
    let ratios = c.args.ratios.now in
    let delays = c.args.delays.now in
    let units = c.args.units.now in
    let i = c.loop-i.i in
    let s = speed_waiting c.loop-i.held in
    let whole = kept_speeds (speed_entries beats ratios delays units) in
    let left = still_written row_key_at near_speed s (drop i (speed_entries beats ratios delays units)) in
    let turn = ends beats ratios delays units c.args.n c.requires.n_value s i c.loop-i-test.false c.if-held.false in
    record {
      value = speeds-count whole left c.args.out_beats.now c.loop-i.out_beats c.args.out_ratios.now c.loop-i.out_ratios c.args.out_delays.now c.loop-i.out_delays c.args.out_units.now c.loop-i.out_units c.loop-i.count c.loop-i.invariant.1 turn;
      fact = speeds-all whole left c.args.out_beats.now c.loop-i.out_beats c.args.out_ratios.now c.loop-i.out_ratios c.args.out_delays.now c.loop-i.out_delays c.args.out_units.now c.loop-i.out_units c.loop-i.count c.loop-i.invariant.1 turn;
    }
