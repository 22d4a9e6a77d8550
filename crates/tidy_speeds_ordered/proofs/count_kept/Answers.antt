-- `tidy_speeds_ordered::count_kept` counts what the pass would write. Assumes nothing.
use mathlib.Core.Path.{ap}
use native.Mathlib.Omega.{arith}
use lib.ListN.{length}
use Rattle.tidy_speeds_entries.specs.Speed.{speed_value_of}
use Rattle.tidy_speeds_ordered.specs.inside.Waiting.{speed_waiting}
use Rattle.tidy_speeds_ordered.proofs.Turns.{speed-writes, speed-waits, ends_waiting, ends}
use Rattle.tidy_speeds_ordered.proofs.count_kept.Goals as goal
use Rattle.tidy_speeds_ordered.proofs.count_kept.Goals.{then-writes, else-writes}

pub loop-i-preserved : goal.loop-i-preserved
loop-i-preserved c =
    let beats = c.args.beats.now in
    let ratios = c.args.ratios.now in
    let delays = c.args.delays.now in
    let units = c.args.units.now in
    let i = c.loop-i.i in
    let s = speed_waiting c.loop-i.held in
    let more = c.loop-i-test.true in
    let next = speed_waiting c.pass-next.result in
    let row = c.row_key-row in
    elim c.if-writes.branch [
      | then-writes w ↦
          let turn = speed-writes beats ratios delays units c.args.n c.requires s next i more (speed_value_of c.speed_at.result) c.speed_at.ensures c.pass-next.ensures row.result row.ensures c.writes.result c.writes.ensures w.if-writes.true in
          (omega (arith, c.loop-i.invariant.0), omega (arith, ap length turn, c.loop-i.invariant.1))
      | else-writes w ↦
          let turn = speed-waits beats ratios delays units c.args.n c.requires s next i more (speed_value_of c.speed_at.result) c.speed_at.ensures c.pass-next.ensures row.result row.ensures c.writes.result c.writes.ensures w.if-writes.false in
          (omega (arith, c.loop-i.invariant.0), omega (arith, ap length turn, c.loop-i.invariant.1))
    ]

pub returns-then-held : goal.returns-then-held
returns-then-held c =
    let beats = c.args.beats.now in
    let ratios = c.args.ratios.now in
    let delays = c.args.delays.now in
    let units = c.args.units.now in
    let i = c.loop-i.i in
    let s = speed_waiting c.loop-i.held in
    omega (arith, ap length (ends_waiting beats ratios delays units c.args.n c.requires s i c.loop-i-test.false c.if-held.true), c.loop-i.invariant.1)

pub returns : goal.returns
returns c =
    let beats = c.args.beats.now in
    let ratios = c.args.ratios.now in
    let delays = c.args.delays.now in
    let units = c.args.units.now in
    let i = c.loop-i.i in
    let s = speed_waiting c.loop-i.held in
    omega (arith, ap length (ends beats ratios delays units c.args.n c.requires s i c.loop-i-test.false c.if-held.false), c.loop-i.invariant.1)
