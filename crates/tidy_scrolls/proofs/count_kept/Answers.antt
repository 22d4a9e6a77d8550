-- `tidy_scrolls::count_kept` counts what the pass would write. Assumes nothing.
use Rattle.tidy_scrolls.proofs.Turns.{turn-writes, turn-waits, ends_waiting, ends}
use Rattle.tidy_scrolls.specs.inside.Ways.{scroll_waiting}
use lib.ListN.{length}
use native.Mathlib.Omega.{arith}
use mathlib.Core.Path.{ap}
use Rattle.tidy_scrolls.proofs.count_kept.Goals as goal
use Rattle.tidy_scrolls.proofs.count_kept.Goals.{then-writes, else-writes}

pub loop-i-preserved : goal.loop-i-preserved
loop-i-preserved c =
    let beats = c.args.beats.now in
    let values = c.args.values.now in
    let i = c.loop-i.i in
    let s = scroll_waiting c.loop-i.held in
    let next = scroll_waiting c.pass-next.result in
    elim c.if-writes.branch [
      | then-writes w ↦
          let turn = turn-writes beats values c.requires s next i (omega arith) c.pass-next.ensures c.row_key-row.result c.row_key-row.ensures c.writes.result c.writes.ensures w.if-writes.true in
          rw w.held-is (omega arith, omega (arith, ap length turn, c.loop-i.invariant.1))
      | else-writes w ↦
          let turn = turn-waits beats values c.requires s next i (omega arith) c.pass-next.ensures c.row_key-row.result c.row_key-row.ensures c.writes.result c.writes.ensures w.if-writes.false in
          rw w.held-is (omega arith, omega (arith, ap length turn, c.loop-i.invariant.1))
    ]

pub returns-then-held : goal.returns-then-held
returns-then-held c = omega (arith, ap length (ends_waiting c.args.beats.now c.args.values.now c.requires (scroll_waiting c.loop-i.held) c.loop-i.i (omega arith) c.if-held.true), c.loop-i.invariant.1)

pub returns : goal.returns
returns c = omega (arith, ap length (ends c.args.beats.now c.args.values.now c.requires (scroll_waiting c.loop-i.held) c.loop-i.i (omega arith) c.if-held.false), c.loop-i.invariant.1)
