-- `report_text::put_warps` meets its contract: a turn is a line. Assumes nothing.
use Rattle.report_text.proofs.Turns.{warps-turn, warps-all, warps-end, warps_no_size, warps_no_mark}
use Rattle.report_text.proofs.put_warps.Goals as goal

pub returns-then-i-beats : goal.returns-then-i-beats
returns-then-i-beats c =
    let given = c.args in
    warps-end given.count given.beats.now given.lengths.now given.marks.now c.loop-i.i c.loop-i.invariant c.if-i-beats.true

pub returns-then-i-lengths : goal.returns-then-i-lengths
returns-then-i-lengths c =
    let given = c.args in
    warps_no_size given.count given.beats.now given.lengths.now given.marks.now c.loop-i.i c.loop-i.invariant c.if-i-lengths.true

pub returns-then-i-marks : goal.returns-then-i-marks
returns-then-i-marks c =
    let given = c.args in
    warps_no_mark given.count given.beats.now given.lengths.now given.marks.now c.loop-i.i c.loop-i.invariant c.if-i-marks.true

pub loop-i-preserved : goal.loop-i-preserved
loop-i-preserved c =
    let given = c.args in
    warps-turn given.count given.beats.now given.lengths.now given.marks.now c.loop-i.i c.loop-i-test.true c.if-i-beats.false c.if-i-lengths.false c.if-i-marks.false c.loop-i.invariant c.put_warp-place.ensures

pub returns : goal.returns
returns c =
    let given = c.args in
    warps-all given.count given.beats.now given.lengths.now given.marks.now c.loop-i.i c.loop-i.invariant c.loop-i-test.false
