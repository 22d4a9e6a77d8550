-- `report_text::put_speeds` meets its contract: a turn is a line. Assumes nothing.
use Rattle.report_text.proofs.Turns.{speeds-turn, speeds-all, speeds-end, speeds_no_ratio, speeds_no_wait, speeds_no_unit}
use Rattle.report_text.proofs.put_speeds.Goals as goal

pub returns-then-i-beats : goal.returns-then-i-beats
returns-then-i-beats c =
    let given = c.args in
    speeds-end given.count given.beats.now given.ratios.now given.delays.now given.units.now c.loop-i.i c.loop-i.invariant c.if-i-beats.true

pub returns-then-i-ratios : goal.returns-then-i-ratios
returns-then-i-ratios c =
    let given = c.args in
    speeds_no_ratio given.count given.beats.now given.ratios.now given.delays.now given.units.now c.loop-i.i c.loop-i.invariant c.if-i-ratios.true

pub returns-then-i-delays : goal.returns-then-i-delays
returns-then-i-delays c =
    let given = c.args in
    speeds_no_wait given.count given.beats.now given.ratios.now given.delays.now given.units.now c.loop-i.i c.loop-i.invariant c.if-i-delays.true

pub returns-then-i-units : goal.returns-then-i-units
returns-then-i-units c =
    let given = c.args in
    speeds_no_unit given.count given.beats.now given.ratios.now given.delays.now given.units.now c.loop-i.i c.loop-i.invariant c.if-i-units.true

pub loop-i-preserved : goal.loop-i-preserved
loop-i-preserved c =
    let given = c.args in
    speeds-turn given.count given.beats.now given.ratios.now given.delays.now given.units.now c.loop-i.i c.loop-i-test.true c.if-i-beats.false c.if-i-ratios.false c.if-i-delays.false c.if-i-units.false c.loop-i.invariant c.put_speed-place.ensures

pub returns : goal.returns
returns c =
    let given = c.args in
    speeds-all given.count given.beats.now given.ratios.now given.delays.now given.units.now c.loop-i.i c.loop-i.invariant c.loop-i-test.false
