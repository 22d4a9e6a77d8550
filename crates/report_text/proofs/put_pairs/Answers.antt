-- `report_text::put_pairs` meets its contract: a turn is a line. Assumes nothing.
use Rattle.report_text.proofs.Turns.{pairs-turn, pairs-all, pairs_end, pairs-short}
use Rattle.report_text.proofs.put_pairs.Goals as goal

pub returns-then-i-beats : goal.returns-then-i-beats
returns-then-i-beats c =
    let given = c.args in
    pairs_end given.word.now given.count given.beats.now given.values.now c.loop-i.i c.loop-i.invariant c.if-i-beats.true

pub returns-then-i-values : goal.returns-then-i-values
returns-then-i-values c =
    let given = c.args in
    pairs-short given.word.now given.count given.beats.now given.values.now c.loop-i.i c.loop-i.invariant c.if-i-values.true

pub loop-i-preserved : goal.loop-i-preserved
loop-i-preserved c =
    let given = c.args in
    pairs-turn given.word.now given.count given.beats.now given.values.now c.loop-i.i c.loop-i-test.true c.if-i-beats.false c.if-i-values.false c.loop-i.invariant c.put_pair-place.ensures

pub returns : goal.returns
returns c =
    let given = c.args in
    pairs-all given.word.now given.count given.beats.now given.values.now c.loop-i.i c.loop-i.invariant c.loop-i-test.false
