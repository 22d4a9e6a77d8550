-- `mend_text::put_fates` meets its contract: a turn is a line. Assumes nothing.
use Rattle.mend_text.proofs.LinesLeft.{fates-turn, fates-end}
use Rattle.mend_text.proofs.put_fates.Goals as goal

pub loop-i-preserved : goal.loop-i-preserved
loop-i-preserved c =
    let put = c in
    let at = put in
    fates-turn at.args.fates.now at.loop-i.i at.loop-i.invariant put.loop-i-test.true put.put_fate-place.ensures

pub returns : goal.returns
returns c = let at = c in fates-end at.args.fates.now at.loop-i.i at.loop-i.invariant c.loop-i-test.false
