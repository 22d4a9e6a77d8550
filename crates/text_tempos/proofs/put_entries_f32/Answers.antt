-- `text_tempos::put_entries_f32` meets its contract: a turn is an entry. Assumes nothing.
use Rattle.text_tempos.proofs.EntriesLeft.{entries-start, entries-turn, entries-end}
use Rattle.text_tempos.proofs.put_entries_f32.Goals as goal

pub loop-i-init : goal.loop-i-init
loop-i-init c = entries-start _ _ _

pub loop-i-preserved : goal.loop-i-preserved
loop-i-preserved c =
    entries-turn c.args.beats.now c.args.tempos.now c.requires c.loop-i.i c.loop-i.invariant c.loop-i-test.true c.put_entry-place.ensures

pub returns : goal.returns
returns c =
    entries-end c.args.beats.now c.args.tempos.now c.requires c.loop-i.i c.loop-i.invariant c.loop-i-test.false
