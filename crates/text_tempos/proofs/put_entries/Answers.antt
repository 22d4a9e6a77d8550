-- `text_tempos::put_entries` meets its contract: a turn is an entry. Assumes nothing.
use Rattle.text_tempos.proofs.EntriesLeft.{entries-start, narrowed-turn, narrowed-end}
use Rattle.text_tempos.proofs.put_entries.Goals as goal

pub loop-i-init : goal.loop-i-init
loop-i-init c = entries-start _ _ _

pub loop-i-preserved : goal.loop-i-preserved
loop-i-preserved c =
    narrowed-turn c.args.beats.now c.args.tempos.now c.requires c.loop-i.i c.loop-i.invariant c.loop-i-test.true
    (rw (c.narrow_f64.ensures, c.narrow_f64-in-loop-i.ensures) at c.put_entry-place.ensures)

pub shape_of-page : goal.shape_of-page
shape_of-page c = c.loop-i.invariant.size

pub returns : goal.returns
returns c =
    narrowed-end c.args.beats.now c.args.tempos.now c.requires c.loop-i.i c.loop-i.invariant c.loop-i-test.false
