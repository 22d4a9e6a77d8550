-- `columns::lay_each` writes what is made of each entry, as far as both columns go. Assumes nothing.
use Rattle.std.proofs.Common.{◌∙◌, ap}
use Rattle.columns.proofs.LaidEach.{begun, turned, ended}
use Rattle.columns.proofs.lay_each.Goals as goal

pub loop-i-init : goal.loop-i-init
loop-i-init g c = begun c.room_of-n.ensures

pub loop-i-preserved : goal.loop-i-preserved
loop-i-preserved g c = turned c.loop-i.invariant c.index-from-i.result c.loop-i-test.true (c.made.ensures ∙ ap (g.M.Each.made c.args.each) c.index-from-i.is)

pub returns : goal.returns
returns g c = ended c.loop-i.invariant c.loop-i-test.false
