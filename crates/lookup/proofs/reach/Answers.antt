-- `lookup::reach` goes from the place of one row to that of another. Assumes nothing.
use Rattle.lookup_tests.proofs.RowsRise.{rises}
use Rattle.lookup.proofs.HeldPlaces.{same_place}
use Rattle.lookup.proofs.reach.Goals as goal

pub returns : goal.returns
returns c =
    let start = c in
    (start.requires.stands, same_place start.args.beats.now start.args.count start.args.from start.args.until start.requires.stands (rises start.args.beats.now start.requires.beats_value) start.args.key c.if-key-from.false c.if-key-until.false)
