-- `note_sheet::snap_number` is `snap_number`. Assumes nothing.
use borrow.Author.Rules.{rules}
use Rattle.note_sheet.specs.Snap.{snap_number}
use Rattle.note_sheet.proofs.snap_number.Goals as goal

pub returns-in-Fourth : goal.returns-in-Fourth
unfolding snap_number
returns-in-Fourth c = search rules

pub returns-in-Eighth : goal.returns-in-Eighth
unfolding snap_number
returns-in-Eighth c = search rules

pub returns-in-Twelfth : goal.returns-in-Twelfth
unfolding snap_number
returns-in-Twelfth c = search rules

pub returns-in-Sixteenth : goal.returns-in-Sixteenth
unfolding snap_number
returns-in-Sixteenth c = search rules

pub returns-in-TwentyFourth : goal.returns-in-TwentyFourth
unfolding snap_number
returns-in-TwentyFourth c = search rules

pub returns-in-ThirtySecond : goal.returns-in-ThirtySecond
unfolding snap_number
returns-in-ThirtySecond c = search rules

pub returns-in-FortyEighth : goal.returns-in-FortyEighth
unfolding snap_number
returns-in-FortyEighth c = search rules

pub returns-in-SixtyFourth : goal.returns-in-SixtyFourth
unfolding snap_number
returns-in-SixtyFourth c = search rules

pub returns-in-OneNinetySecond : goal.returns-in-OneNinetySecond
unfolding snap_number
returns-in-OneNinetySecond c = search rules
