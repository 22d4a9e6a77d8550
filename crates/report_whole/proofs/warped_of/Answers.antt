-- `report_whole::warped_of` meets its contract. Assumes nothing.
use borrow.Author.Rules.{rules}
use Rattle.report_whole.proofs.warped_of.Goals as goal

pub returns : goal.returns
returns c = cc
