-- `assembly::others_number` tests each list by itself. Assumes nothing.
use mathlib.Core.Path.{◌∙◌}
use borrow.Author.Rules.{rules}
use Rattle.assembly.proofs.others_number.Goals as goal

pub returns : goal.returns
returns c = c.lower_of-3.ensures ∙ rw (c.lower_of-2.ensures, c.lower_of.ensures, c.list_number-delays.ensures, c.speed_list_number-speeds.ensures, c.list_number-scrolls.ensures, c.list_number-fakes.ensures)
