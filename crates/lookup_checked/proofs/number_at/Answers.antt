-- `lookup_checked::number_at` is the number at a place, or a NaN. Assumes nothing.
use mathlib.Core.Path.{sym}
use lib.ListN.{get_or-eq_default}
use lib.Ieee.{nan, div, of_bits}
use borrow.Author.Rules.{rules}
use Rattle.lookup_checked.proofs.number_at.Goals as goal

pub returns : goal.returns
unfolding div of_bits
returns c = sym (get_or-eq_default c.args.column.now nan c.if-place-column.false)
