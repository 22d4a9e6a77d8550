-- `mend_fates::put_fate` writes at a place; past the end nothing changes. Assumes nothing.
use mathlib.Core.Path.{sym}
use lib.Seq.{set_out}
use borrow.Author.Rules.{rules}
use Rattle.mend_fates.proofs.put_fate.Goals as goal

pub returns-else-place-fates : goal.returns-else-place-fates
returns-else-place-fates c = let given = c.args in sym (set_out given.fates.now given.place given.fate c.if-place-fates.false)
