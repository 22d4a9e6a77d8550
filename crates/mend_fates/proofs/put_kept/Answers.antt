-- `mend_fates::put_kept` writes a place where there is one free; past the end nothing changes. Assumes nothing.
use mathlib.Core.Path.{sym}
use lib.Seq.{set_out}
use borrow.Author.Rules.{rules}
use borrow.Author.Tests.{lt-ltb, le-ltb}
use Rattle.picks.proofs.Rules.{picks}
use Rattle.mend_fates.proofs.put_kept.Goals as goal

pub returns-then-count-kept : goal.returns-then-count-kept
returns-then-count-kept c = search picks

pub returns : goal.returns
returns c = search (picks, set_out)
