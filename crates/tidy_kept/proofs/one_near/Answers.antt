-- `tidy_kept::one_near` is 1 where the next value is near. Assumes nothing.
use mathlib.Core.Path.{sym, ◌∙◌}
use Rattle.tidy_kept.proofs.one_near.Goals as goal

pub returns-then-near : goal.returns-then-near
returns-then-near c = rw (sym c.near.ensures ∙ c.if-near.true)

pub returns-else-near : goal.returns-else-near
returns-else-near c = rw (sym c.near.ensures ∙ c.if-near.false)
