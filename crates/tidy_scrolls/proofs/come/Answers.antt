-- `tidy_scrolls::come` meets its contract. Assumes nothing.
use mathlib.Core.Path.{sym, ◌∙◌}
use Rattle.tidy_scrolls.proofs.come.Goals as goal

pub returns-then-near : goal.returns-then-near
returns-then-near c = rw (sym c.near.ensures ∙ c.if-near.true)

pub returns : goal.returns
returns c = rw (sym c.near.ensures ∙ c.if-near.false, c.requires)
