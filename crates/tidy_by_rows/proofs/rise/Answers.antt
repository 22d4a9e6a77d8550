-- `tidy_by_rows::rise` compares rows where all beats are allowed. Assumes nothing.
use mathlib.Core.Path.{sym, ◌∙◌}
use Rattle.tidy_by_rows.proofs.rise.Goals as goal

pub allowed_rise-requires : goal.allowed_rise-requires
allowed_rise-requires c = sym c.column_taken.ensures ∙ c.if-column_taken.true

pub returns-then-column_taken : goal.returns-then-column_taken
returns-then-column_taken c = rw (sym c.column_taken.ensures ∙ c.if-column_taken.true) c.allowed_rise.ensures

pub returns : goal.returns
returns c = rw (sym c.column_taken.ensures ∙ c.if-column_taken.false)
