-- `note_sheet::rows_order_number` is `rows_order_number`. Assumes nothing.
use mathlib.Core.Path.{sym, ◌∙◌}
use Rattle.note_sheet.specs.Sheet.{rows_order_number}
use Rattle.note_sheet.proofs.rows_order_number.Goals as goal

pub returns-then-rows_rise : goal.returns-then-rows_rise
unfolding rows_order_number
returns-then-rows_rise c = rw (sym c.rows_rise.ensures ∙ c.if-rows_rise.true)

pub returns : goal.returns
unfolding rows_order_number
returns c = rw (sym c.rows_rise.ensures ∙ c.if-rows_rise.false)
