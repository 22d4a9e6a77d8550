-- `mend_text::put_scrolls` meets its contract: a turn is a line. Assumes nothing.
use mathlib.Core.List.{map}
use lib.ListN.{drop}
use Rattle.order.specs.Entries.{entries}
use Rattle.text_page.proofs.Joined.{Left}
use Rattle.report_form.specs.Text.{entry_lines}
use Rattle.mend_text.specs.MendedText.{form_scroll}
use Rattle.mend_text.proofs.put_scrolls.Given as goal

abbrev pub invariant-loop-i : goal.invariant-loop-i
invariant-loop-i l = Left (entry_lines (map form_scroll (entries l.beats l.values))) (entry_lines (map form_scroll (drop l.i (entries l.beats l.values)))) l.at l.place l.initial.page l.page
