-- `mend_text::put_speeds` meets its contract: a turn is a line. Assumes nothing.
use mathlib.Core.List.{map}
use lib.ListN.{drop}
use Rattle.tidy_speeds_entries.specs.Speed.{speed_entries}
use Rattle.text_page.proofs.Joined.{Left}
use Rattle.report_form.specs.Text.{entry_lines}
use Rattle.mend_text.specs.MendedText.{form_speed}
use Rattle.mend_text.proofs.put_speeds.Given as goal

abbrev pub invariant-loop-i : goal.invariant-loop-i
invariant-loop-i l = Left (entry_lines (map form_speed (speed_entries l.beats l.ratios l.delays l.units))) (entry_lines (map form_speed (drop l.i (speed_entries l.beats l.ratios l.delays l.units)))) l.at l.place l.initial.page l.page
