-- `mend_text::put_fates` meets its contract: a turn is a line. Assumes nothing.
use lib.ListN.{drop}
use Rattle.text_page.proofs.Joined.{Left}
use Rattle.mend_text.specs.MendedText.{fate_lines}
use Rattle.mend_text.proofs.put_fates.Given as goal

abbrev pub invariant-loop-i : goal.invariant-loop-i
invariant-loop-i l = Left (fate_lines 0 l.fates) (fate_lines l.i (drop l.i l.fates)) l.at l.place l.initial.page l.page
