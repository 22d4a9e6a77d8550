-- `report_text::put_pairs` meets its contract: a turn is a line. Assumes nothing.
use lib.ListN.{take, drop}
use Rattle.report_text.specs.Output.{pair_lines}
use Rattle.text_page.proofs.Joined.{Left}
use Rattle.report_text.proofs.put_pairs.Given as goal

abbrev pub invariant-loop-i : goal.invariant-loop-i
invariant-loop-i l = Left (pair_lines l.word (take l.count l.beats) (take l.count l.values)) (pair_lines l.word (drop l.i (take l.count l.beats)) (drop l.i (take l.count l.values))) l.at l.place l.initial.page l.page
