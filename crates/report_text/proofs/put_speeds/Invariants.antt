-- `report_text::put_speeds` meets its contract: a turn is a line. Assumes nothing.
use lib.ListN.{take, drop}
use Rattle.report_text.specs.Output.{speed_lines}
use Rattle.text_page.proofs.Joined.{Left}
use Rattle.report_text.proofs.put_speeds.Given as goal

abbrev pub invariant-loop-i : goal.invariant-loop-i
invariant-loop-i l = Left (speed_lines (take l.count l.beats) (take l.count l.ratios) (take l.count l.delays) (take l.count l.units))
    (speed_lines (drop l.i (take l.count l.beats)) (drop l.i (take l.count l.ratios)) (drop l.i (take l.count l.delays)) (drop l.i (take l.count l.units))) l.at l.place l.initial.page l.page
