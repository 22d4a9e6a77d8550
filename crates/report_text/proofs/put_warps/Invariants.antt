-- `report_text::put_warps` meets its contract: a turn is a line. Assumes nothing.
use lib.ListN.{take, drop}
use Rattle.report_text.specs.Output.{warp_lines}
use Rattle.text_page.proofs.Joined.{Left}
use Rattle.report_text.proofs.put_warps.Given as goal

abbrev pub invariant-loop-i : goal.invariant-loop-i
invariant-loop-i l = Left (warp_lines (take l.count l.beats) (take l.count l.lengths) (take l.count l.marks))
    (warp_lines (drop l.i (take l.count l.beats)) (drop l.i (take l.count l.lengths)) (drop l.i (take l.count l.marks))) l.at l.place l.initial.page l.page
