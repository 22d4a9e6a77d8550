-- `notes_displayed::lay_prefix` lays the prefix, entry by entry. Assumes nothing.
use Rattle.std.proofs.Common.{drop}
use Rattle.order.proofs.LaidOverFront.{Laying}
use Rattle.notes_displayed.specs.Scrolls.{prefix_from, scroll_prefix}
use Rattle.notes_displayed.proofs.lay_prefix.Given as goal

abbrev pub invariant-loop-i : goal.invariant-loop-i
invariant-loop-i l = Laying (scroll_prefix l.scroll_beats l.scroll_ratios) l.initial.prefix l.prefix (prefix_from l.shown l.from l.ratio (drop l.i l.scroll_beats) (drop l.i l.scroll_ratios)) l.i
