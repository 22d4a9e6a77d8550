-- `notes_displayed::walk_to` passes the scrolls up to the beat, and draws it by the last. Assumes nothing.
use Rattle.notes_displayed.proofs.WalkedTo.{Walking}
use Rattle.notes_displayed.proofs.walk_to.Given as goal

abbrev pub invariant-loop-i : goal.invariant-loop-i
invariant-loop-i l = Walking l.beat l.scroll_beats l.scroll_ratios l.shown l.from l.ratio l.i
