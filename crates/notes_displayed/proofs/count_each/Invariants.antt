-- `notes_displayed::count_each` lays the counts of all beats. Assumes nothing.
use Rattle.std.proofs.Common.{length}
use lib.Ieee.{Float}
use Rattle.columns.proofs.LaidEach.{LayingEach}
use Rattle.notes_displayed.specs.Scrolls.{found_up_to}
use Rattle.notes_displayed.proofs.count_each.Given as goal

abbrev pub invariant-loop-i : goal.invariant-loop-i
invariant-loop-i l = LayingEach (λ (beat : Float). found_up_to beat l.scroll_beats) l.beats l.initial.numbers (length l.beats) l.numbers l.i
