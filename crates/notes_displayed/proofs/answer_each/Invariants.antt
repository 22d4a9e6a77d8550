-- `notes_displayed::answer_each` answers each beat by its count, over the fronts of both columns. Assumes nothing.
use Rattle.std.proofs.Common.{◌≡◌, ℕ, ◌≤◌, length, get_or}
use lib.Ieee.{Float}
use Rattle.columns.proofs.LaidEach.{LayingEach}
use Rattle.notes_displayed.specs.Answers.{checked_at}
use Rattle.notes_displayed.proofs.answer_each.Given as goal

abbrev pub invariant-loop-i : goal.invariant-loop-i
invariant-loop-i l = LayingEach (λ (beat : Float). (checked_at l.scroll_beats l.scroll_ratios l.prefix beat).number) l.beats l.initial.numbers (length l.beats) l.numbers l.i
    × LayingEach (λ (beat : Float). (checked_at l.scroll_beats l.scroll_ratios l.prefix beat).beat) l.beats l.initial.positions (length l.beats) l.positions l.i
    × ((j : ℕ) → l.i ≤ j → get_or l.numbers j 0 ≡ get_or l.initial.numbers j 0)
