-- A question with an end mark beside the cursor: strictly beyond the mark's row it is answered from the mark, on that row or before it the old way. Definitions only.
use Rattle.std.specs.Prelude.{ℕ, Bool, not, ◌&&◌, eqb, ℤ, Float}
use Rattle.std.specs.Int.Signed.{lt_z}
use Rattle.std.specs.Float.{binary64}
use Rattle.std.specs.Float.Ieee.{to_bits}
use Rattle.ieee.specs.Constants.{plus_zero}
use Rattle.picks.specs.Pick.{pick}
use Rattle.rows.specs.Rows.{row}
use Rattle.limits.specs.Table.{not_rising}
use Rattle.limits.specs.Refusals.{lower}
use Rattle.chart.specs.Timing.{Timing}
use Rattle.chart.specs.declared.State.{State}
use Rattle.clock_walk.specs.Events.{farthest}
use Rattle.clock_walk.specs.Walk.{walk}
use Rattle.clock_walk.specs.Soon.{quiet_at}
use Rattle.clock_walk.specs.EndMark.{end_mark}
use Rattle.clock_walk.specs.declared.Mark.{Mark}
use Rattle.clock_walk.specs.declared.Walked.{Walked}
use Rattle.clock_tests.specs.TimingNumbers.{timing_number, beat_number}
use Rattle.clock.specs.Question.{filled, fresh_state, beginning, answered, refused_with, player_number}
use Rattle.clock.specs.declared.Cursor.{Cursor}
use Rattle.clock.specs.declared.Answer.{Answer}
use Rattle.clock.specs.declared.MarkMade.{MarkMade}

-- ---- the mark

-- of a timing with its offsets
unfoldable pub mark_of : Timing → Float → Float → Mark
mark_of t offset global = end_mark (filled t) (fresh_state offset global)

-- a mark that serves no question: no row is beyond it
unfoldable pub no_mark : Mark
no_mark = record { state = fresh_state plus_zero plus_zero; row = farthest }

-- 1 to 5 as for the clock
unfoldable pub mark_made : Timing → Float → Float → MarkMade
mark_made t offset global =
    pick (eqb (timing_number t offset global) 0)
    (record { number = 0; mark = mark_of t offset global })
    (record { number = timing_number t offset global; mark = no_mark })

-- ---- whether a mark is the timing's own

-- by the bits, so that -0 is not +0
unfoldable pub same_bits : Float → Float → Bool
same_bits one other = eqb (to_bits binary64 one) (to_bits binary64 other)

unfoldable pub same_row : ℤ → ℤ → Bool
same_row one other = not (lt_z one other) && not (lt_z other one)

unfoldable pub same_places : State → State → Bool
same_places one other =
    eqb one.tempos other.tempos && eqb one.stops other.stops && eqb one.delays other.delays && eqb one.warps other.warps

unfoldable pub same_warp : State → State → Bool
same_warp one other = pick one.warping other.warping (not other.warping) && same_bits one.end other.end

-- in every field
unfoldable pub same_mark : Mark → Mark → Bool
same_mark one other =
    same_row one.row other.row
    && same_places one.state other.state
    && same_row one.state.row other.state.row
    && same_bits one.state.time other.state.time
    && same_warp one.state other.state

-- the timing's own number, and behind it 5 where the mark isn't that of the lists and offsets given with it
unfoldable pub marked_timing_number : Mark → Timing → Float → Float → ℕ
marked_timing_number m t offset global =
    pick (eqb (timing_number t offset global) 0) (pick (same_mark m (mark_of t offset global)) 0 not_rising) (timing_number t offset global)

-- ---- the answer

-- from the mark: no event is passed, and the mark's state is the state after it
abbrev pub from_mark : Mark → Timing → ℤ → Walked
from_mark m t asked = record { state = m.state; passed = 0; time = quiet_at (filled t).tempo_values m.state asked }

unfoldable pub marked_walk : Mark → Timing → Cursor → ℤ → Float → Float → Walked
marked_walk m t c asked offset global = pick (lt_z m.row asked) (from_mark m t asked) (walk (filled t) asked (beginning c asked offset global))

-- the answer of a question that its tests took
unfoldable pub marked_reply : Mark → Timing → Cursor → Float → Float → Float → Answer
marked_reply m t c offset global beat = answered global (row binary64 beat) (marked_walk m t c (row binary64 beat) offset global)

abbrev pub marked_by_number : ℕ → Mark → Timing → Cursor → Float → Float → Float → Answer
marked_by_number number m t c offset global beat = pick (eqb number 0) (marked_reply m t c offset global beat) (refused_with number c)

-- ---- the questions, each with the tests of its unmarked twin; only the one that tests all tests the mark

unfoldable pub marked_asking : Mark → Timing → Cursor → Float → Float → Float → Answer
marked_asking m t c offset global beat = marked_by_number (beat_number beat) m t c offset global beat

unfoldable pub marked_player_question : Mark → Timing → Cursor → Float → Float → Float → Answer
marked_player_question m t c offset global beat = marked_by_number (player_number t c beat) m t c offset global beat

unfoldable pub marked_question_number : Mark → Timing → Cursor → Float → Float → Float → ℕ
marked_question_number m t c offset global beat = lower (marked_timing_number m t offset global) (player_number t c beat)

unfoldable pub marked_question : Mark → Timing → Cursor → Float → Float → Float → Answer
marked_question m t c offset global beat = marked_by_number (marked_question_number m t c offset global beat) m t c offset global beat
