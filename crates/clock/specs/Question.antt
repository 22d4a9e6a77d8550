-- A question to a cursor: its number, its answer, and the cursor after it. Definitions only.
use Rattle.std.specs.Prelude.{ℕ, ◌+◌, List, [], ◌∷◌, false, length, eqb, ℤ, pos, Float}
use Rattle.std.specs.Int.Signed.{lt_z}
use Rattle.std.specs.Float.{binary64}
use Rattle.std.specs.Float.Ieee.{sub, neg}
use Rattle.ieee.specs.Constants.{plus_zero, sixty}
use Rattle.picks.specs.Pick.{pick}
use Rattle.rows.specs.Rows.{row}
use Rattle.limits.specs.Refusals.{lower}
use Rattle.chart.specs.Timing.{Timing}
use Rattle.clock_walk.specs.Walk.{walk}
use Rattle.chart.specs.declared.State.{State}
use Rattle.clock_walk.specs.declared.Walked.{Walked}
use Rattle.clock_tests.specs.TimingNumbers.{offsets_number, timing_number, beat_number}
use Rattle.clock_tests.specs.CursorNumbers.{fresh_mark, cursor_number}
use Rattle.clock.specs.declared.Cursor.{Cursor}
use Rattle.clock.specs.declared.Answer.{Answer}
use Rattle.clock.specs.declared.Made.{Made}

-- a timing without a tempo has the one of 60 at beat 0
unfoldable pub filled : Timing → Timing
filled t =
    pick (eqb (length t.tempo_beats) 0)
    (record {
      tempo_beats = plus_zero ∷ [];
      tempo_values = sixty ∷ [];
      stop_beats = t.stop_beats;
      stop_values = t.stop_values;
      delay_beats = t.delay_beats;
      delay_values = t.delay_values;
      warp_beats = t.warp_beats;
      warp_lengths = t.warp_lengths;
    })
    t

-- how many tempos a timing has, with that one
unfoldable pub tempos_of : Timing → ℕ
tempos_of t = pick (eqb (length t.tempo_beats) 0) 1 (length t.tempo_beats)

-- ---- a fresh cursor

-- zeros, and the time less both offsets
unfoldable pub fresh_state : Float → Float → State
fresh_state offset global = record {
  tempos = 0;
  stops = 0;
  delays = 0;
  warps = 0;
  row = pos 0;
  time = sub binary64 (neg offset) global;
  end = plus_zero;
  warping = false;
}

unfoldable pub fresh_cursor : Float → Float → Cursor
fresh_cursor offset global = record { state = fresh_state offset global; asked = fresh_mark }

-- offsets beyond their limit are refused, and the cursor is then that of offsets of 0
unfoldable pub made : Float → Float → Made
made offset global =
    pick (eqb (offsets_number offset global) 0)
    (record { number = 0; cursor = fresh_cursor offset global })
    (record { number = offsets_number offset global; cursor = fresh_cursor plus_zero plus_zero })

-- ---- the answer

-- the walk begins at the cursor's state, and at the fresh one where the asked row fell
unfoldable pub beginning : Cursor → ℤ → Float → Float → State
beginning c asked offset global = pick (lt_z asked c.asked) (fresh_state offset global) c.state

-- The time has the global offset taken off again, the count is the events passed and one, and the cursor keeps the state after the last event passed.
abbrev pub answered : Float → ℤ → Walked → Answer
answered global asked w = record {
  number = 0;
  time = sub binary64 w.time global;
  count = w.passed + 1;
  cursor = record { state = w.state; asked = asked };
}

-- a refusal has no time and no count, and the cursor stays
abbrev pub refused_with : ℕ → Cursor → Answer
refused_with number c = record { number = number; time = plus_zero; count = 0; cursor = c }

-- the answer of a question that its tests took
unfoldable pub reply : Timing → Cursor → Float → Float → Float → Answer
reply t c offset global beat = answered global (row binary64 beat) (walk (filled t) (row binary64 beat) (beginning c (row binary64 beat) offset global))

abbrev pub by_number_of : ℕ → Timing → Cursor → Float → Float → Float → Answer
by_number_of number t c offset global beat = pick (eqb number 0) (reply t c offset global beat) (refused_with number c)

-- ---- the questions: one that tests only the beat, one that tests the cursor too, and one that tests all

unfoldable pub asking : Timing → Cursor → Float → Float → Float → Answer
asking t c offset global beat = by_number_of (beat_number beat) t c offset global beat

unfoldable pub cursor_refusal : Timing → Cursor → ℕ
cursor_refusal t c = cursor_number (tempos_of t) (length t.stop_beats) (length t.delay_beats) (length t.warp_beats) c.state c.asked

unfoldable pub player_number : Timing → Cursor → Float → ℕ
player_number t c beat = lower (beat_number beat) (cursor_refusal t c)

unfoldable pub player_question : Timing → Cursor → Float → Float → Float → Answer
player_question t c offset global beat = by_number_of (player_number t c beat) t c offset global beat

unfoldable pub question_number : Timing → Cursor → Float → Float → Float → ℕ
question_number t c offset global beat = lower (timing_number t offset global) (player_number t c beat)

unfoldable pub question : Timing → Cursor → Float → Float → Float → Answer
question t c offset global beat = by_number_of (question_number t c offset global beat) t c offset global beat
