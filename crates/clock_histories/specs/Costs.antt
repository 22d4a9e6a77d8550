-- What a history is to cost, by the beats that are asked and by the lists: the cursor plays no part. Definitions only.
use Rattle.std.specs.Prelude.{ℕ, ◌+◌, ◌*◌, List, [], ◌∷◌, map, eqb, ℤ, length, Float}
use Rattle.std.specs.Int.Signed.{lt_z}
use Rattle.std.specs.Float.{binary64}
use Rattle.picks.specs.Pick.{pick}
use Rattle.rows.specs.Rows.{row}
use Rattle.chart.specs.Timing.{Timing}
use Rattle.clock_walk.specs.Course.{one}
use Rattle.clock_tests.specs.TimingNumbers.{beat_number}
use Rattle.clock.specs.Question.{tempos_of}
use Rattle.clock.specs.History.{Asking, History}

-- the beats of a history
abbrev pub beats_of : History → List Float
beats_of history = map (λ (q : Asking × Float). q.1) history

-- the rows of the beats that are accepted: those that are within the limit
unfoldable pub accepted_rows : List Float → List ℤ
accepted_rows [] = []
accepted_rows (b ∷ beats) = pick (eqb (beat_number b) 0) (row binary64 b ∷ accepted_rows beats) (accepted_rows beats)

-- how many rows are below the one before them; the first has none before it
unfoldable pub falls : List ℤ → ℕ
falls [] = 0
falls (a ∷ []) = 0
falls (a ∷ b ∷ rows) = one (lt_z b a) + falls (b ∷ rows)

-- tempos, stops, delays, and warps twice; a timing without a tempo has one
abbrev pub events : Timing → ℕ
events t = tempos_of t + length t.stop_beats + length t.delay_beats + 2 * length t.warp_beats

-- one round of events for the first question and one for each time that the row fell, and one for each question that is accepted
abbrev pub most_of : Timing → List ℤ → ℕ
most_of t rows = (falls rows + 1) * events t + length rows
