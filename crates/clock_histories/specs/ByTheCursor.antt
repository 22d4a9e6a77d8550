-- Falls and acceptances as a cursor meets them: how often its walk begins anew, and how many of its answers are no refusals. Definitions only.
use Rattle.std.specs.Prelude.{ℕ, ◌+◌, List, [], ◌∷◌, ◌&&◌, eqb, Float}
use Rattle.std.specs.Int.Signed.{lt_z}
use Rattle.std.specs.Float.{binary64}
use Rattle.rows.specs.Rows.{row}
use Rattle.chart.specs.Timing.{Timing}
use Rattle.clock_walk.specs.Course.{one}
use Rattle.clock.specs.History.{asks, History}
use Rattle.clock.specs.declared.Cursor.{Cursor}
use Rattle.clock.specs.declared.Answer.{Answer}

-- the answers that are no refusals
unfoldable pub accepted_answers : List Answer → ℕ
accepted_answers [] = 0
accepted_answers (a ∷ answers) = one (eqb a.number 0) + accepted_answers answers

-- the questions that are no refusals and whose row is below the cursor's
unfoldable pub begun_anew : Timing → Float → Float → Cursor → History → ℕ
begun_anew t offset global c [] = 0
begun_anew t offset global c (q ∷ history) =
    one (eqb (asks q.0 t c offset global q.1).number 0 && lt_z (row binary64 q.1) c.asked)
    + begun_anew t offset global (asks q.0 t c offset global q.1).cursor history
