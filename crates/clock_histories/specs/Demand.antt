-- What is asked of the clock, whatever is asked of a cursor. Definitions only.
--
-- One timing that is taken, with its offsets, and one fresh cursor; a history of any beats, each asked by any of the three questions, without or with the
-- timing's end mark, in any order, refused ones among them. Then each time given is the time that a fresh cursor gives for that beat without a mark, bit for bit;
-- a used cursor gives the number that a fresh one gives, so that it cannot get out of the first promise by refusing; each count is the events passed and one,
-- and one beyond the mark; and all counts together, those of refusals being 0, are at most one round of events for the first question and for each time that
-- the asked row fell, and one for each accepted question.
use Rattle.std.specs.Prelude.{◌+◌, ◌≤◌, map, ◌≡◌, Float}
use Rattle.std.specs.Float.{binary64}
use Rattle.rows.specs.Rows.{row}
use Rattle.chart.specs.Timing.{Timing}
use Rattle.clock.specs.Question.{fresh_cursor, question}
use Rattle.clock.specs.History.{Asking, asks, walk_of, History, answers, last_cursor, count_of}
use Rattle.clock.specs.declared.Cursor.{Cursor}
use Rattle.clock.specs.declared.Answer.{Answer}
use Rattle.clock_histories.specs.Costs.{beats_of, accepted_rows, most_of}
use Rattle.order.specs.Entries.{total}

module _ (t : Timing) (offset global : Float) where
  -- the cursor after a history, which began with a fresh one
  abbrev pub used : History → Cursor
  used history = last_cursor t offset global (fresh_cursor offset global) history

  -- the answer of a fresh cursor to one beat
  abbrev pub alone : Float → Answer
  alone b = question t (fresh_cursor offset global) offset global b

  -- of a question after any history, and of a whole history
  pub record Kept : Type 0 where
    pub times : (before : History) (way : Asking) (b : Float) → (asks way t (used before) offset global b).time ≡ (alone b).time
    pub numbers : (before : History) (way : Asking) (b : Float) → (asks way t (used before) offset global b).number ≡ (alone b).number
    pub steps : (before : History) (way : Asking) (b : Float) → (asks way t (used before) offset global b).number ≡ 0
        → (asks way t (used before) offset global b).count ≡ (walk_of way t (used before) (row binary64 b) offset global).passed + 1
    pub costs : (history : History) → total (map count_of (answers t offset global (fresh_cursor offset global) history)) ≤ most_of t (accepted_rows (beats_of history))
