-- A history of a cursor: what is asked of it, one beat after the other, each by any of the questions. Definitions only.
use Rattle.std.specs.Prelude.{ℕ, List, [], ◌∷◌, ℤ, Float}
use Rattle.chart.specs.Timing.{Timing}
use Rattle.clock_walk.specs.Walk.{walk}
use Rattle.clock_walk.specs.declared.Walked.{Walked}
use Rattle.clock.specs.Question.{filled, beginning, asking, player_question, question}
use Rattle.clock.specs.Marked.{mark_of, marked_walk, marked_asking, marked_player_question, marked_question}
use Rattle.clock.specs.declared.Cursor.{Cursor}
use Rattle.clock.specs.declared.Answer.{Answer}

-- which tests a question makes: the beat's alone (that of a run), the cursor's too (the player's), and the timing's too; each without and with the timing's end mark
pub data Asking : Type 0 where
  of_beat : Asking
  of_cursor : Asking
  of_all : Asking
  marked_of_beat : Asking
  marked_of_cursor : Asking
  marked_of_all : Asking

abbrev pub asks : Asking → Timing → Cursor → Float → Float → Float → Answer
asks of_beat t c offset global beat = asking t c offset global beat
asks of_cursor t c offset global beat = player_question t c offset global beat
asks of_all t c offset global beat = question t c offset global beat
asks marked_of_beat t c offset global beat = marked_asking (mark_of t offset global) t c offset global beat
asks marked_of_cursor t c offset global beat = marked_player_question (mark_of t offset global) t c offset global beat
asks marked_of_all t c offset global beat = marked_question (mark_of t offset global) t c offset global beat

-- the walk that a question of each way takes to an asked row
abbrev pub walk_of : Asking → Timing → Cursor → ℤ → Float → Float → Walked
walk_of of_beat t c asked offset global = walk (filled t) asked (beginning c asked offset global)
walk_of of_cursor t c asked offset global = walk (filled t) asked (beginning c asked offset global)
walk_of of_all t c asked offset global = walk (filled t) asked (beginning c asked offset global)
walk_of marked_of_beat t c asked offset global = marked_walk (mark_of t offset global) t c asked offset global
walk_of marked_of_cursor t c asked offset global = marked_walk (mark_of t offset global) t c asked offset global
walk_of marked_of_all t c asked offset global = marked_walk (mark_of t offset global) t c asked offset global

-- beats in the order in which they are asked, each with the question that asks it
abbrev pub History : Type 0
History = List (Asking × Float)

-- the answers: each beat is asked by the cursor that the one before it left, and a refusal leaves the cursor as it was
unfoldable pub answers : Timing → Float → Float → Cursor → History → List Answer
answers t offset global c [] = []
answers t offset global c (q ∷ history) =
    asks q.0 t c offset global q.1 ∷ answers t offset global (asks q.0 t c offset global q.1).cursor history

-- the cursor after the last of them
unfoldable pub last_cursor : Timing → Float → Float → Cursor → History → Cursor
last_cursor t offset global c [] = c
last_cursor t offset global c (q ∷ history) = last_cursor t offset global (asks q.0 t c offset global q.1).cursor history

abbrev pub number_of : Answer → ℕ
number_of a = a.number

abbrev pub time_of : Answer → Float
time_of a = a.time

abbrev pub count_of : Answer → ℕ
count_of a = a.count
