-- What is asked of a run from a cursor that a history left: it is its beats asked one by one, by whichever question without the mark, and a marked run by
-- whichever question with it. Definitions only.
use Rattle.std.specs.Prelude.{Bool, true, false, List, [], ◌∷◌, map, ◌++◌, ◌≡◌, Float}
use Rattle.order.specs.Order.{laid}
use Rattle.chart.specs.Timing.{Timing}
use Rattle.clock.specs.History.{Asking, of_beat, of_cursor, of_all, marked_of_beat, marked_of_cursor, marked_of_all, History, answers, number_of, time_of, count_of}
use Rattle.clock_run.specs.Run.{RunColumns}
use Rattle.clock_run.specs.declared.Ran.{Ran}
use Rattle.clock_histories.specs.Demand.{used}

-- whether a question has the mark beside the cursor
abbrev pub is_marked : Asking → Bool
is_marked of_beat = false
is_marked of_cursor = false
is_marked of_all = false
is_marked marked_of_beat = true
is_marked marked_of_cursor = true
is_marked marked_of_all = true

-- every question of a history has it, or none
abbrev pub AllMarked : Bool → History → Type 0
AllMarked marked [] = Unit {0}
AllMarked marked (q ∷ history) = (is_marked q.0 ≡ marked) × AllMarked marked history

-- the columns hold the answers of a history that is asked after another, and the cursor is the one after both
pub record RunAsked (t : Timing) (offset global : Float) (before history : History) (ran : Ran) (old new : RunColumns) : Type 0 where
  pub cursor : ran.cursor ≡ used t offset global (before ++ history)
  pub numbers_are : new.numbers ≡ laid (map number_of (answers t offset global (used t offset global before) history)) old.numbers
  pub times_are : new.times ≡ laid (map time_of (answers t offset global (used t offset global before) history)) old.times
  pub counts_are : new.counts ≡ laid (map count_of (answers t offset global (used t offset global before) history)) old.counts
