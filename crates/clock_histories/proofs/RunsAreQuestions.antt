-- A run from a cursor that questions or runs left is its beats asked one by one: columns and cursor are those of the history. Assumes nothing.
use Prim.Native.Nat.{ℕ}
use mathlib.Core.Bool.{true, false}
use mathlib.Core.List.{List, [], ◌∷◌, map, ◌++◌}
use mathlib.Core.Path.{◌≡◌, refl, sym, ap, ◌∙◌}
use borrow.Author.Tests.{eq-eqb}
use lib.Ieee.{Float}
use Rattle.limits.proofs.NoRefusal.{none-lower, lower_than_none}
use Rattle.columns.specs.Laying.{given}
use Rattle.chart.specs.Timing.{Timing}
use Rattle.clock_tests.specs.TimingNumbers.{timing_number}
use Rattle.clock.specs.Question.{asking}
use Rattle.clock_walk.specs.declared.Mark.{Mark}
use Rattle.clock.specs.Marked.{mark_of, marked_asking}
use Rattle.clock.specs.History.{marked_of_beat, asks, History, answers, last_cursor, number_of, time_of}
use Rattle.clock.specs.declared.Cursor.{Cursor}
use Rattle.clock.specs.declared.Answer.{Answer}
use Rattle.clock_run.specs.Run.{run_of, run_room_number, run_number, RunColumns, HistoryLaid, RunLaid}
use Rattle.clock_run.specs.MarkedRun.{marked_run_of, marked_run_number, MarkedRunLaid}
use Rattle.clock_run.specs.declared.Ran.{Ran}
use Rattle.clock.proofs.OwnMark.{own-mark}
use Rattle.clock_histories.specs.Costs.{beats_of}
use Rattle.clock_histories.specs.Demand.{used, alone}
use Rattle.clock_histories.specs.Runs.{AllMarked, RunAsked}
use Rattle.clock_histories.proofs.AnyQuestion.{Comes, used-comes, fine, as_asked, as_marked, no_dearer, asked-stays, time-alone, number-alone}

-- ---- one history after another
module _ (t : Timing) (offset global : Float) where
  pub cursor_after_both : (c : Cursor) (before history : History) → last_cursor t offset global c (before ++ history) ≡ last_cursor t offset global (last_cursor t offset global c before) history
  unfolding last_cursor
  cursor_after_both c [] history = refl
  cursor_after_both c (q ∷ before) history = cursor_after_both (asks q.0 t c offset global q.1).cursor before history

  pub answers_of_both : (c : Cursor) (before history : History)
      → answers t offset global c (before ++ history) ≡ answers t offset global c before ++ answers t offset global (last_cursor t offset global c before) history
  unfolding answers last_cursor
  answers_of_both c [] history = refl
  answers_of_both c (q ∷ before) history =
      ap (λ (list : List Answer). asks q.0 t c offset global q.1 ∷ list) (answers_of_both (asks q.0 t c offset global q.1).cursor before history)

module _ (t : Timing) (offset global : Float) (taken : timing_number t offset global ≡ 0) where
  -- ---- by whichever question its beats are asked
  answers_as_run : (c : Cursor) (history : History) → AllMarked false history → Comes t offset global taken c → answers t offset global c (run_of (beats_of history)) ≡ answers t offset global c history
  unfolding answers
  answers_as_run c [] m h = refl
  answers_as_run c (q ∷ history) m h =
      rw (as_asked t offset global taken q.0 c q.1 m.0 h)
      (ap (λ (list : List Answer). asking t c offset global q.1 ∷ list) (answers_as_run (asking t c offset global q.1).cursor history m.1 (asked-stays t offset global taken c q.1 h)))

  -- with the mark
  abbrev marked : Cursor → Float → Answer
  marked c b = marked_asking (mark_of t offset global) t c offset global b

  marked-stays : (c : Cursor) (b : Float) → Comes t offset global taken c → Comes t offset global taken (marked c b).cursor
  marked-stays c b h = rw (no_dearer t offset global taken marked_of_beat c b h).cursor (asked-stays t offset global taken c b h)

  answers_as_marked : (c : Cursor) (history : History) → AllMarked true history → Comes t offset global taken c → answers t offset global c (marked_run_of (beats_of history)) ≡ answers t offset global c history
  unfolding answers
  answers_as_marked c [] m h = refl
  answers_as_marked c (q ∷ history) m h =
      rw (as_marked t offset global taken q.0 c q.1 m.0 h)
      (ap (λ (list : List Answer). marked c q.1 ∷ list) (answers_as_marked (marked c q.1).cursor history m.1 (marked-stays c q.1 h)))

  -- the cursor after it is the same by all of them
  cursor_as_run : (c : Cursor) (history : History) → Comes t offset global taken c → last_cursor t offset global c (run_of (beats_of history)) ≡ last_cursor t offset global c history
  unfolding last_cursor
  cursor_as_run c [] h = refl
  cursor_as_run c (q ∷ history) h =
      rw (no_dearer t offset global taken q.0 c q.1 h).cursor
      (cursor_as_run (asking t c offset global q.1).cursor history (asked-stays t offset global taken c q.1 h))

  cursor_as_marked : (c : Cursor) (history : History) → Comes t offset global taken c → last_cursor t offset global c (marked_run_of (beats_of history)) ≡ last_cursor t offset global c history
  unfolding last_cursor
  cursor_as_marked c [] h = refl
  cursor_as_marked c (q ∷ history) h =
      ap (λ (x : Cursor). last_cursor t offset global x (marked_run_of (beats_of history))) (no_dearer t offset global taken marked_of_beat c q.1 h).cursor
      ∙ cursor_as_marked (asking t c offset global q.1).cursor history (asked-stays t offset global taken c q.1 h)
      ∙ sym (ap (λ (x : Cursor). last_cursor t offset global x history) (no_dearer t offset global taken q.0 c q.1 h).cursor)

  -- ---- the run
  -- it is refused for its room alone
  pub room_decides : (before : History) (beats numbers times counts : ℕ) → run_number t offset global (used t offset global before) beats numbers times counts ≡ run_room_number beats numbers times counts
  unfolding run_number
  room_decides before beats numbers times counts =
      rw (taken, fine t offset global taken (used t offset global before) (used-comes t offset global taken before))
      (none-lower _ ∙ lower_than_none (run_room_number beats numbers times counts))

  -- one with the timing's own mark too
  pub marked_room_decides : (before : History) (beats numbers times counts : ℕ)
      → marked_run_number (mark_of t offset global) t offset global (used t offset global before) beats numbers times counts ≡ run_room_number beats numbers times counts
  unfolding marked_run_number
  marked_room_decides before beats numbers times counts =
      rw (own-mark t offset global, taken, fine t offset global taken (used t offset global before) (used-comes t offset global taken before))
      (none-lower _ ∙ lower_than_none (run_room_number beats numbers times counts))

  module _ (before history : History) {ran : Ran} {old new : RunColumns} where
    -- a history of the same answers that leaves the same cursor
    laid_as_asked : {tests : ℕ} {asked : List Float → History} → answers t offset global (used t offset global before) (asked (beats_of history)) ≡ answers t offset global (used t offset global before) history
        → last_cursor t offset global (used t offset global before) (asked (beats_of history)) ≡ last_cursor t offset global (used t offset global before) history
        → HistoryLaid tests asked t offset global (used t offset global before) (beats_of history) ran old new → ran.number ≡ 0
        → RunAsked t offset global before history ran old new
    unfolding given
    laid_as_asked same end run n = record {
      cursor = (rw (eq-eqb ran.number 0 n) at run.cursor) ∙ end ∙ sym (cursor_after_both t offset global _ before history);
      numbers_are = rw (eq-eqb ran.number 0 n, same) at run.numbers_are;
      times_are = rw (eq-eqb ran.number 0 n, same) at run.times_are;
      counts_are = rw (eq-eqb ran.number 0 n, same) at run.counts_are;
    }

    pub run_is_its_questions : AllMarked false history
        → RunLaid t offset global (used t offset global before) (beats_of history) ran old new → ran.number ≡ 0
        → RunAsked t offset global before history ran old new
    run_is_its_questions m run n =
        let c = used t offset global before in
        let come = used-comes t offset global taken before in
        laid_as_asked (answers_as_run c history m come) (cursor_as_run c history come) run n

    -- whatever mark it was given, if it is taken
    pub marked_run_is_its_questions : (mark : Mark) → AllMarked true history
        → MarkedRunLaid mark t offset global (used t offset global before) (beats_of history) ran old new → ran.number ≡ 0
        → RunAsked t offset global before history ran old new
    marked_run_is_its_questions mark m run n =
        let c = used t offset global before in
        let come = used-comes t offset global taken before in
        laid_as_asked (answers_as_marked c history m come) (cursor_as_marked c history come) run n

  -- ---- the answers of a history are what a fresh cursor gives for each beat by itself
  numbers-from : (c : Cursor) (history : History) → Comes t offset global taken c → map number_of (answers t offset global c history) ≡ map (λ (b : Float). (alone t offset global b).number) (beats_of history)
  unfolding answers
  numbers-from c [] h = refl
  numbers-from c (q ∷ history) h =
      rw (number-alone t offset global taken q.0 c q.1 h, (no_dearer t offset global taken q.0 c q.1 h).cursor, numbers-from (asking t c offset global q.1).cursor history (asked-stays t offset global taken c q.1 h))

  times-from : (c : Cursor) (history : History) → Comes t offset global taken c → map time_of (answers t offset global c history) ≡ map (λ (b : Float). (alone t offset global b).time) (beats_of history)
  unfolding answers
  times-from c [] h = refl
  times-from c (q ∷ history) h =
      rw (time-alone t offset global taken q.0 c q.1 h, (no_dearer t offset global taken q.0 c q.1 h).cursor, times-from (asking t c offset global q.1).cursor history (asked-stays t offset global taken c q.1 h))

  pub numbers-alone : (before history : History)
      → map number_of (answers t offset global (used t offset global before) history) ≡ map (λ (b : Float). (alone t offset global b).number) (beats_of history)
  numbers-alone before history = numbers-from (used t offset global before) history (used-comes t offset global taken before)

  pub times-alone : (before history : History)
      → map time_of (answers t offset global (used t offset global before) history) ≡ map (λ (b : Float). (alone t offset global b).time) (beats_of history)
  times-alone before history = times-from (used t offset global before) history (used-comes t offset global taken before)
