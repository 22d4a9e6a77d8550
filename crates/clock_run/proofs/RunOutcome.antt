-- A run that is refused leaves cursor and columns, one that is taken has room for all and asks all. Assumes nothing.
use Rattle.std.proofs.Common.{◌≡◌, ℕ, ◌≤◌, min, Bool, true, false, List, [], length, sym, refl, ◌∙◌, arith, ne_eqb, leb-true}
use lib.Ieee.{Float}
use Rattle.picks.specs.Pick.{pick}
use Rattle.limits.specs.Refusals.{lower}
use Rattle.limits.proofs.NoRefusal.{lower-none, none-lower}
use Rattle.order.specs.Order.{laid}
use Rattle.columns.specs.Laying.{given}
use Rattle.chart.specs.Timing.{Timing}
use Rattle.clock_tests.specs.TimingNumbers.{timing_number}
use Rattle.clock.specs.Question.{cursor_refusal}
use Rattle.clock.specs.History.{History, answers, last_cursor}
use Rattle.clock_walk.specs.declared.Mark.{Mark}
use Rattle.clock_walk.proofs.NumbersFit.{NumbersFit}
use Rattle.clock.specs.Marked.{mark_of, no_mark, marked_timing_number}
use Rattle.clock.specs.declared.Cursor.{Cursor}
use Rattle.clock.proofs.OwnMark.{taken-mark}
use Rattle.clock_run.specs.declared.Ran.{Ran}
use Rattle.clock_run.specs.Run.{run_of, run_room_number, run_number, RunColumns, run_columns, HistoryLaid, checked_run_number, RunLaid, CheckedRunLaid}
use Rattle.clock_run.specs.MarkedRun.{marked_run_of, marked_run_number, MarkedRunLaid}
use Rattle.clock_run.specs.inside.Asked.{each_asked, last_asked, AllAsked}
use Rattle.clock_run.proofs.AskedAsHistories.{unmarked-answers, unmarked-last, marked-answers, marked-last}

has_room : (b : Bool) → ◌≡◌ {A = ℕ} (pick b 0 7) 0 → b ≡ true
has_room true h = refl
has_room false h = absurd (omega arith)

-- ---- whatever history the beats make, and whatever number its tests come to
module _ (tests : ℕ) (asked : List Float → History) (t : Timing) (offset global : Float) (c : Cursor) (beats : List Float) (old : RunColumns) where
  refused_history : asked [] ≡ [] → (n : ℕ) → n ≡ tests → (n ≡ 0 → ⊥) → HistoryLaid tests asked t offset global c beats (record { number = n; cursor = c }) old old
  unfolding given laid last_cursor
  refused_history none n e h = record {
    number = e;
    cursor = rw (ne_eqb n 0 h, none);
    numbers_are = rw (ne_eqb n 0 h);
    times_are = rw (ne_eqb n 0 h);
    counts_are = rw (ne_eqb n 0 h);
  }

  taken_history : (m : Mark) → each_asked m t offset global c beats ≡ answers t offset global c (asked beats) → last_asked m t offset global c beats ≡ last_cursor t offset global c (asked beats)
      → (last : Cursor) (new : RunColumns) → tests ≡ 0 → AllAsked m t offset global c beats last old new
      → HistoryLaid tests asked t offset global c beats (record { number = 0; cursor = last }) old new
  unfolding given
  taken_history m each end last new e all = record {
    number = sym e;
    cursor = all.cursor ∙ end;
    numbers_are = rw each at all.numbers_are;
    times_are = rw each at all.times_are;
    counts_are = rw each at all.counts_are;
  }

module _ (t : Timing) (offset global : Float) (c : Cursor) (beats : List Float) (numbers : List ℕ) (times : List Float) (counts : List ℕ) where
  abbrev old : RunColumns
  old = run_columns numbers times counts

  shortest : (first : ℕ) → lower first (lower (run_room_number (length beats) (length numbers) (length times) (length counts)) (cursor_refusal t c)) ≡ 0
      → length beats ≤ min (length numbers) (min (length times) (length counts))
  unfolding run_room_number
  shortest first h =
      let later = (lower-none first _ h).1 in
      leb-true _ _ (has_room _ (lower-none _ (cursor_refusal t c) later).0)

  pub refused-run : (n : ℕ) → n ≡ run_number t offset global c (length beats) (length numbers) (length times) (length counts) → (n ≡ 0 → ⊥)
      → RunLaid t offset global c beats (record { number = n; cursor = c }) (run_columns numbers times counts) (run_columns numbers times counts)
  refused-run n e h = refused_history _ run_of t offset global c beats old refl n e h

  -- ---- one over a timing that was tested
  pub checked_room : checked_run_number t c (length beats) (length numbers) (length times) (length counts) ≡ 0
      → (length beats ≤ length numbers) × (length beats ≤ length times) × (length beats ≤ length counts)
  unfolding checked_run_number
  checked_room h = let s = shortest 0 (none-lower _ ∙ h) in (omega arith, omega arith, omega arith)

  -- over a timing that is taken it has the run's number, and so the run's outcome
  pub checked_is_run : timing_number t offset global ≡ 0
      → checked_run_number t c (length beats) (length numbers) (length times) (length counts) ≡ run_number t offset global c (length beats) (length numbers) (length times) (length counts)
  unfolding run_number checked_run_number
  checked_is_run taken = rw taken (sym (none-lower _))

  pub run_as_checked : timing_number t offset global ≡ 0 → {ran : Ran} {new : RunColumns}
      → CheckedRunLaid t offset global c beats ran (run_columns numbers times counts) new → RunLaid t offset global c beats ran (run_columns numbers times counts) new
  run_as_checked taken laid = rw (checked_is_run taken) at laid

  pub refused_checked_run : (n : ℕ) → n ≡ checked_run_number t c (length beats) (length numbers) (length times) (length counts) → (n ≡ 0 → ⊥)
      → CheckedRunLaid t offset global c beats (record { number = n; cursor = c }) (run_columns numbers times counts) (run_columns numbers times counts)
  refused_checked_run n e h = refused_history _ run_of t offset global c beats old refl n e h

  pub taken_checked_run : (m : Mark) → m ≡ no_mark → (last : Cursor) (numbers_new : List ℕ) (times_new : List Float) (counts_new : List ℕ)
      → checked_run_number t c (length beats) (length numbers) (length times) (length counts) ≡ 0
      → AllAsked m t offset global c beats last (run_columns numbers times counts) (run_columns numbers_new times_new counts_new)
      → CheckedRunLaid t offset global c beats (record { number = 0; cursor = last }) (run_columns numbers times counts) (run_columns numbers_new times_new counts_new)
  taken_checked_run m none last numbers_new times_new counts_new e all =
      let each : each_asked m t offset global c beats ≡ answers t offset global c (run_of beats) = rw none (unmarked-answers t offset global c beats) in
      let end : last_asked m t offset global c beats ≡ last_cursor t offset global c (run_of beats) = rw none (unmarked-last t offset global c beats) in
      taken_history _ run_of t offset global c beats old m each end last (run_columns numbers_new times_new counts_new) e all

  -- ---- and one with a mark, which is then the timing's own
  module _ (m : Mark) where
    pub marked_room_for_all : marked_run_number m t offset global c (length beats) (length numbers) (length times) (length counts) ≡ 0
        → (length beats ≤ length numbers) × (length beats ≤ length times) × (length beats ≤ length counts)
    unfolding marked_run_number
    marked_room_for_all h = let s = shortest (marked_timing_number m t offset global) h in (omega arith, omega arith, omega arith)

    own-mark : NumbersFit m.state → marked_run_number m t offset global c (length beats) (length numbers) (length times) (length counts) ≡ 0 → m ≡ mark_of t offset global
    unfolding marked_run_number
    own-mark f h = taken-mark m t offset global f (lower-none (marked_timing_number m t offset global) _ h).0

    pub refused_marked_run : (n : ℕ) → n ≡ marked_run_number m t offset global c (length beats) (length numbers) (length times) (length counts) → (n ≡ 0 → ⊥)
        → MarkedRunLaid m t offset global c beats (record { number = n; cursor = c }) (run_columns numbers times counts) (run_columns numbers times counts)
    refused_marked_run n e h = refused_history _ marked_run_of t offset global c beats old refl n e h

    pub taken_marked_run : NumbersFit m.state → (last : Cursor) (numbers_new : List ℕ) (times_new : List Float) (counts_new : List ℕ)
        → marked_run_number m t offset global c (length beats) (length numbers) (length times) (length counts) ≡ 0
        → AllAsked m t offset global c beats last (run_columns numbers times counts) (run_columns numbers_new times_new counts_new)
        → MarkedRunLaid m t offset global c beats (record { number = 0; cursor = last }) (run_columns numbers times counts) (run_columns numbers_new times_new counts_new)
    taken_marked_run f last numbers_new times_new counts_new e all =
        let own = own-mark f e in
        let each : each_asked m t offset global c beats ≡ answers t offset global c (marked_run_of beats) = rw own (marked-answers t offset global c beats) in
        let end : last_asked m t offset global c beats ≡ last_cursor t offset global c (marked_run_of beats) = rw own (marked-last t offset global c beats) in
        taken_history _ marked_run_of t offset global c beats old m each end last (run_columns numbers_new times_new counts_new) e all
