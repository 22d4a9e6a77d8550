-- The run of a sheet in pieces: what holds before each piece, and at the end. Assumes nothing.
use Prim.Native.Nat.{ℕ, suc, ◌+◌, ◌-◌, ◌≤◌, ◌<◌, ◌^◌}
use mathlib.Core.Path.{◌≡◌, refl, sym, ap, ◌∙◌}
use mathlib.Core.Bool.{Bool, true, false}
use mathlib.Core.List.{List, [], ◌∷◌, ◌++◌, map, map-append}
use native.Mathlib.Omega.{arith}
use lib.Dec.{eqb}
use lib.IntN.{ℤ}
use lib.ListN.{length, take, drop, length-map, length-take, length-drop, length-append}
use lib.Seq.{take-add, take_all, length-take-le}
use lib.Ieee.{Float, binary64}
use borrow.Author.Tests.{eq-eqb}
use borrow.Rule.Slice.PartMut.{put_mid}
use Rattle.picks.specs.Pick.{pick}
use Rattle.rows.specs.Rows.{beat_of}
use Rattle.limits.proofs.NoRefusal.{lower-none}
use Rattle.order.specs.Order.{laid}
use Rattle.order.specs.Entries.{total}
use Rattle.order.proofs.LaidOverFront.{laid_more, laid-length}
use Rattle.chart.specs.Timing.{Timing}
use Rattle.chart.specs.ChartColumns.{list_columns}
use Rattle.clock_tests.specs.TimingNumbers.{timing_lists_number, offsets_number, order_number, timing_number}
use Rattle.clock_tests.proofs.TimingTaken.{timing-taken}
use Rattle.clock.specs.Question.{tempos_of, fresh_cursor, made, asking, cursor_refusal}
use Rattle.clock.specs.History.{of_beat, History, answers, last_cursor, time_of, count_of}
use Rattle.clock.specs.declared.Cursor.{Cursor}
use Rattle.clock.specs.declared.Answer.{Answer}
use Rattle.clock_run.specs.Run.{run_of}
use Rattle.clock_histories.specs.Costs.{events}
use Rattle.clock_histories.proofs.AnyQuestion.{fine, used-comes}
use Rattle.clock_histories.proofs.RunsAreQuestions.{answers_of_both, cursor_after_both}
use Rattle.note_sheet.specs.Sheet.{song, sheet_questions}
use Rattle.note_sheet.specs.inside.Pieces.{PieceFits, PieceTimed, AllFit}
use Rattle.note_sheet.specs.declared.Piece.{Piece}
use Rattle.note_sheet.proofs.Totals.{total-on}
use Rattle.note_sheet.proofs.SheetKept.{steps-few}

-- ---- a cursor that a run leaves can go on
module _ (t : Timing) (offset global : Float) (taken : timing_number t offset global ≡ 0) where
  pub goes_on : (history : History) → cursor_refusal t (last_cursor t offset global (fresh_cursor offset global) history) ≡ 0
  goes_on history = fine t offset global taken _ (used-comes t offset global taken history)

  pub fresh-made : (made offset global).cursor ≡ fresh_cursor offset global
  unfolding made timing_number
  fresh-made =
      let offsets = (lower-none (offsets_number offset global) (order_number t) (lower-none (timing_lists_number t) _ taken).1).0 in
      rw (eq-eqb (offsets_number offset global) 0 offsets)

  tempos-few : (n : ℕ) → n ≤ 1024 → pick (eqb n 0) 1 n ≤ 1024
  tempos-few n h = go (eqb n 0)
    where
      go : (b : Bool) → pick b 1 n ≤ 1024
      go true = omega arith
      go false = h

  pub events-few : events t ≤ 5120
  unfolding tempos_of
  events-few =
      let all = timing-taken taken in
      omega (arith, tempos-few (length t.tempo_beats) all.tempos.few, all.stops.few, all.delays.few, all.warps.few)

questions_of_both : (first second : List ℤ) → sheet_questions (first ++ second) ≡ sheet_questions first ++ sheet_questions second
questions_of_both first second = ap run_of (map-append (beat_of binary64) first second) ∙ map-append (λ (b : Float). (of_beat, b)) (map (beat_of binary64) first) (map (beat_of binary64) second)

-- there is an answer for each row
pub answers-many : (t : Timing) (offset global : Float) (c : Cursor) (rows : List ℤ) → length (answers t offset global c (sheet_questions rows)) ≡ length rows
unfolding answers
answers-many t offset global c [] = refl
answers-many t offset global c (r ∷ rows) = ap suc (answers-many t offset global (asking t c offset global (beat_of binary64 r)).cursor rows)

-- ---- piece after piece
module _ (t : Timing) (offset global : Float) (rows : List ℤ) (old : List Float) where
  abbrev fresh : Cursor
  fresh = fresh_cursor offset global

  -- the answers to the first n rows, and the cursor after them
  abbrev first : ℕ → List Answer
  first n = answers t offset global fresh (sheet_questions (take n rows))

  abbrev then : ℕ → Cursor
  then n = last_cursor t offset global fresh (sheet_questions (take n rows))

  -- and those to the rows from there to another place
  abbrev next : ℕ → ℕ → List Answer
  next n end = answers t offset global (then n) (sheet_questions (take (end - n) (drop n rows)))

  -- the first `done` rows are timed
  pub record Timed (times : List Float) (at : Cursor) (steps done : ℕ) : Type 0 where
    pub within : done ≤ length rows
    pub cursor : at ≡ then done
    pub added : steps ≡ total (map count_of (first done))
    pub written : times ≡ laid (map time_of (first done)) old

  pub none_timed : (c : Cursor) → c ≡ fresh → Timed old c 0 0
  unfolding answers last_cursor total laid
  none_timed c e = record { within = omega arith; cursor = e; added = refl; written = refl }

  module _ (n end : ℕ) (order : n ≤ end) where
    questions_then : sheet_questions (take end rows) ≡ sheet_questions (take n rows) ++ sheet_questions (take (end - n) (drop n rows))
    questions_then =
        let e : n + (end - n) ≡ end = omega arith in
        ap (λ (k : ℕ). sheet_questions (take k rows)) (sym e) ∙ ap sheet_questions (take-add n (end - n) rows) ∙ questions_of_both (take n rows) (take (end - n) (drop n rows))

    pub first_then : first end ≡ first n ++ next n end
    first_then = ap (answers t offset global fresh) questions_then ∙ answers_of_both t offset global fresh (sheet_questions (take n rows)) (sheet_questions (take (end - n) (drop n rows)))

    pub cursor-then : then end ≡ last_cursor t offset global (then n) (sheet_questions (take (end - n) (drop n rows)))
    cursor-then = ap (last_cursor t offset global fresh) questions_then ∙ cursor_after_both t offset global fresh (sheet_questions (take n rows)) (sheet_questions (take (end - n) (drop n rows)))

    pub total-then : total (map count_of (first end)) ≡ total (map count_of (first n)) + total (map count_of (next n end))
    total-then = ap (λ (l : List Answer). total (map count_of l)) first_then ∙ ap total (map-append count_of (first n) (next n end)) ∙ total-on (map count_of (first n)) (map count_of (next n end))

  first-many : (n : ℕ) → n ≤ length rows → length (first n) ≡ n
  first-many n h = answers-many t offset global fresh (take n rows) ∙ length-take-le n rows h

  pub all_timed : (times : List Float) (at : Cursor) (steps done : ℕ) → Timed times at steps done → length rows ≤ done → PieceTimed t offset global fresh rows (record { cursor = at; steps = steps }) old times
  all_timed times at steps done p h =
      let whole : take done rows ≡ rows = take_all done rows h in
      record { cursor = rw whole at p.cursor; steps = rw whole at p.added; times = rw whole at p.written }

  module _ (all : AllFit t offset global rows (length old)) where
    -- by demand 3 the steps of any front are few
    total-few : (n : ℕ) → n ≤ length rows → total (map count_of (first n)) ≤ 5120 + length rows
    total-few n h =
        let s = song t offset global (list_columns [] []) in
        let whole : total (map count_of (first (length rows))) ≤ events t + length rows =
        rw (take_all (length rows) rows (omega arith)) (steps-few s all.taken rows all.near all.up) in
        omega (arith, whole, total-then n (length rows) h, events-few t offset global all.taken)

    pub timed_size : (times : List Float) (at : Cursor) (steps done : ℕ) → Timed times at steps done → length times ≡ length old
    timed_size times at steps done so_far =
        ap length so_far.written
        ∙ laid-length (map time_of (first done)) old (rw (length-map (first done) time_of, first-many done so_far.within) (let p = all.places in omega (arith, so_far.within)))

    module _ (times : List Float) (at : Cursor) (steps done : ℕ) (so_far : Timed times at steps done) (end : ℕ) (order : done ≤ end) (inside : end ≤ length rows)
        (small : length rows + 5120 < 2 ^ 64) where
      pub piece_fits : end - done ≤ 64 → PieceFits t offset global at (take (end - done) (drop done rows)) (length (take (length times - done) (drop done times)))
      piece_fits few =
          let p = all.places in
          let many : length (take (end - done) (drop done rows)) ≡ end - done = length-take-le (end - done) (drop done rows) (simp length-drop (omega arith)) in
          record {
            few = rw many few;
            places = rw many (simp (length-take, length-drop) (omega (arith, timed_size times at steps done so_far)));
            goes_on_from = rw so_far.cursor (goes_on t offset global all.taken (sheet_questions (take done rows)));
            fits = rw so_far.cursor (omega (arith, total-then done end order, total-few end inside));
          }

      module _ (piece : Piece) (back : List Float) (p : PieceTimed t offset global at (take (end - done) (drop done rows)) piece (take (length times - done) (drop done times)) back) where
        piece_steps : piece.steps ≡ total (map count_of (next done end))
        piece_steps = p.steps ∙ ap (λ (c : Cursor). total (map count_of (answers t offset global c (sheet_questions (take (end - done) (drop done rows)))))) so_far.cursor

        sum_is : steps + piece.steps ≡ total (map count_of (first end))
        sum_is = omega (arith, so_far.added, piece_steps, total-then done end order)

        pub steps-fit : steps + piece.steps < 2 ^ 64
        steps-fit = omega (arith, sum_is, total-few end inside)

        pub piece_timed : Timed (put_mid done (length times - done) times back) piece.cursor (steps + piece.steps) end
        piece_timed =
            let times-then : map time_of (first end) ≡ map time_of (first done) ++ map time_of (next done end) = ap (map time_of) (first_then done end order) ∙ map-append time_of (first done) (next done end) in
            let room = all.places in
            let written : put_mid done (length times - done) times back ≡ laid (map time_of (first done) ++ map time_of (next done end)) old =
            laid_more times back old (map time_of (first done)) (map time_of (next done end)) done so_far.written (sym (length-map (first done) time_of ∙ first-many done so_far.within))
            (omega (arith, length-append (map time_of (first done)) (map time_of (next done end)), ap length times-then, length-map (first end) time_of, first-many end inside))
            (p.times ∙ ap (λ (c : Cursor). laid (map time_of (answers t offset global c (sheet_questions (take (end - done) (drop done rows))))) (take (length times - done) (drop done times))) so_far.cursor) in
            record {
              within = inside;
              cursor = p.cursor ∙ ap (λ (c : Cursor). last_cursor t offset global c (sheet_questions (take (end - done) (drop done rows)))) so_far.cursor ∙ sym (cursor-then done end order);
              added = sum_is;
              written = written ∙ ap (λ (l : List Float). laid l old) (sym times-then);
            }
