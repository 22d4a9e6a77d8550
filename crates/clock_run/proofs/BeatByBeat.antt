-- The loop of a run, beat by beat: what holds where it begins, after each turn, and where it ends. Assumes nothing.
use Rattle.std.proofs.Common.{◌≡◌, ℕ, ◌+◌, ◌<◌, ◌≤◌, List, [], ◌∷◌, map, length, get_or, drop, set, ℤ, sym, refl, ap, ◌∙◌, add-one, arith, drop_of_length-le, drop-cons}
use lib.Ieee.{Float, nan, binary64, sub}
use Rattle.rows.specs.Rows.{row}
use Rattle.order.proofs.LaidOverFront.{Laying, laying-none, laying-more, laying-all}
use Rattle.chart.specs.Timing.{Timing}
use Rattle.clock_walk.specs.declared.Mark.{Mark}
use Rattle.clock_walk.specs.declared.Walked.{Walked}
use Rattle.clock.specs.Marked.{marked_asking}
use Rattle.clock.specs.History.{number_of, time_of, count_of}
use Rattle.clock.specs.declared.Cursor.{Cursor}
use Rattle.clock.specs.declared.Answer.{Answer}
use Rattle.clock_run.specs.Run.{run_columns}
use Rattle.clock_run.specs.inside.Asked.{each_asked, last_asked, AllAsked}
use Rattle.clock_run.proofs.QuietRows.{answer_of_lem}

module _ (m : Mark) (t : Timing) (offset global : Float) where
  -- with the next beat the answers have one less to come
  next-answer : (c : Cursor) (beats : List Float) (i : ℕ) → i < length beats
      → each_asked m t offset global c (drop i beats)
      ≡ marked_asking m t c offset global (get_or beats i nan) ∷ each_asked m t offset global (marked_asking m t c offset global (get_or beats i nan)).cursor (drop (i + 1) beats)
  unfolding each_asked
  next-answer c beats i h = rw (drop-cons beats i nan h, add-one i)

  next-cursor : (c : Cursor) (beats : List Float) (i : ℕ) → i < length beats
      → last_asked m t offset global c (drop i beats) ≡ last_asked m t offset global (marked_asking m t c offset global (get_or beats i nan)).cursor (drop (i + 1) beats)
  unfolding last_asked
  next-cursor c beats i h = rw (drop-cons beats i nan h, add-one i)

  no_answer : (c : Cursor) (beats : List Float) (i : ℕ) → length beats ≤ i → each_asked m t offset global c (drop i beats) ≡ []
  unfolding each_asked
  no_answer c beats i h = rw (drop_of_length-le beats h)

  same-cursor : (c : Cursor) (beats : List Float) (i : ℕ) → length beats ≤ i → last_asked m t offset global c (drop i beats) ≡ c
  unfolding last_asked
  same-cursor c beats i h = rw (drop_of_length-le beats h)

  -- i beats are asked, and the cursor that stands there asks the others
  pub record Running (c₀ : Cursor) (beats : List Float) (numbers₀ : List ℕ) (times₀ : List Float) (counts₀ : List ℕ) (c : Cursor) (numbers : List ℕ) (times : List Float) (counts : List ℕ) (i : ℕ) : Type 0 where
    pub last : last_asked m t offset global c (drop i beats) ≡ last_asked m t offset global c₀ beats
    pub of_numbers : Laying (map number_of (each_asked m t offset global c₀ beats)) numbers₀ numbers (map number_of (each_asked m t offset global c (drop i beats))) i
    pub of_times : Laying (map time_of (each_asked m t offset global c₀ beats)) times₀ times (map time_of (each_asked m t offset global c (drop i beats))) i
    pub of_counts : Laying (map count_of (each_asked m t offset global c₀ beats)) counts₀ counts (map count_of (each_asked m t offset global c (drop i beats))) i

  module _ (c₀ : Cursor) (beats : List Float) (numbers₀ : List ℕ) (times₀ : List Float) (counts₀ : List ℕ) where
    pub begun : Running c₀ beats numbers₀ times₀ counts₀ c₀ numbers₀ times₀ counts₀ 0
    begun = record {
      last = refl;
      of_numbers = laying-none (map number_of (each_asked m t offset global c₀ beats)) numbers₀;
      of_times = laying-none (map time_of (each_asked m t offset global c₀ beats)) times₀;
      of_counts = laying-none (map count_of (each_asked m t offset global c₀ beats)) counts₀;
    }

    module _ (c : Cursor) (numbers : List ℕ) (times : List Float) (counts : List ℕ) (i : ℕ) (r : Running c₀ beats numbers₀ times₀ counts₀ c numbers times counts i) where
      pub turned : (a : Answer) → a ≡ marked_asking m t c offset global (get_or beats i nan) → i < length beats → length beats ≤ length numbers₀ → length beats ≤ length times₀ → length beats ≤ length counts₀
          → Running c₀ beats numbers₀ times₀ counts₀ a.cursor (set numbers i a.number) (set times i a.time) (set counts i a.count) (i + 1)
      turned a e h in_numbers in_times in_counts =
          let more : each_asked m t offset global c (drop i beats) ≡ a ∷ each_asked m t offset global a.cursor (drop (i + 1) beats) = rw e (next-answer c beats i h) in
          record {
            last = rw e (sym (next-cursor c beats i h)) ∙ r.last;
            of_numbers = laying-more _ _ _ _ i r.of_numbers a.number _ (ap (map number_of) more) (omega (arith, r.of_numbers.size));
            of_times = laying-more _ _ _ _ i r.of_times a.time _ (ap (map time_of) more) (omega (arith, r.of_times.size));
            of_counts = laying-more _ _ _ _ i r.of_counts a.count _ (ap (map count_of) more) (omega (arith, r.of_counts.size));
          }

      -- a beat that is answered without a walk, by what a walk would come to
      pub quiet-turn : (w : Walked) → answer_of_lem t offset global c (get_or beats i nan) w ≡ marked_asking m t c offset global (get_or beats i nan)
          → (r : ℤ) → r ≡ row binary64 (get_or beats i nan) → (time : Float) → time ≡ sub binary64 w.time global
          → i < length beats → length beats ≤ length numbers₀ → length beats ≤ length times₀ → length beats ≤ length counts₀
          → Running c₀ beats numbers₀ times₀ counts₀ (record { state = w.state; asked = r }) (set numbers i 0) (set times i time) (set counts i (w.passed + 1)) (i + 1)
      quiet-turn w is r is_row time is_time h in_numbers in_times in_counts =
          turned (record { number = 0; time = time; count = w.passed + 1; cursor = record { state = w.state; asked = r } })
          (rw (is_time, is_row) is)
          h in_numbers in_times in_counts

      pub ended : length beats ≤ i → AllAsked m t offset global c₀ beats c (run_columns numbers₀ times₀ counts₀) (run_columns numbers times counts)
      ended h =
          let none : each_asked m t offset global c (drop i beats) ≡ [] = no_answer c beats i h in
          record {
            cursor = sym (same-cursor c beats i h) ∙ r.last;
            numbers_are = laying-all _ _ _ _ i r.of_numbers (ap (map number_of) none);
            times_are = laying-all _ _ _ _ i r.of_times (ap (map time_of) none);
            counts_are = laying-all _ _ _ _ i r.of_counts (ap (map count_of) none);
          }
