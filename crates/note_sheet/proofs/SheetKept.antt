-- What is asked of a sheet is kept, wherever the sheet is taken. Assumes nothing.
use Prim.Native.Nat.{ℕ, ◌+◌, ◌*◌, ◌≤◌}
use mathlib.Core.List.{List, [], ◌∷◌, map}
use mathlib.Core.Bool.{Bool, true, false}
use mathlib.Core.Path.{◌≡◌, refl, ap, ◌∙◌}
use native.Mathlib.Omega.{arith}
use borrow.Author.Tests.{leb-true}
use lib.Dec.{leb}
use lib.IntN.{ℤ}
use lib.Signed.{lt_z}
use lib.ListN.{length}
use lib.Ieee.{Float, binary64}
use Rattle.picks.specs.Pick.{pick}
use Rattle.rows.specs.Rows.{beat_of}
use Rattle.order.specs.Entries.{total}
use Rattle.limits.specs.Numbers.{every, row_in}
use Rattle.limits.specs.Neighbours.{every_two}
use Rattle.limits.specs.Refusals.{lower}
use Rattle.limits.proofs.Every.{every_rest}
use Rattle.limits.proofs.NoRefusal.{lower-none}
use Rattle.clock_tests.specs.TimingNumbers.{timing_number}
use Rattle.clock.specs.History.{last_cursor, number_of, time_of, count_of}
use Rattle.clock_histories.specs.Costs.{beats_of, falls, events, most_of}
use Rattle.clock_histories.specs.Demand.{alone}
use Rattle.clock_histories.proofs.FreshNumber.{fresh-number}
use Rattle.clock_histories.proofs.RunsAreQuestions.{numbers-alone, times-alone}
use Rattle.clock_histories.proofs.DemandThree.{demand_three}
use Rattle.lookup_tests.specs.Refused.{judgable_number}
use Rattle.lookup.specs.Lookups.{looked}
use Rattle.note_sheet.specs.Sheet.{Song, notes_of, sheet_questions, sheet_answers, judged_of, rows_order_number, sheet_room_number, sheet_number}
use Rattle.note_sheet.specs.Kept.{time_alone, judged_alone, SheetKept}
use Rattle.note_sheet.proofs.RowsOfASheet.{row-taken, rows_accepted, no-falls}

over-rows : {B : Type 0} (f : Float → B) (rows : List ℤ) → map f (beats_of (sheet_questions rows)) ≡ map (λ (r : ℤ). f (beat_of binary64 r)) rows
over-rows f [] = refl
over-rows f (r ∷ rows) = ap (◌∷◌ (f (beat_of binary64 r))) (over-rows f rows)

at_most : (n f all m : ℕ) → n ≤ (f + 1) * all + m → f ≡ 0 → n ≤ all + m
at_most n f all m h e = let k : n ≤ 1 * all + m = rw e at h in omega arith

module _ (s : Song) (taken : timing_number s.timing s.offset s.global ≡ 0) (rows : List ℤ) (near : every row_in rows ≡ true) where
  numbers : map number_of (sheet_answers s rows) ≡ map (λ (r : ℤ). 0) rows
  unfolding last_cursor
  numbers =
      numbers-alone s.timing s.offset s.global taken [] (sheet_questions rows)
      ∙ over-rows (λ (b : Float). (alone s.timing s.offset s.global b).number) rows
      ∙ go rows near
    where
      go : (rest : List ℤ) → every row_in rest ≡ true → map (λ (r : ℤ). (alone s.timing s.offset s.global (beat_of binary64 r)).number) rest ≡ map (λ (r : ℤ). 0) rest
      go [] h = refl
      go (r ∷ rest) h =
          let n = every_rest row_in r rest h in
          rw (fresh-number s.timing s.offset s.global (beat_of binary64 r) (row-taken r n.0) ∙ taken, go rest n.1)

  times : map time_of (sheet_answers s rows) ≡ map (time_alone s) rows
  unfolding last_cursor
  times =
      times-alone s.timing s.offset s.global taken [] (sheet_questions rows)
      ∙ over-rows (λ (b : Float). (alone s.timing s.offset s.global b).time) rows

  -- by demand 3, with F = 0
  pub steps-few : every_two lt_z rows ≡ true → total (map count_of (sheet_answers s rows)) ≤ events s.timing + length rows
  steps-few up =
      let most : total (map count_of (sheet_answers s rows)) ≤ most_of s.timing rows =
      rw (rows_accepted rows near) at ((demand_three s.timing s.offset s.global taken).costs (sheet_questions rows)) in
      at_most (total (map count_of (sheet_answers s rows))) (falls rows) (events s.timing) (length rows) most (no-falls rows up)

-- a row by itself is not refused where the lookup takes all
marks-alone : (s : Song) → judgable_number (notes_of s) true ≡ 0 → (rows : List ℤ) → every row_in rows ≡ true → map (judged_of s) rows ≡ map (judged_alone s) rows
unfolding looked
marks-alone s taken [] near = refl
marks-alone s taken (r ∷ rows) near =
    let n = every_rest row_in r rows near in
    let here : judged_alone s r ≡ judged_of s r = rw (n.0, taken) in
    rw (here, marks-alone s taken rows n.1)

-- ---- a sheet that is taken
passes : (b : Bool) (n : ℕ) → (n ≡ 0 → ⊥) → pick b 0 n ≡ 0 → b ≡ true
passes true n h e = refl
passes false n h e = absurd (h e)

-- what the number 0 says
pub record Taken (s : Song) (rows : List ℤ) (room : ℕ) : Type 0 where
  pub timing_taken : timing_number s.timing s.offset s.global ≡ 0
  pub lookup_taken : judgable_number (notes_of s) (every row_in rows) ≡ 0
  pub near : every row_in rows ≡ true
  pub up : every_two lt_z rows ≡ true
  pub places : length rows ≤ room

module _ (s : Song) (rows : List ℤ) (room : ℕ) where
  pub sheet_taken_lem : sheet_number s rows room ≡ 0 → Taken s rows room
  unfolding sheet_number rows_order_number sheet_room_number
  sheet_taken_lem h =
      let all = lower-none (lower (timing_number s.timing s.offset s.global) (lower (rows_order_number rows) (sheet_room_number (length rows) room))) (judgable_number (notes_of s) (every row_in rows)) h in
      let own = lower-none (timing_number s.timing s.offset s.global) (lower (rows_order_number rows) (sheet_room_number (length rows) room)) all.0 in
      let last = lower-none (rows_order_number rows) (sheet_room_number (length rows) room) own.1 in
      let fakes = (lower-none _ _ all.1).1 in
      record {
        timing_taken = own.0;
        lookup_taken = all.1;
        near = passes (every row_in rows) 3 (λ e. omega arith) (lower-none _ _ fakes).1;
        up = passes (every_two lt_z rows) 5 (λ e. omega arith) last.0;
        places = leb-true (length rows) room (passes (leb (length rows) room) 7 (λ e. omega arith) last.1);
      }

-- The theorem: wherever the sheet is taken, no row is refused, each time is a fresh cursor's, each mark the lookup's, and the steps are at most B + S + D + 2W and the
-- number of rows.
pub taken_sheet_kept : (s : Song) (rows : List ℤ) (room : ℕ) → sheet_number s rows room ≡ 0 → SheetKept s rows
taken_sheet_kept s rows room h =
    let t = sheet_taken_lem s rows room h in
    record {
      numbers = numbers s t.timing_taken rows t.near;
      times = times s t.timing_taken rows t.near;
      marks = marks-alone s (rw t.near at t.lookup_taken) rows t.near;
      steps = steps-few s t.timing_taken rows t.near t.up;
    }
