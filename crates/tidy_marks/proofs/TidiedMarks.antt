-- Marks tidied as numbers, and read back, are the marks of the tidied list: tidying commutes with what is done to each value, so nothing is said of floats but of 0 and 1. Assumes nothing.
use Prim.Native.Nat.{ℕ, zero, suc, ◌≤◌, ◌<◌, min}
use mathlib.Core.Path.{◌≡◌, refl, sym, ap, ◌∙◌}
use mathlib.Core.Bool.{true}
use mathlib.Core.List.{List, [], ◌∷◌, map, map-map}
use native.Mathlib.Omega.{arith}
use borrow.Author.Tests.{leb-true}
use lib.ListN.{length, take, length-map}
use lib.Seq.{take_at}
use lib.Ieee.{Float, of_int, lt, le, eq}
use Rattle.limits.specs.declared.Kind.TheVariants.{Beat, Value}
use Rattle.limits.specs.Numbers.{range_of, in_range, all_in, every}
use Rattle.limits.proofs.Every.{every_rest}
use Rattle.limits.proofs.ListTaken.{list-passes}
use Rattle.order.specs.Order.{laid}
use Rattle.order.specs.Entries.{second}
use Rattle.order.proofs.LaidOverFront.{laid-length}
use Rattle.columns.specs.declared.Outcome.{Outcome}
use Rattle.columns.specs.Each.{laid_each}
use Rattle.columns.specs.Laying.{refused_by, given, LaidList}
use Rattle.columns.proofs.Rooms.{number_of_tests, number-taken, number_no_room, nothing-given, list_of_pair}
use Rattle.columns.proofs.EachOverFront.{each_over_front}
use Rattle.tidy_rows.specs.RowTidying.{tidy_rows, rows_number, RowsTidied}
use Rattle.tidy_rows.proofs.NoLonger.{tidy_no_longer}
use Rattle.tidy_rows.proofs.AnyValues.{tidy-seconds}
use Rattle.tidy_warps.specs.Marks.{is_mark}
use Rattle.tidy_warps.specs.WarpTidying.{tidy_marks}
use Rattle.tidy_marks.specs.MarkTidying.{marked_number, MarksTidied}
use Rattle.tidy_marks.specs.inside.MarkNumbers.{mark_number, number_mark}
use Rattle.tidy_marks.proofs.MarkedTaken.{MarkedList, marked-passes}

-- ---- one mark
abbrev there_and_back : ℕ → ℕ
there_and_back mark = number_mark (mark_number mark)

mark-back : (mark : ℕ) → is_mark mark ≡ true → there_and_back mark ≡ mark
unfolding number_mark of_int lt
mark-back zero h = refl
mark-back (suc zero) h = refl
mark-back (suc (suc mark)) h = absurd (omega (arith, leb-true (suc (suc mark)) 1 h))

number_in : (mark : ℕ) → is_mark mark ≡ true → in_range (range_of Value) (mark_number mark) ≡ true
unfolding in_range of_int lt le eq
number_in zero h = refl
number_in (suc zero) h = refl
number_in (suc (suc mark)) h = absurd (omega (arith, leb-true (suc (suc mark)) 1 h))

-- ---- a column
marks-back : (marks : List ℕ) → every is_mark marks ≡ true → map there_and_back marks ≡ marks
marks-back [] h = refl
marks-back (m ∷ marks) h = let p = every_rest is_mark m marks h in rw (mark-back m p.0, marks-back marks p.1)

numbers_in_lem : (marks : List ℕ) → every is_mark marks ≡ true → all_in (range_of Value) (map mark_number marks) ≡ true
unfolding every
numbers_in_lem [] h = refl
numbers_in_lem (m ∷ marks) h = let p = every_rest is_mark m marks h in rw (number_in m p.0, numbers_in_lem marks p.1)

-- ---- refused by the tests
pub marks-refused : (beats : List Float) (marks old : List ℕ) (n : ℕ) → n ≡ marked_number beats marks → (n ≡ 0 → ⊥) → MarksTidied beats marks (refused_by n) old old
unfolding laid
marks-refused beats marks old n e h =
    let none = nothing-given (tidy_marks beats marks) n h in
    record { number = e ∙ number_of_tests _ _ _ (λ z. h (e ∙ z)); count = rw none; marks_are = rw none }

-- ---- a list that is taken
module _ (beats : List Float) (marks : List ℕ) (p : MarkedList beats marks) where
  taken : rows_number beats (map mark_number marks) ≡ 0
  taken = list-passes (range_of Beat) (range_of Value) beats (map mark_number marks) p.few (p.even ∙ sym (length-map marks mark_number)) p.beats_in (numbers_in_lem marks p.marks_in)

  abbrev tidied : List (Float × Float)
  tidied = tidy_rows beats (map mark_number marks)

  -- read back, by parametricity
  marks-read : map number_mark (map second tidied) ≡ tidy_marks beats marks
  unfolding tidy_marks
  marks-read =
      ap (map number_mark) (tidy-seconds mark_number beats marks) ∙ map-map number_mark mark_number (map second (tidy_rows beats marks))
      ∙ sym (tidy-seconds there_and_back beats marks) ∙ ap (λ (l : List ℕ). map second (tidy_rows beats l)) (marks-back marks p.marks_in)

  as_many : length (tidy_marks beats marks) ≡ length tidied
  as_many = sym (ap length marks-read) ∙ length-map (map second tidied) number_mark ∙ length-map tidied second

  -- of the call that tidies
  module _ {numbers : List Float} {outcome : Outcome} {beats_old beats_new numbers_old numbers_new : List Float} (n : numbers ≡ map mark_number marks)
      (b : length beats_old ≡ length beats) (v : length numbers_old ≡ length beats) (u : RowsTidied beats numbers outcome beats_old beats_new numbers_old numbers_new) where
    laid_by : RowsTidied beats (map mark_number marks) outcome beats_old beats_new numbers_old numbers_new
    laid_by = rw n at u

    fits : length tidied ≤ min (length beats_old) (length numbers_old)
    fits = omega (arith, tidy_no_longer beats (map mark_number marks), length-map marks mark_number, p.even, b, v)

    number-none : outcome.number ≡ 0
    number-none = laid_by.number ∙ sym (number-taken _ _ _ taken fits)

    list : LaidList 0 tidied outcome.count beats_old beats_new numbers_old numbers_new
    list = list_of_pair laid_by number-none

    counted : outcome.count ≡ length (tidy_marks beats marks)
    unfolding given
    counted = list.counted ∙ sym as_many

    pub room_for_numbers : outcome.count ≤ length numbers_new
    unfolding given
    room_for_numbers =
        omega (arith, list.counted, length-map tidied second, fits, ap length list.second_is, laid-length (map second tidied) numbers_old (omega (arith, length-map tidied second, fits)))

    front : take outcome.count numbers_new ≡ map second tidied
    unfolding given laid
    front = ap (take outcome.count) list.second_is ∙ take_at (map second tidied) _ outcome.count (length-map tidied second ∙ sym list.counted)

    -- the outcome: where the marks fit, and where they do not
    pub marks-laid : {old new : List ℕ} → outcome.count ≤ length old → new ≡ laid_each number_mark (take outcome.count numbers_new) old → MarksTidied beats marks outcome old new
    unfolding given
    marks-laid {old} h e =
        let few : length (map second tidied) ≤ length old = omega (arith, length-map tidied second, list.counted) in
        let whole = e ∙ ap (λ (l : List Float). laid_each number_mark l old) front ∙ each_over_front number_mark (map second tidied) old few ∙ ap (λ (l : List ℕ). laid l old) marks-read in
        record {
          number = number-none ∙ number-taken _ _ _ (marked-passes beats marks p) (omega (arith, counted));
          count = rw number-none counted;
          marks_are = rw number-none whole;
        }

    pub marks_unfit : (old : List ℕ) → length old < outcome.count → MarksTidied beats marks (refused_by 7) old old
    unfolding laid
    marks_unfit old h =
        let none = nothing-given (tidy_marks beats marks) 7 (λ e. omega arith) in
        record {
          number = number_no_room _ _ _ (marked-passes beats marks p) (omega (arith, counted));
          count = rw none;
          marks_are = rw none;
        }
