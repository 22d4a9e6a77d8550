-- The ends of the calls are their one outcome. Assumes nothing.
use Prim.Native.Nat.{ℕ, ◌≤◌, ◌<◌, min}
use mathlib.Core.Path.{◌≡◌, refl, sym, ap, ◌∙◌}
use mathlib.Core.Bool.{Bool, true, false}
use mathlib.Core.List.{List, map}
use mathlib.Core.Logic.{⊎_elim}
use native.Mathlib.Omega.{arith}
use borrow.Author.Tests.{eq-eqb, ne_eqb, le-leb, lt-leb, lt-ltb, ltb-false, eqb-true}
use lib.Dec.{ltb, eqb}
use lib.ListN.{length, length-map}
use lib.Ieee.{Float}
use Rattle.picks.specs.Pick.{pick}
use Rattle.rows.specs.Rows.{quantized}
use Rattle.limits.specs.declared.Range.{Range}
use Rattle.limits.specs.Numbers.{all_in}
use Rattle.limits.specs.Refusals.{list_number}
use Rattle.order.specs.Order.{laid}
use Rattle.order.specs.Entries.{first, second}
use Rattle.order.proofs.Compare.{below?, same?}
use Rattle.columns.specs.declared.Outcome.{Outcome}
use Rattle.columns.specs.Laying.{room_number, refused_by, given, LaidPair}
use Rattle.columns.proofs.Rooms.{refused_by_tests}
use Rattle.tidy_rows.specs.RowTidying.{tidy_rows, RowsTidied}
use Rattle.tidy_rows.proofs.NoLonger.{tidy_no_longer}
use Rattle.assembly_rows.specs.AssembledRows.{narrowed_entry, narrowed_front, change_by, assembled_rows, assembled_number, RowsAssembled, rows_fit_in}
use Rattle.assembly_rows.proofs.NarrowedFront.{front_of_result}
use Rattle.assembly_rows.specs.declared.Meaning.{Meaning}

-- ---- the number
pub number_as_tests : (tests count room : ℕ) → (tests ≡ 0 → ⊥) → room_number tests count room ≡ tests
unfolding room_number
number_as_tests tests count room h = rw (ne_eqb tests 0 h)

with_room : (tests count room : ℕ) → tests ≡ 0 → count ≤ room → room_number tests count room ≡ tests
unfolding room_number
with_room tests count room e l = rw (eq-eqb tests 0 e, le-leb count room l) (sym e)

-- where there is room it is that of the tests
pub number_with_room : (tests count room : ℕ) → (tests ≡ 0 → count ≤ room) → room_number tests count room ≡ tests
number_with_room tests count room fits = ⊎_elim (λ e. with_room tests count room e (fits e)) (λ n. number_as_tests tests count room n) (same? tests 0)

-- a room that is long enough for any result counts no more than it has to
pub number_in_room : (tests count short room : ℕ) → count ≤ 1024 → short ≡ min room 1024 → room_number tests count short ≡ room_number tests count room
unfolding room_number
number_in_room tests count short room few e =
    ⊎_elim (λ h. rw (lt-leb count room h, lt-leb count short (omega arith))) (λ h. rw (le-leb count room h, le-leb count short (omega arith))) (below? room count)

-- ---- under a refusal any two results are the same
pub given-same : {A : Type 0} (number : ℕ) (one other : List A) → (number ≡ 0 → one ≡ other) → given number one ≡ given number other
unfolding given
given-same number one other same = ⊎_elim (λ e. rw (eq-eqb number 0 e) (same e)) (λ n. rw (ne_eqb number 0 n)) (same? number 0)

pub room-same : (tests a b room : ℕ) → (tests ≡ 0 → a ≡ b) → room_number tests a room ≡ room_number tests b room
room-same tests a b room same = ⊎_elim (λ e. ap (λ (n : ℕ). room_number tests n room) (same e)) (λ n. number_as_tests tests a room n ∙ sym (number_as_tests tests b room n)) (same? tests 0)

-- a taken call's tests are passed
pub tests-passed : (tests count room : ℕ) → room_number tests count room ≡ 0 → tests ≡ 0
tests-passed tests count room h = ⊎_elim (λ e. e) (λ n. absurd (n (sym (number_as_tests tests count room n) ∙ h))) (same? tests 0)

pub pair_same : {tests : ℕ} {one other : List (Float × Float)} {outcome : Outcome} {first_old first_new second_old second_new : List Float} → (tests ≡ 0 → one ≡ other)
    → LaidPair tests one outcome first_old first_new second_old second_new → LaidPair tests other outcome first_old first_new second_old second_new
pair_same {tests} {one} {other} {outcome} {first_old} {first_new} {second_old} same p =
    let room = min (length first_old) (length second_old) in
    let lists : given outcome.number one ≡ given outcome.number other =
    given-same outcome.number one other (λ e. same (tests-passed tests (length one) room (sym p.number ∙ e))) in
    record {
      number = p.number ∙ room-same tests (length one) (length other) room (λ e. ap length (same e));
      count = p.count ∙ ap length lists;
      first_is = p.first_is ∙ ap (λ (l : List (Float × Float)). laid (map first l) first_old) lists;
      second_is = p.second_is ∙ ap (λ (l : List (Float × Float)). laid (map second l) second_old) lists;
    }

-- refused by a number that the tests give
pub refused_as : {tests number : ℕ} (result : List (Float × Float)) (first_old second_old : List Float) → tests ≡ number → (number ≡ 0 → ⊥)
    → LaidPair tests result (refused_by number) first_old first_old second_old second_old
refused_as {tests} result first_old second_old e h = rw (← e) (refused_by_tests tests result first_old second_old (λ z. h (sym e ∙ z)))

-- ---- a result in columns that hold it, narrowed
module _ {tests : ℕ} {result : List (Float × Float)} {outcome : Outcome} {first_old first_new second_old second_new : List Float}
    (p : LaidPair tests result outcome first_old first_new second_old second_new) (fits : tests ≡ 0 → length result ≤ min (length first_old) (length second_old)) where
  its_number : outcome.number ≡ tests
  its_number = p.number ∙ number_with_room tests (length result) (min (length first_old) (length second_old)) fits

  read_back : outcome.number ≡ 0 → narrowed_front outcome.count first_new second_new ≡ map narrowed_entry result
  unfolding given
  read_back e =
      let counted = rw e at p.count in
      let firsts = rw e at p.first_is in
      let seconds = rw e at p.second_is in
      rw (firsts, seconds) (front_of_result result first_old second_old outcome.count counted)

  pub narrowed-result : {outcome' : Outcome} {out_old out_new other_old other_new : List Float}
      → LaidPair outcome.number (narrowed_front outcome.count first_new second_new) outcome' out_old out_new other_old other_new
      → LaidPair tests (map narrowed_entry result) outcome' out_old out_new other_old other_new
  narrowed-result q = rw its_number at (pair_same read_back q)

-- ---- row lists
pub long-number : (change : Float → Float) (beats values : List Float) → 1024 < length beats → assembled_number change beats values ≡ 1
unfolding list_number
long-number change beats values h = rw (length-map beats quantized, lt-ltb 1024 (length beats) h)

module _ (meaning : Meaning) (beats values : List Float) where
  pub no_longer : length (assembled_rows (change_by meaning) beats values) ≤ length beats
  unfolding assembled_rows
  no_longer =
      omega (arith, length-map (tidy_rows (map quantized beats) (map (change_by meaning) values)) narrowed_entry, tidy_no_longer (map quantized beats) (map (change_by meaning) values), length-map beats quantized)

  -- by way of columns as long as the list
  pub by-columns : {beats_old beats_new values_old values_new out_beats_old out_beats_new out_values_old out_values_new : List Float} {tidied outcome : Outcome}
      → length beats_old ≡ length beats → length values_old ≡ length beats → length values ≡ length beats
      → RowsTidied (map quantized beats) (map (change_by meaning) values) tidied beats_old beats_new values_old values_new
      → LaidPair tidied.number (narrowed_front tidied.count beats_new values_new) outcome out_beats_old out_beats_new out_values_old out_values_new
      → RowsAssembled meaning beats values outcome out_beats_old out_beats_new out_values_old out_values_new
  unfolding assembled_rows
  by-columns b v even p q =
      narrowed-result p (λ e. omega (arith, b, v, even, tidy_no_longer (map quantized beats) (map (change_by meaning) values), length-map beats quantized, length-map values (change_by meaning))) q

  -- where the room holds all that is given
  pub fits_at_once : (room : ℕ) → length beats ≤ room → true ≡ rows_fit_in meaning beats values room
  unfolding rows_fit_in
  fits_at_once room h = rw (le-leb (length beats) room h)

-- ---- whether a list fits a room that is shorter than it
module _ (meaning : Meaning) (beats values : List Float) (room : ℕ) (short : room < length beats) where
  by_number : rows_fit_in meaning beats values room ≡ eqb (room_number (assembled_number (change_by meaning) beats values) (length (assembled_rows (change_by meaning) beats values)) room) 0
  unfolding rows_fit_in
  by_number = rw (lt-leb (length beats) room short)

  pub fits_by_call : {beats_old beats_new values_old values_new : List Float} {outcome : Outcome} → length beats_old ≡ room → length values_old ≡ room
      → RowsAssembled meaning beats values outcome beats_old beats_new values_old values_new → eqb outcome.number 0 ≡ rows_fit_in meaning beats values room
  fits_by_call {beats_old} {beats_new} {values_old} b v p =
      let same : min (length beats_old) (length values_old) ≡ room = omega (arith, b, v) in
      ap (λ (n : ℕ). eqb n 0) (p.number ∙ ap (room_number (assembled_number (change_by meaning) beats values) (length (assembled_rows (change_by meaning) beats values))) same) ∙ sym by_number

  pub long_unfit : 1024 < length beats → false ≡ rows_fit_in meaning beats values room
  long_unfit h =
      let one = long-number (change_by meaning) beats values h in
      let not_taken : assembled_number (change_by meaning) beats values ≡ 0 → ⊥ = λ e. omega (arith, one, e) in
      sym (by_number ∙ ap (λ (n : ℕ). eqb n 0) (number_as_tests (assembled_number (change_by meaning) beats values) (length (assembled_rows (change_by meaning) beats values)) room not_taken ∙ one))

-- ---- a list that is refused for its lengths
module _ (beat value : Range) (f g : Float → Float) (beats values : List Float) where
  lengths-by : (long longer even b v c w : Bool) (n : ℕ) → n ≡ pick long 1 (pick longer 1 (pick even (pick b (pick v 0 4) 3) 2)) → n ≡ 1 → ◌≡◌ {A = ℕ} (pick long 1 (pick longer 1 (pick even (pick c (pick w 0 4) 3) 2))) 1
  lengths-by true longer even b v c w n e h = refl
  lengths-by false true even b v c w n e h = refl
  lengths-by false false true true true c w n e h = absurd (omega arith)
  lengths-by false false true true false c w n e h = absurd (omega arith)
  lengths-by false false true false v c w n e h = absurd (omega arith)
  lengths-by false false false b v c w n e h = absurd (omega arith)

  uneven-by : (long longer even b v c w : Bool) (n : ℕ) → n ≡ pick long 1 (pick longer 1 (pick even (pick b (pick v 0 4) 3) 2)) → n ≡ 2 → ◌≡◌ {A = ℕ} (pick long 1 (pick longer 1 (pick even (pick c (pick w 0 4) 3) 2))) 2
  uneven-by true longer even b v c w n e h = absurd (omega arith)
  uneven-by false true even b v c w n e h = absurd (omega arith)
  uneven-by false false true true true c w n e h = absurd (omega arith)
  uneven-by false false true true false c w n e h = absurd (omega arith)
  uneven-by false false true false v c w n e h = absurd (omega arith)
  uneven-by false false false b v c w n e h = refl

  pub too_long : list_number beat value beats values ≡ 1 → list_number beat value (map f beats) (map g values) ≡ 1
  unfolding list_number
  too_long h =
      rw (length-map beats f, length-map values g)
      (lengths-by (ltb 1024 (length beats)) (ltb 1024 (length values)) (eqb (length beats) (length values)) (all_in beat beats) (all_in value values) (all_in beat (map f beats)) (all_in value (map g values)) _ refl h)

  pub uneven : list_number beat value beats values ≡ 2 → list_number beat value (map f beats) (map g values) ≡ 2
  unfolding list_number
  uneven h =
      rw (length-map beats f, length-map values g)
      (uneven-by (ltb 1024 (length beats)) (ltb 1024 (length values)) (eqb (length beats) (length values)) (all_in beat beats) (all_in value values) (all_in beat (map f beats)) (all_in value (map g values)) _ refl h)

-- and any other one is short, with columns of one length
module _ (beat value : Range) (beats values : List Float) where
  passed : (long longer even b v : Bool) (n : ℕ) → n ≡ pick long 1 (pick longer 1 (pick even (pick b (pick v 0 4) 3) 2)) → (n ≡ 1 → ⊥) → (n ≡ 2 → ⊥) → (long ≡ false) × (even ≡ true)
  passed true longer even b v n e h k = absurd (h e)
  passed false true even b v n e h k = absurd (h e)
  passed false false true b v n e h k = (refl, refl)
  passed false false false b v n e h k = absurd (k e)

  pub lengths-pass : (list_number beat value beats values ≡ 1 → ⊥) → (list_number beat value beats values ≡ 2 → ⊥) → (length beats ≤ 1024) × (length beats ≡ length values)
  unfolding list_number
  lengths-pass h k =
      let p = passed (ltb 1024 (length beats)) (ltb 1024 (length values)) (eqb (length beats) (length values)) (all_in beat beats) (all_in value values) _ refl h k in
      (ltb-false 1024 (length beats) p.0, eqb-true (length beats) (length values) p.1)
