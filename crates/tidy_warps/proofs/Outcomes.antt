-- The ends of the call that tidies warps with their marks are its one outcome: refused by its tests, and places tidied, by which lengths and marks are read. Assumes nothing.
use Prim.Native.Nat.{ℕ, zero, suc, ◌≤◌, min}
use mathlib.Core.Path.{◌≡◌, refl, sym, ap, ◌∙◌}
use mathlib.Core.Bool.{Bool, true, false}
use mathlib.Core.List.{List, [], ◌∷◌, ◌++◌, map, append_assoc}
use mathlib.Core.Logic.{⊎_elim}
use native.Mathlib.Omega.{arith}
use borrow.Author.Tests.{le-leb, lt-leb}
use lib.Dec.{eqb}
use lib.ListN.{length, take, drop, get_or, take-append-drop, length-map}
use lib.Seq.{length-take-le, take_at}
use lib.Ieee.{Float, nan}
use Rattle.picks.specs.Pick.{pick}
use Rattle.order.specs.Order.{laid}
use Rattle.order.specs.Entries.{first, second, places}
use Rattle.order.proofs.Compare.{below?, same?}
use Rattle.order.proofs.LaidOverFront.{laid-length}
use Rattle.columns.specs.declared.Outcome.{Outcome}
use Rattle.columns.specs.Each.{laid_each}
use Rattle.columns.specs.Laying.{room_number, refused_by, given, LaidPair}
use Rattle.columns.proofs.Rooms.{nothing-given, number_of_tests, pair_fits}
use Rattle.columns.proofs.EachOverFront.{each_over_front}
use Rattle.tidy_rows.specs.RowTidying.{tidy_rows, RowsTidied}
use Rattle.tidy_rows.proofs.NoLonger.{tidy_no_longer}
use Rattle.tidy_warps.specs.Marks.{Warp, length_of, warp_mark}
use Rattle.tidy_warps.specs.WarpTidying.{tidy_warps, marked_warps_number, WarpsTidied, tidy_marks}
use Rattle.tidy_warps.specs.inside.PlaceNumbers.{place_number, number_place}
use Rattle.tidy_warps.proofs.MarkedTaken.{list-passed, marks-beside}
use Rattle.tidy_warps.proofs.PlacesCarried.{numbers-taken, column-read, beats-read}
use Rattle.tidy_warps.proofs.WithoutMarks.{beats-carried, lengths-carried, marks-carried}

-- ---- a room that is lent in part: what is laid over the part lies over the whole
behind-part : {A : Type 0} (m n : ℕ) (old : List A) → m ≤ n → drop m (take n old) ++ drop n old ≡ drop m old
behind-part zero n old h = take-append-drop n old
behind-part (suc m) zero old h = absurd (omega arith)
behind-part (suc m) (suc n) [] h = refl
behind-part (suc m) (suc n) (x ∷ old) h = behind-part m n old (omega arith)

pub laid_in_part : {A : Type 0} (new old : List A) (n : ℕ) → length new ≤ n → laid new (take n old) ++ drop n old ≡ laid new old
unfolding laid
laid_in_part new old n h = append_assoc new (drop (length new) (take n old)) (drop n old) ∙ ap (◌++◌ new) (behind-part (length new) n old h)

-- ---- what is given of a list, part by part
given-map : {A B : Type 0} (field : A → B) (number : ℕ) (list : List A) → map field (given number list) ≡ given number (map field list)
unfolding given
given-map {A} {B} field number list = go (eqb number 0)
  where
    go : (t : Bool) → map field (pick t list []) ≡ pick t (map field list) []
    go true = refl
    go false = refl

-- a room for no more than there can be tells as much
room-enough : (count room most : ℕ) → count ≤ most → room_number 0 count (min room most) ≡ room_number 0 count room
unfolding room_number
room-enough count room most h =
    ⊎_elim
    (λ l. rw (lt-leb count (min room most) (omega arith), lt-leb count room l))
    (λ l. rw (le-leb count (min room most) (omega arith), le-leb count room l))
    (below? room count)

-- a column laid by a list that fits, and what its front is then
module _ {A B : Type 0} (f : A → B) (from : List A) (old : List B) {count : ℕ} {new : List B} (many : count ≡ length from) (fits : count ≤ length old) (e : new ≡ laid_each f from old) where
  laid_by : new ≡ laid (map f from) old
  laid_by = e ∙ each_over_front f from old (omega arith)

  front_by : take count new ≡ map f from
  unfolding laid
  front_by = ap (take count) laid_by ∙ take_at (map f from) (drop (length (map f from)) old) count (length-map from f ∙ sym many)

-- ---- the ends
module _ (beats lengths : List Float) (marks : List ℕ) (beats_old lengths_old : List Float) (marks_old : List ℕ) where
  abbrev result : List Warp
  result = tidy_warps beats lengths marks

  abbrev least : ℕ
  least = min (min (length beats_old) (length lengths_old)) (length marks_old)

  pub refused_by_tests : (n : ℕ) → n ≡ marked_warps_number beats lengths marks → (n ≡ 0 → ⊥) → WarpsTidied beats lengths marks (refused_by n) beats_old beats_old lengths_old lengths_old marks_old marks_old
  unfolding laid
  refused_by_tests n e h =
      let none = nothing-given result n h in
      record { number = e ∙ number_of_tests _ _ _ (λ z. h (e ∙ z)); count = rw none; beats_are = rw none; lengths_are = rw none; marks_are = rw none }

  -- of a list that is taken, places are tidied into a room that is cut to the least, beside a column as long as the list
  module _ (taken : marked_warps_number beats lengths marks ≡ 0) {numbers : List Float} (are : numbers ≡ map place_number (places (length beats)))
      {room : ℕ} (r : room ≡ least) {outcome : Outcome} {beats_new tidied_old tidied_new : List Float} (long : length tidied_old ≡ length beats)
      (p : RowsTidied beats numbers outcome (take room beats_old) beats_new tidied_old tidied_new) where
    abbrev number : ℕ
    number = outcome.number

    abbrev tidied : List (Float × Float)
    tidied = tidy_rows beats (map place_number (places (length beats)))

    few : length beats ≤ 1024
    few = (list-passed beats lengths marks taken).few

    even : length beats ≡ length lengths
    even = (list-passed beats lengths marks taken).even

    marked : length beats ≡ length marks
    marked = marks-beside beats lengths marks taken

    both : length lengths ≡ length marks
    both = sym even ∙ marked

    pair : LaidPair 0 tidied outcome (take room beats_old) beats_new tidied_old tidied_new
    pair = rw (numbers-taken beats few (list-passed beats lengths marks taken).beats_in) at (rw are at p)

    -- as many rows are left of the places as of the warps
    beats-are : map first tidied ≡ map first result
    beats-are = beats-read beats few nan lengths even ∙ sym (beats-carried beats lengths marks both)

    as_many : length tidied ≡ length result
    as_many = sym (length-map tidied first) ∙ ap length beats-are ∙ length-map result first

    no_more : length tidied ≤ length beats
    no_more = omega (arith, tidy_no_longer beats (map place_number (places (length beats))))

    rooms : min (length (take room beats_old)) (length tidied_old) ≡ min least (length beats)
    rooms = omega (arith, r, long, length-take-le room beats_old (omega (arith, r)))

    number_is : number ≡ room_number (marked_warps_number beats lengths marks) (length result) least
    number_is =
        pair.number ∙ ap (room_number 0 (length tidied)) rooms ∙ room-enough (length tidied) least (length beats) no_more
        ∙ ap (λ (n : ℕ). room_number 0 n least) as_many ∙ ap (λ (n : ℕ). room_number n (length result) least) (sym taken)

    counted : outcome.count ≡ length (map second (given number tidied))
    counted = pair.count ∙ sym (length-map (given number tidied) second)

    fits : outcome.count ≤ min least (length beats)
    unfolding given
    fits =
        ⊎_elim (λ h. omega (arith, (rw h at pair.count), pair_fits pair h, rooms)) (λ h. omega (arith, ap length (nothing-given tidied number h), pair.count)) (same? number 0)

    -- the numbers of the places that are left
    abbrev left : List Float
    left = map second (given number tidied)

    tidied-front : take outcome.count tidied_new ≡ left
    unfolding laid
    tidied-front = ap (take outcome.count) pair.second_is ∙ take_at left (drop (length left) tidied_old) outcome.count (sym counted)

    pub in_tidied : outcome.count ≤ length tidied_new
    in_tidied = omega (arith, fits, long, ap length pair.second_is, laid-length left tidied_old (omega (arith, counted, fits, long)))

    -- read back, and columns read at them
    module _ (kept_old : List ℕ) {kept_new : List ℕ} (k : length kept_old ≡ length beats) (q : kept_new ≡ laid_each number_place (take outcome.count tidied_new) kept_old) where
      read_of : kept_new ≡ laid_each number_place left kept_old
      read_of = q ∙ ap (λ (l : List Float). laid_each number_place l kept_old) tidied-front

      in_room : outcome.count ≤ length kept_old
      in_room = omega (arith, fits, k)

      pub in_kept : outcome.count ≤ length kept_new
      in_kept =
          omega (arith, in_room, ap length (laid_by number_place left kept_old counted in_room read_of), length-map left number_place, counted, laid-length (map number_place left) kept_old (omega (arith, length-map left number_place, counted, in_room)))

      module _ {X : Type 0} (none : X) (values : List X) (same : length beats ≡ length values) (old : List X) {new : List X} (room_for : outcome.count ≤ length old)
          (e : new ≡ laid_each (λ (place : ℕ). get_or values place none) (take outcome.count kept_new) old) where
        abbrev at : ℕ → X
        at place = get_or values place none

        values-left : map at (map number_place left) ≡ given number (map second (tidy_rows beats values))
        values-left =
            rw (given-map second number tidied, given-map number_place number (map second tidied), given-map at number (map number_place (map second tidied)))
            (ap (given number) (column-read beats few none values same))

        column-laid : new ≡ laid (given number (map second (tidy_rows beats values))) old
        column-laid =
            laid_by at (map number_place left) old (counted ∙ sym (length-map left number_place)) room_for
            (e ∙ ap (λ (l : List ℕ). laid_each at l old) (front_by number_place left kept_old counted in_room read_of))
            ∙ ap (λ (l : List X). laid l old) values-left

      -- of each column of the warps
      beats-left : map first (given number tidied) ≡ map first (given number result)
      beats-left = given-map first number tidied ∙ ap (given number) beats-are ∙ sym (given-map first number result)

      pub all_read : {lengths_new : List Float} {marks_new : List ℕ} → lengths_new ≡ laid_each (λ (place : ℕ). get_or lengths place nan) (take outcome.count kept_new) lengths_old
          → marks_new ≡ laid_each (λ (place : ℕ). get_or marks place 0) (take outcome.count kept_new) marks_old
          → WarpsTidied beats lengths marks outcome beats_old (beats_new ++ drop room beats_old) lengths_old lengths_new marks_old marks_new
      unfolding tidy_marks
      all_read l m = record {
        number = number_is;
        count = pair.count ∙ sym (length-map (given number tidied) first) ∙ ap length beats-left ∙ length-map (given number result) first;
        beats_are =
            ap (λ (l : List Float). l ++ drop room beats_old) pair.first_is
            ∙ laid_in_part (map first (given number tidied)) beats_old room (omega (arith, length-map (given number tidied) first, pair.count, fits, r))
            ∙ ap (λ (l : List Float). laid l beats_old) beats-left;
        lengths_are =
            column-laid nan lengths even lengths_old (omega (arith, fits)) l
            ∙ ap (λ (l : List Float). laid l lengths_old) (ap (given number) (sym (lengths-carried beats lengths marks both)) ∙ sym (given-map length_of number result));
        marks_are =
            column-laid 0 marks marked marks_old (omega (arith, fits)) m
            ∙ ap (λ (l : List ℕ). laid l marks_old) (ap (given number) (sym (marks-carried beats lengths marks both)) ∙ sym (given-map warp_mark number result));
      }
