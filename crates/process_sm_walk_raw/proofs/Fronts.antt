-- What a call has laid is read back from the fronts of its columns. Assumes nothing.
use Prim.Native.Nat.{ℕ, ◌≤◌, min}
use mathlib.Core.Path.{◌≡◌, sym, ap, ◌∙◌}
use mathlib.Core.List.{List, map}
use mathlib.Core.Logic.{⊎_elim}
use native.Mathlib.Omega.{arith}
use lib.ListN.{length, take, length-map}
use lib.Ieee.{Float}
use Rattle.order.specs.Order.{laid}
use Rattle.order.specs.Entries.{first, second}
use Rattle.order.proofs.Compare.{same?}
use Rattle.order.proofs.LaidOverFront.{laid-length}
use Rattle.columns.specs.Laying.{given, room_number, LaidList}
use Rattle.columns.proofs.Rooms.{number_of_tests, number-taken}
use Rattle.process_raw.proofs.FrontRead.{front_read}

-- a room that is long enough adds no refusal
pub number-given : (n count room : ℕ) → (n ≡ 0 → count ≤ room) → room_number n count room ≡ n
number-given n count room fits = ⊎_elim (λ z. sym (number-taken n count room z (fits z)) ∙ sym z) (λ h. sym (number_of_tests n count room h)) (same? n 0)

-- a column with so much of a list laid over its front
pub record Front (count : ℕ) (column : List Float) (is : List Float) : Type 0 where
  pub inside : count ≤ length column
  pub read : take count column ≡ is

pub front : (field : Float × Float → Float) (list : List (Float × Float)) (old : List Float) {new : List Float} {count : ℕ} → length list ≤ length old → count ≡ length list → new ≡ laid (map field list) old → Front count new (map field list)
front field list old {new} {count} room c e =
    let fits : length (map field list) ≤ length old = simp length-map room in
    record {
      inside = omega (arith, c, room, ap length e ∙ laid-length (map field list) old fits);
      read = ap (take count) e ∙ front_read (map field list) old count (c ∙ sym (length-map list field));
    }

-- of a list that a call has laid
module _ {number : ℕ} {result : List (Float × Float)} {count : ℕ} {first_old first_new second_old second_new : List Float} (p : LaidList number result count first_old first_new second_old second_new) (taken : number ≡ 0)
    (room : length result ≤ min (length first_old) (length second_old)) where
  pub first-front : Front count first_new (map first result)
  unfolding given
  first-front = front first result first_old (omega arith) (rw taken at p.counted) (rw taken at p.first_is)

  pub second-front : Front count second_new (map second result)
  unfolding given
  second-front = front second result second_old (omega arith) (rw taken at p.counted) (rw taken at p.second_is)
