-- A result over the fronts of two rooms, each front turned round in its place: there lies the result turned round. Assumes nothing.
use Prim.Native.Nat.{ℕ, ◌≤◌, min}
use mathlib.Core.Path.{◌≡◌, refl, sym, ap, ap₂, ◌∙◌}
use mathlib.Core.Bool.{Bool, true, false}
use mathlib.Core.List.{List, [], ◌++◌, map, reverse}
use mathlib.Core.Logic.{⊎_elim}
use native.Mathlib.Omega.{arith}
use borrow.Author.Tests.{eq-eqb, ne_eqb}
use lib.Dec.{eqb}
use lib.ListN.{length, take, drop, length-map, length-reverse}
use lib.Seq.{take_at, drop_at}
use lib.Ieee.{Float}
use Rattle.picks.specs.Pick.{pick}
use Rattle.order.specs.Order.{laid}
use Rattle.order.specs.Entries.{first, second}
use Rattle.order.proofs.Compare.{same?}
use Rattle.order.proofs.TurnedRound.{turned-map}
use Rattle.columns.specs.declared.Outcome.{Outcome}
use Rattle.columns.specs.Laying.{room_number, given, LaidPair}
use Rattle.columns.proofs.Rooms.{pair_fits}

-- a room whose first entries are turned round
abbrev pub front_turned : {A : Type 0} → ℕ → List A → List A
front_turned count room = reverse (take count room) ++ drop count room

front-turned : {A : Type 0} (front old : List A) (count : ℕ) → count ≡ length front → front_turned count (laid front old) ≡ laid (reverse front) old
unfolding laid
front-turned front old count e =
    let rest = drop (length front) old in
    ap₂ ◌++◌ (ap reverse (take_at front rest count (sym e))) (drop_at front rest count (sym e)) ∙ ap (λ (n : ℕ). reverse front ++ drop n old) (sym (length-reverse front))

given-turned : {A : Type 0} (number : ℕ) (result : List A) → given number (reverse result) ≡ reverse (given number result)
unfolding given
given-turned {A} number result = either (eqb number 0)
  where
    either : (taken : Bool) → pick taken (reverse result) [] ≡ reverse (pick taken result [])
    either true = refl
    either false = refl

module _ {tests : ℕ} {result : List (Float × Float)} {outcome : Outcome} {first_old first_new second_old second_new : List Float}
    (p : LaidPair tests result outcome first_old first_new second_old second_new) where
  abbrev list : List (Float × Float)
  list = given outcome.number result

  column : (field : Float × Float → Float) (old new : List Float) → new ≡ laid (map field list) old
      → front_turned outcome.count new ≡ laid (map field (given outcome.number (reverse result))) old
  column field old new e =
      ap (front_turned outcome.count) e ∙ front-turned (map field list) old outcome.count (p.count ∙ sym (length-map list field))
      ∙ ap (λ (l : List Float). laid l old) (sym (turned-map field list) ∙ ap (map field) (sym (given-turned outcome.number result)))

  pub pair-turned : LaidPair tests (reverse result) outcome first_old (front_turned outcome.count first_new) second_old (front_turned outcome.count second_new)
  pair-turned = record {
    number = p.number ∙ ap (λ (n : ℕ). room_number tests n (min (length first_old) (length second_old))) (sym (length-reverse result));
    count = p.count ∙ sym (ap length (given-turned outcome.number result) ∙ length-reverse list);
    first_is = column first first_old first_new p.first_is;
    second_is = column second second_old second_new p.second_is;
  }

-- the fronts are in their rooms
pub front_fits : {result : List (Float × Float)} {outcome : Outcome} {first_old first_new second_old second_new : List Float} → LaidPair 0 result outcome first_old first_new second_old second_new
    → outcome.count ≤ min (length first_old) (length second_old)
unfolding given
front_fits {outcome = outcome} p =
    ⊎_elim (λ e. omega (arith, rw (eq-eqb outcome.number 0 e) at p.count, pair_fits p e))
    (λ n. omega (arith, rw (ne_eqb outcome.number 0 n) at p.count)) (same? outcome.number 0)
