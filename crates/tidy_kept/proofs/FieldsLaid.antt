-- One field of a list of entries laid over the front of its room, entry by entry. Assumes nothing.
use Prim.Native.Nat.{ℕ, ◌+◌, ◌≤◌, ◌<◌}
use mathlib.Core.Path.{◌≡◌, ap, ◌∙◌}
use mathlib.Core.List.{List, [], ◌∷◌, map}
use native.Mathlib.Omega.{arith}
use lib.ListN.{length, set, length-map}
use Rattle.order.specs.Order.{laid}
use Rattle.order.proofs.LaidOverFront.{Laying, laying-none, laying-room, laying-more, laying-count, laying-all}

-- `f`: what is done with an entry before it is written; of the whole list `left` is still to come
module _ {A C D : Type 0} (f : A → C) (field : C → D) where
  abbrev pub LayingField : (whole left : List A) (old new : List D) → ℕ → Type 0
  LayingField whole left old new count = Laying (map field (map f whole)) old new (map field (map f left)) count

  pub field-none : (whole left : List A) (old : List D) → left ≡ whole → LayingField whole left old old 0
  field-none whole left old e = rw e (laying-none (map field (map f whole)) old)

  module _ (whole left : List A) (old new : List D) (count : ℕ) (p : LayingField whole left old new count) where
    abbrev fields : List A → List D
    fields l = map field (map f l)

    pub field-same : (other : List A) → left ≡ other → LayingField whole other old new count
    field-same other e = rw e at p

    pub field_room : (e : A) (less : List A) → left ≡ e ∷ less → length whole ≤ length old → count < length new
    field_room e less is h = laying-room (fields whole) old new (fields left) count p (field (f e)) (fields less) (ap fields is) (simp length-map (omega arith))

    pub field-more : (e : A) (less : List A) → left ≡ e ∷ less → (other : List D) → other ≡ set new count (field (f e)) → count < length new → LayingField whole less old other (count + 1)
    field-more e less is other so h = rw so (laying-more (fields whole) old new (fields left) count p (field (f e)) (fields less) (ap fields is) h)

    pub field-count : left ≡ [] → count ≡ length whole
    field-count is = laying-count (fields whole) old new (fields left) count p (ap fields is) ∙ simp length-map

    pub field-all : left ≡ [] → new ≡ laid (fields whole) old
    field-all is = laying-all (fields whole) old new (fields left) count p (ap fields is)
