-- Lists whose keys never fall and lie between two numbers, one behind another. Assumes nothing.
use Prim.Native.Nat.{ℕ, ◌≤◌}
use mathlib.Core.List.{List, [], ◌∷◌, ◌++◌}
use native.Mathlib.Omega.{arith}
use Rattle.order.specs.Order.{From, NeverFalls}
use Rattle.order.proofs.OrderedList.{AtMost, at_most_le, at_most_append, from_le, Each}

module _ {A : Type 0} (key : A → ℕ) where
  pub record Segment (low high : ℕ) (list : List A) : Type 0 where
    pub forth : low ≤ high
    pub from : From key low list
    pub up_to : AtMost key high list
    pub rises : NeverFalls key list

  pub none_between : (low high : ℕ) → low ≤ high → Segment low high []
  none_between low high h = record { forth = h; from = tt; up_to = tt; rises = tt }

  pub one-between : (low high : ℕ) (x : A) → low ≤ key x → key x ≤ high → Segment low high (x ∷ [])
  one-between low high x h k = record { forth = omega arith; from = (h, tt); up_to = (k, tt); rises = (tt, tt) }

  from-append : (k : ℕ) (a b : List A) → From key k a → From key k b → From key k (a ++ b)
  from-append k [] b p q = q
  from-append k (x ∷ a) b p q = (p.0, from-append k a b p.1 q)

  rises-append : (k : ℕ) (a b : List A) → AtMost key k a → From key k b → NeverFalls key a → NeverFalls key b → NeverFalls key (a ++ b)
  rises-append k [] b p q r s = s
  rises-append k (x ∷ a) b p q r s = (from-append (key x) a b r.0 (from_le key (key x) k b p.0 q), rises-append k a b p.1 q r.1 s)

  pub one_behind_other : {low mid high : ℕ} {a b : List A} → Segment low mid a → Segment mid high b → Segment low high (a ++ b)
  one_behind_other {low} {mid} {high} {a} {b} p q = record {
    forth = omega (arith, p.forth, q.forth);
    from = from-append low a b p.from (from_le key low mid b p.forth q.from);
    up_to = at_most_append key high a b (at_most_le key mid high a q.forth p.up_to) q.up_to;
    rises = rises-append mid a b p.up_to q.from p.rises q.rises;
  }

  pub each_append : (P : A → Type 0) (a b : List A) → Each key P a → Each key P b → Each key P (a ++ b)
  each_append P [] b p q = q
  each_append P (x ∷ a) b p q = (p.0, each_append P a b p.1 q)
