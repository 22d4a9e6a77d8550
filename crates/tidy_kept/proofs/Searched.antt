-- A search by halves in rows that never fall finds how many are up to one; and its loop. Assumes nothing.
use Prim.Native.Nat.{ℕ, zero, suc, ◌+◌, ◌-◌, ◌/◌, ◌≤◌, ◌<◌}
use mathlib.Core.Path.{◌≡◌, refl, sym, ◌∙◌}
use mathlib.Core.Bool.{Bool, true, false}
use mathlib.Core.List.{List, [], ◌∷◌}
use mathlib.Core.Logic.{inl, inr}
use native.Mathlib.Omega.{arith}
use lib.Dec.{leb}
use lib.ListN.{length, get_or, take}
use lib.Seq.{length-take-le}
use borrow.Author.Tests.{lt-ltb, le-ltb, le-leb, lt-leb}
use Rattle.order.specs.Order.{never_falls, NeverFalls, From}
use Rattle.order.specs.Entries.{entries}
use Rattle.order.proofs.Compare.{below?}
use Rattle.order.proofs.OrderedList.{never_falls_yes}
use Rattle.tidy_kept.specs.Searching.{UpTo, halved, place_after}
use Rattle.tidy_kept.proofs.PlacedByPlace.{Reaches}

module _ {B : Type 0} (row : B → ℕ) (none : B) where
  from_at : (k : ℕ) (l : List B) (j : ℕ) → j < length l → From row k l → k ≤ row (get_or l j none)
  from_at k [] j h p = absurd (omega arith)
  from_at k (x ∷ l) zero h p = p.0
  from_at k (x ∷ l) (suc j) h p = from_at k l j (omega arith) p.1

  rising : (l : List B) (i j : ℕ) → NeverFalls row l → i ≤ j → j < length l → row (get_or l i none) ≤ row (get_or l j none)
  rising [] i j n h k = absurd (omega arith)
  rising (x ∷ l) zero zero n h k = omega arith
  rising (x ∷ l) zero (suc j) n h k = from_at (row x) l j (omega arith) n.0
  rising (x ∷ l) (suc i) zero n h k = absurd (omega arith)
  rising (x ∷ l) (suc i) (suc j) n h k = rising l i j n.1 (omega arith) (omega arith)

  -- what is looked for lies from low to high
  record Searching (beats : List B) (k low high : ℕ) : Type 0 where
    apart : low ≤ high
    inside : high ≤ length beats
    lows : (i : ℕ) → i < low → row (get_or beats i none) ≤ k
    next : high < length beats → k < row (get_or beats high none)

  module _ (beats : List B) (k : ℕ) (so : never_falls row beats ≡ true) where
    module _ (low high middle : ℕ) (s : Searching beats k low high) (from : low ≤ middle) (to : middle < high) where
      up : row (get_or beats middle none) ≤ k → Searching beats k (middle + 1) high
      up h = record {
        apart = omega arith;
        inside = s.inside;
        lows = λ i l. let least = rising beats i middle (never_falls_yes row beats so) (omega arith) (omega (arith, s.inside)) in omega arith;
        next = s.next;
      }

      down : k < row (get_or beats middle none) → Searching beats k low middle
      down h = record { apart = from; inside = omega (arith, s.inside); lows = s.lows; next = λ l. h }

    ends : (low high : ℕ) → high ≤ low → Searching beats k low high → UpTo row none beats k low
    ends low high h s =
        let one : high ≡ low = omega (arith, s.apart) in
        record { within = omega (arith, s.inside); low = s.lows; next = λ l. rw one at (s.next (omega arith)) }

    searched : (steps low high : ℕ) → high - low ≤ steps → Searching beats k low high → UpTo row none beats k (halved (λ (i : ℕ). leb (row (get_or beats i none)) k) steps low high)
    unfolding halved
    searched zero low high h s = ends low high (omega arith) s
    searched (suc steps) low high h s =
        let middle = low + (high - low) / 2 in
        elim (below? low high) [
          | inl l ↦ elim (below? k (row (get_or beats middle none))) [
            | inl t ↦ rw (lt-ltb low high l, lt-leb (row (get_or beats middle none)) k t) (searched steps low middle (omega arith) (down low high middle s (omega arith) (omega arith) t))
            | inr t ↦ rw (lt-ltb low high l, le-leb (row (get_or beats middle none)) k t) (searched steps (middle + 1) high (omega arith) (up low high middle s (omega arith) (omega arith) t))
          ]
          | inr l ↦ rw (le-ltb low high l) (ends low high l s)
        ]

    pub found : UpTo row none beats k (place_after row none beats k)
    found = searched (length beats) 0 (length beats) (omega arith) (record { apart = omega arith; inside = omega arith; lows = λ i h. absurd (omega arith); next = λ h. absurd (omega arith) })

  pub place-within : (beats : List B) (n k at : ℕ) → n ≤ length beats → never_falls row (take n beats) ≡ true → at ≡ place_after row none (take n beats) k → at ≤ n
  place-within beats n k at room so is = omega (arith, (found (take n beats) k so).within, length-take-le n beats room)

-- ---- the loop: what is left of the search ends where the whole one does
module _ (passes : ℕ → Bool) (n : ℕ) where
  pub record Halving (low high : ℕ) : Type 0 where
    pub steps : ℕ
    pub apart : low ≤ high
    pub inside : high ≤ n
    pub enough : high - low ≤ steps
    pub same : halved passes steps low high ≡ halved passes n 0 n

  pub halving_all : Halving 0 n
  halving_all = record { steps = n; apart = omega arith; inside = omega arith; enough = omega arith; same = refl }

  module _ (low high : ℕ) (more : low < high) (inside : high ≤ n) where
    goes-up : (steps : ℕ) → high - low ≤ steps → halved passes steps low high ≡ halved passes n 0 n → passes (low + (high - low) / 2) ≡ true → Halving (low + (high - low) / 2 + 1) high
    unfolding halved
    goes-up zero h e t = absurd (omega arith)
    goes-up (suc steps) h e t = record { steps = steps; apart = omega arith; inside = inside; enough = omega arith; same = rw (lt-ltb low high more, t) at e }

    goes_down : (steps : ℕ) → high - low ≤ steps → halved passes steps low high ≡ halved passes n 0 n → passes (low + (high - low) / 2) ≡ false → Halving low (low + (high - low) / 2)
    unfolding halved
    goes_down zero h e t = absurd (omega arith)
    goes_down (suc steps) h e t = record { steps = steps; apart = omega arith; inside = omega arith; enough = omega arith; same = rw (lt-ltb low high more, t) at e }

  stays : (steps low high : ℕ) → high ≤ low → halved passes steps low high ≡ low
  unfolding halved
  stays zero low high h = refl
  stays (suc steps) low high h = rw (le-ltb low high h)

  module _ (low high : ℕ) (s : Halving low high) where
    pub halving_up : low < high → passes (low + (high - low) / 2) ≡ true → Halving (low + (high - low) / 2 + 1) high
    halving_up more t = goes-up low high more s.inside s.steps s.enough s.same t

    pub halving_down : low < high → passes (low + (high - low) / 2) ≡ false → Halving low (low + (high - low) / 2)
    halving_down more t = goes_down low high more s.inside s.steps s.enough s.same t

    pub halving_ends : high ≤ low → low ≡ halved passes n 0 n
    halving_ends h = sym (stays s.steps low high h) ∙ s.same

-- ---- the same of entries
module _ {B W : Type 0} (row : B → ℕ) (near : W → W → Bool) (none : B) where
  reaches : (k at : ℕ) (beats : List B) (values : List W) → length beats ≡ length values → UpTo row none beats k at → Reaches row near k at (entries beats values)
  unfolding entries
  reaches k zero [] values e u = tt
  reaches k zero (b ∷ beats) [] e u = absurd (omega arith)
  reaches k zero (b ∷ beats) (v ∷ values) e u = u.next (omega arith)
  reaches k (suc at) [] values e u = absurd (omega (arith, u.within))
  reaches k (suc at) (b ∷ beats) [] e u = absurd (omega arith)
  reaches k (suc at) (b ∷ beats) (v ∷ values) e u = (u.low 0 (omega arith), reaches k at beats values (omega arith) less)
    where
      less : UpTo row none beats k at
      less = record { within = omega (arith, u.within); low = λ i h. u.low (suc i) (omega arith); next = λ h. u.next (omega arith) }

  pub reached : (k at : ℕ) (beats : List B) (values : List W) → length beats ≡ length values → UpTo row none beats k at → Reaches row near k at (entries beats values)
  reached = reaches
