-- The pass, warp by warp: what has been counted, and what is still to come. Assumes nothing.
use Rattle.std.proofs.Common.{◌≡◌, ℕ, ◌+◌, ◌-◌, ◌<◌, ◌≤◌, max, Bool, true, false, ltb, List, [], ◌∷◌, length, get_or, drop, refl, ap, ◌∙◌, add-one, arith, drop_of_length-le, drop-cons, ltb-false, ltb-true}
use lib.Ieee.{Float, nan}
use Rattle.picks.specs.Pick.{pick}
use Rattle.order.specs.Entries.{entries}
use Rattle.rows.specs.RowKey.{row_key_at}
use Rattle.lookup_warped.specs.WarpedRows.{length_rows, span}
use Rattle.lookup_warped.specs.OnePass.{pass_on, one_pass}
use Rattle.lookup_warped.proofs.HowFar.{end-within}

no_lengths : {A B : Type 0} (l : List A) → entries {A = A} {B = B} l [] ≡ []
unfolding entries
no_lengths [] = refl
no_lengths (x ∷ l) = refl

module _ (beats lengths : List Float) where
  abbrev left : ℕ → List (Float × Float)
  left i = entries (drop i beats) (drop i lengths)

  abbrev warp_at : ℕ → Float × Float
  warp_at i = (get_or beats i nan, get_or lengths i nan)

  left-more : (i : ℕ) → i < length beats → i < length lengths → left i ≡ warp_at i ∷ left (i + 1)
  unfolding entries
  left-more i h k = rw (add-one i, drop-cons beats i nan h, drop-cons lengths i nan k)

  -- after i warps
  pub record Passing (rows far i : ℕ) : Type 0 where
    pub few : rows ≤ far
    pub within : far ≤ span
    pub sum : rows + pass_on far (left i) ≡ one_pass (entries beats lengths)

  pub passing-none : Passing 0 0 0
  unfolding one_pass
  passing-none = record { few = omega arith; within = omega arith; sum = omega arith }

  -- no sum is too large
  pub reach-within : (i : ℕ) {start size : ℕ} → start ≡ row_key_at (get_or beats i nan) → size ≡ length_rows (get_or lengths i nan) → start + size ≤ span
  reach-within i s z = omega (arith, end-within (warp_at i))

  module _ {rows far i start size first : ℕ} (h : i < length beats) (k : i < length lengths) (p : Passing rows far i)
      (s : start ≡ row_key_at (get_or beats i nan)) (z : size ≡ length_rows (get_or lengths i nan)) (f : first ≡ max far start) where
    pub sum-within : rows + (start + size - first) ≤ span
    sum-within = omega (arith, reach-within i s z, p.few, p.within)

    furthest_so_far : (b : Bool) → ltb first (start + size) ≡ b → (rows + (start + size - first) ≤ pick b (start + size) far) × (pick b (start + size) far ≤ span)
    furthest_so_far true e = (omega (arith, ltb-true first (start + size) e, p.few), reach-within i s z)
    furthest_so_far false e = (omega (arith, ltb-false first (start + size) e, p.few), p.within)

    pub passing-on : Passing (rows + (start + size - first)) (pick (ltb first (start + size)) (start + size) far) (i + 1)
    passing-on =
        let both = furthest_so_far (ltb first (start + size)) refl in
        let next : pass_on far (left i) ≡ (start + size - first) + pass_on (pick (ltb first (start + size)) (start + size) far) (left (i + 1)) =
        ap (pass_on far) (left-more i h k) ∙ unfold pass_on in (rw (f, s, z)) in
        record { few = both.0; within = both.1; sum = omega (arith, p.sum) }

  module _ {rows far i : ℕ} (p : Passing rows far i) where
    ended : left i ≡ [] → rows ≡ one_pass (entries beats lengths)
    ended e =
        let none : pass_on far (left i) ≡ 0 = ap (pass_on far) e ∙ unfold pass_on in refl in
        omega (arith, p.sum)

    pub passing-end : length beats ≤ i → rows ≡ one_pass (entries beats lengths)
    passing-end h = ended (ap (λ (l : List Float). entries l (drop i lengths)) (drop_of_length-le beats h) ∙ unfold entries in refl)

    pub passing-short : length lengths ≤ i → rows ≡ one_pass (entries beats lengths)
    passing-short h = ended (ap (entries (drop i beats)) (drop_of_length-le lengths h) ∙ no_lengths (drop i beats))
