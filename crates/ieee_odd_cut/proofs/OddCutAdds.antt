-- An odd cut added to an even number at its place, or taken from it, is the odd cut of the exact sum. Assumes nothing.
use mathlib.Core.Path.{◌≡◌, sym, ap, ◌∙◌, subst₂}
use mathlib.Core.Logic.{inl, inr}
use Prim.Native.Nat.{ℕ, ◌+◌, ◌-◌, ◌*◌, ◌%◌, ◌≤◌, ◌<◌}
use native.Mathlib.Nat.{add_comm, mul-le-mul_right, add-mul}
use native.Mathlib.Omega.{arith}
use mathlib.Core.Bool.{Bool, true, false}
use lib.Dec.{ltb}
use borrow.Author.Tests.{lt-ltb, le-ltb}
use Rattle.ieee.proofs.Closest.{lt_or_ge}
use Rattle.ieee.specs.inside.SumSize.{sum_size}
use Rattle.ieee_odd_cut.proofs.OneOddCut.{IsOddCut}

-- ---- a sum of sizes does not ask which comes first
swapped : (alike : Bool) (a b : ℕ) → sum_size alike a b ≡ sum_size alike b a
swapped true a b = add_comm a b
swapped false a b = omega arith

-- ---- w is the odd cut of x by d, and stands beside an even number e, which is e * d
module _ (e x d w : ℕ) (D : 0 < d) (E : e % 2 ≡ 0) (h : IsOddCut x d w) where
  -- the cut is on the side of e on which x is of e * d
  not_above_lem : x ≤ e * d → w ≤ e
  not_above_lem l = go h
    where
      go : IsOddCut x d w → w ≤ e
      go (inl i) = elim (lt_or_ge e w) [ inl g ↦ let m = mul-le-mul_right d g in absurd (omega arith) | inr g ↦ g ]
      go (inr i) = elim (lt_or_ge e w) [ inl g ↦ let m = mul-le-mul_right d g in absurd (omega arith) | inr g ↦ g ]

  above : e * d < x → e < w
  above l = go h
    where
      go : IsOddCut x d w → e < w
      go (inl i) = elim (lt_or_ge e w) [ inl g ↦ g | inr g ↦ let m = mul-le-mul_right d g in absurd (omega arith) ]
      go (inr i) = elim (lt_or_ge e w) [ inl g ↦ g | inr g ↦ let t : w + 1 ≤ e = omega arith in let m = mul-le-mul_right d t in absurd (omega arith) ]

  below : x < e * d → w < e
  below l = go h
    where
      go : IsOddCut x d w → w < e
      go (inl i) = elim (lt_or_ge w e) [ inl g ↦ g | inr g ↦ let m = mul-le-mul_right d g in absurd (omega arith) ]
      go (inr i) = elim (lt_or_ge w e) [ inl g ↦ g | inr g ↦ let t : e + 1 ≤ w = omega arith in let m = mul-le-mul_right d t in absurd (omega arith) ]

  not_below_lem : e * d ≤ x → e ≤ w
  not_below_lem l = go h
    where
      go : IsOddCut x d w → e ≤ w
      go (inl i) = elim (lt_or_ge w e) [ inl g ↦ let m = mul-le-mul_right d g in absurd (omega arith) | inr g ↦ g ]
      go (inr i) = elim (lt_or_ge w e) [ inl g ↦ let m = mul-le-mul_right d g in absurd (omega arith) | inr g ↦ g ]

  -- so the cuts compare as the numbers do
  pub second-less : ltb e w ≡ ltb (e * d) x
  second-less = elim (lt_or_ge (e * d) x) [
    | inl l ↦ lt-ltb e w (above l) ∙ sym (lt-ltb (e * d) x l)
    | inr l ↦ le-ltb e w (not_above_lem l) ∙ sym (le-ltb (e * d) x l)
  ]

  pub first-less : ltb w e ≡ ltb x (e * d)
  first-less = elim (lt_or_ge x (e * d)) [
    | inl l ↦ lt-ltb w e (below l) ∙ sym (lt-ltb x (e * d) l)
    | inr l ↦ le-ltb w e (not_below_lem l) ∙ sym (le-ltb x (e * d) l)
  ]

  -- added to the even number, taken from it, and less it
  plus-at : IsOddCut x d w → IsOddCut (e * d + x) d (e + w)
  plus-at (inl i) = inl (omega arith)
  plus-at (inr i) = inr (omega arith, omega arith, omega arith)

  minus-at : IsOddCut x d w → x ≤ e * d → w ≤ e → IsOddCut (e * d - x) d (e - w)
  minus-at (inl i) l g = let m : (e - w) * d + w * d ≡ e * d = sym (add-mul (e - w) w d) ∙ ap (λ (t : ℕ). t * d) (omega arith) in inl (omega arith)
  minus-at (inr i) l g = let m : (e - w) * d + w * d ≡ e * d = sym (add-mul (e - w) w d) ∙ ap (λ (t : ℕ). t * d) (omega arith) in inr (omega arith, omega arith, omega arith)

  less-at : IsOddCut x d w → e * d < x → e < w → IsOddCut (x - e * d) d (w - e)
  less-at (inl i) l g = let m : (w - e) * d + e * d ≡ w * d = sym (add-mul (w - e) e d) ∙ ap (λ (t : ℕ). t * d) (omega arith) in inl (omega arith)
  less-at (inr i) l g = let m : (w - e) * d + e * d ≡ w * d = sym (add-mul (w - e) e d) ∙ ap (λ (t : ℕ). t * d) (omega arith) in inr (omega arith, omega arith, omega arith)

  -- so the sum of the two, of whatever signs, is cut as it should be
  pub second_cut_adds : (alike : Bool) → IsOddCut (sum_size alike (e * d) x) d (sum_size alike e w)
  second_cut_adds true = plus-at h
  second_cut_adds false = elim (lt_or_ge (e * d) x) [
    | inl l ↦ let g = above l in subst₂ (λ (n v : ℕ). IsOddCut n d v) (omega arith) (omega arith) (less-at h l g)
    | inr l ↦ let g = not_above_lem l in subst₂ (λ (n v : ℕ). IsOddCut n d v) (omega arith) (omega arith) (minus-at h l g)
  ]

  pub first_cut_adds : (alike : Bool) → IsOddCut (sum_size alike x (e * d)) d (sum_size alike w e)
  first_cut_adds alike = subst₂ (λ (n v : ℕ). IsOddCut n d v) (swapped alike (e * d) x) (swapped alike e w) (second_cut_adds alike)
