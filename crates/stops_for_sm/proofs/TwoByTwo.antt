-- A flat list tested two numbers at a time. Assumes nothing.
use Rattle.std.proofs.Common.{◌≡◌, ℕ, zero, suc, ◌+◌, ◌<◌, ◌≤◌, Bool, true, false, List, [], ◌∷◌, length, get_or, drop, refl, ap, ◌∙◌, arith, length-drop, drop_of_length-le, drop-cons}
use lib.Ieee.{Float, nan}
use Rattle.picks.specs.Pick.{pick}
use Rattle.limits.specs.Numbers.{in_range}
use Rattle.limits.specs.declared.Range.{Range}
use Rattle.stops_for_sm.specs.Filling.{beats_in, values_in}

drop-one : (i : ℕ) (l : List Float) → drop 1 (drop i l) ≡ drop (suc i) l
drop-one zero l = refl
drop-one (suc i) [] = refl
drop-one (suc i) (x ∷ l) = drop-one i l

drop-two : (i : ℕ) (l : List Float) → drop 1 (drop (suc i) l) ≡ drop (i + 2) l
drop-two i l = let e : suc (suc i) ≡ i + 2 = omega arith in drop-one (suc i) l ∙ ap (λ (k : ℕ). drop k l) e

-- ---- the beats
by-beat : (range : Range) (x : Float) (l : List Float) → beats_in range (x ∷ l) ≡ pick (in_range range x) (beats_in range (drop 1 l)) false
unfolding beats_in
by-beat range x [] = go (in_range range x)
  where
    go : (b : Bool) → b ≡ pick b true false
    go true = refl
    go false = refl
by-beat range x (v ∷ l) = refl

module _ (range : Range) (list : List Float) (i : ℕ) where
  pub beats-none : length list ≤ i → beats_in range (drop i list) ≡ true
  unfolding beats_in
  beats-none h = ap (beats_in range) (drop_of_length-le list h)

  pub beat-parts : i < length list → beats_in range (drop i list) ≡ pick (in_range range (get_or list i nan)) (beats_in range (drop (i + 2) list)) false
  beat-parts within =
      ap (beats_in range) (drop-cons list i nan within)
      ∙ by-beat range (get_or list i nan) (drop (suc i) list)
      ∙ ap (λ (l : List Float). pick (in_range range (get_or list i nan)) (beats_in range l) false) (drop-two i list)

-- ---- the values
short : (range : Range) (l : List Float) → length l ≤ 1 → values_in range l ≡ true
unfolding values_in
short range [] h = refl
short range (b ∷ []) h = refl
short range (b ∷ v ∷ l) h = absurd (omega arith)

module _ (range : Range) (list : List Float) (i : ℕ) where
  pub values-none : length list ≤ i + 1 → values_in range (drop i list) ≡ true
  values-none h = short range (drop i list) (omega (arith, length-drop i list))

  pub value-parts : i + 1 < length list → values_in range (drop i list) ≡ pick (in_range range (get_or list (i + 1) nan)) (values_in range (drop (i + 2) list)) false
  unfolding values_in
  value-parts within =
      let two : suc (i + 1) ≡ i + 2 = omega arith in
      let one : suc i ≡ i + 1 = omega arith in
      ap (values_in range)
      (drop-cons list i nan (omega arith)
      ∙ ap (λ (l : List Float). get_or list i nan ∷ l) (ap (λ (k : ℕ). drop k list) one ∙ drop-cons list (i + 1) nan within))
      ∙ ap (λ (k : ℕ). pick (in_range range (get_or list (i + 1) nan)) (values_in range (drop k list)) false) two
