-- The last of the leading entries at or before a beat, found entry by entry. Assumes nothing.
use Rattle.std.proofs.Common.{◌≡◌, ℕ, ◌+◌, ◌<◌, ◌≤◌, true, false, List, [], ◌∷◌, length, get_or, drop, sym, refl, ap, ◌∙◌, add-one, arith, drop_of_length-le, drop-cons}
use lib.Ieee.{Float, nan, le}
use Rattle.clock_walk.specs.Passing.{first_or, last_up_to}

pub first-none : (other : Float) (values : List Float) → length values ≡ 0 → other ≡ first_or other values
first-none other [] e = refl
first-none other (v ∷ values) e = absurd (omega arith)

pub first_some : (other : Float) (values : List Float) → (length values ≡ 0 → ⊥) → get_or values 0 nan ≡ first_or other values
first_some other [] e = absurd (e refl)
first_some other (v ∷ values) e = refl

-- the loop at place i: what is found so far, and the rest of both columns
pub record Finding (beat other : Float) (beats values : List Float) (tempo : Float) (i : ℕ) : Type 0 where
  pub same : last_up_to beat tempo (drop i beats) (drop i values) ≡ last_up_to beat other beats values

no-values : (beat tempo : Float) (beats : List Float) → last_up_to beat tempo beats [] ≡ tempo
unfolding last_up_to
no-values beat tempo [] = refl
no-values beat tempo (b ∷ beats) = refl

module _ (beat other : Float) (beats values : List Float) (tempo : Float) (i : ℕ) (going : Finding beat other beats values tempo i) where
  pub beats-over : length beats ≤ i → tempo ≡ last_up_to beat other beats values
  unfolding last_up_to
  beats-over h = sym (ap (λ (l : List Float). last_up_to beat tempo l (drop i values)) (drop_of_length-le beats h)) ∙ going.same

  pub values-over : length values ≤ i → tempo ≡ last_up_to beat other beats values
  values-over h = sym (ap (last_up_to beat tempo (drop i beats)) (drop_of_length-le values h) ∙ no-values beat tempo (drop i beats)) ∙ going.same

  module _ (in_beats_lem : i < length beats) (in-values : i < length values) where
    parts : last_up_to beat tempo (get_or beats i nan ∷ drop (i + 1) beats) (get_or values i nan ∷ drop (i + 1) values) ≡ last_up_to beat other beats values
    parts =
        sym
        (ap (last_up_to beat tempo (drop i beats)) (drop-cons values i nan in-values ∙ ap (λ (k : ℕ). get_or values i nan ∷ drop k values) (sym (add-one i)))
        ∙ ap (λ (l : List Float). last_up_to beat tempo l (get_or values i nan ∷ drop (i + 1) values)) (drop-cons beats i nan in_beats_lem ∙ ap (λ (k : ℕ). get_or beats i nan ∷ drop k beats) (sym (add-one i))))
        ∙ going.same

    pub later : le (get_or beats i nan) beat ≡ false → tempo ≡ last_up_to beat other beats values
    unfolding last_up_to
    later h = rw h at parts

    pub found : le (get_or beats i nan) beat ≡ true → Finding beat other beats values (get_or values i nan) (i + 1)
    unfolding last_up_to
    found h = record { same = rw h at parts }
