-- The tempo's place, moved forward tempo by tempo. Assumes nothing.
use Rattle.std.proofs.Common.{◌≡◌, ℕ, suc, ◌+◌, ◌*◌, ◌^◌, ◌<◌, ◌≤◌, true, false, List, ◌∷◌, length, get_or, drop, sym, refl, ap, ◌∙◌, add-one, arith, drop_of_length-le, drop-cons}
use lib.Ieee.{Float, nan, le}
use Rattle.stops_for_sm.specs.Merging.{leading, forward}

pub record Forward (tempo_beats : List Float) (place : ℕ) (beat : Float) (at : ℕ) : Type 0 where
  pub same : at + leading beat (drop (at + 1) tempo_beats) ≡ forward tempo_beats place beat
  pub small : at < 2 ^ 63

module _ (tempo_beats : List Float) (place : ℕ) (beat : Float) where
  pub begun : place < 2 ^ 63 → Forward tempo_beats place beat place
  unfolding forward
  begun h = record { same = refl; small = h }

  module _ (at : ℕ) (going : Forward tempo_beats place beat at) where
    pub over : length tempo_beats ≤ at + 1 → at ≡ forward tempo_beats place beat
    unfolding leading
    over h =
        let none : leading beat (drop (at + 1) tempo_beats) ≡ 0 = ap (leading beat) (drop_of_length-le tempo_beats h) in
        omega (arith, none, going.same)

    module _ (within : at + 1 < length tempo_beats) where
      parts : leading beat (drop (at + 1) tempo_beats) ≡ leading beat (get_or tempo_beats (at + 1) nan ∷ drop (at + 1 + 1) tempo_beats)
      parts = ap (leading beat) (drop-cons tempo_beats (at + 1) nan within ∙ ap (λ (k : ℕ). get_or tempo_beats (at + 1) nan ∷ drop k tempo_beats) (sym (add-one (at + 1))))

      pub later : le (get_or tempo_beats (at + 1) nan) beat ≡ false → at ≡ forward tempo_beats place beat
      unfolding leading
      later h =
          let none : leading beat (drop (at + 1) tempo_beats) ≡ 0 = rw h at parts in
          omega (arith, none, going.same)

      pub onward_by_one : length tempo_beats * 4 < 2 ^ 63 → le (get_or tempo_beats (at + 1) nan) beat ≡ true → Forward tempo_beats place beat (at + 1)
      unfolding leading
      onward_by_one room h =
          let one : leading beat (drop (at + 1) tempo_beats) ≡ suc (leading beat (drop (at + 1 + 1) tempo_beats)) = rw h at parts in
          record { same = omega (arith, one, going.same); small = omega arith }
