-- One scroll of ratio 1 at beat 0 draws every beat at itself, bit for bit; but -0 is drawn at +0. Assumes nothing.
use Rattle.std.proofs.Common.{◌≡◌, ℕ, ◌+◌, ◌-◌, ◌*◌, ◌<◌, true, false, T, [], ◌∷◌, ℤ, pos, refl, mul-pos, arith, le-ltb, lt-ltb}
use lib.Ieee.{fin, binary64, up, down, fits, lt, le, add, sub, mul, neg, sum, round}
use lib.Ieee.Bits.{is_true}
use lib.Ieee.Fits.{up_pos, down_pos}
use Rattle.ieee.specs.Constants.{plus_zero}
use Rattle.ieee.proofs.Convert.{round-own}
use Rattle.ieee.proofs.FloatOrder.{sizes_le}
use Rattle.ieee_mul_add.specs.MulAdd.{mul_add}
use Rattle.notes_displayed.specs.Scrolls.{scrolled_on, prefix_from, ratio_before, scroll_prefix, reaches, up_to_beat, displayed_from, behind_scrolls, displayed_beat}
use Rattle.notes_displayed.proofs.BeforeTheFirst.{before-first}

nothing-moved : scroll_prefix (plus_zero ∷ []) (ratio_before ∷ []) ≡ plus_zero ∷ []
unfolding scroll_prefix prefix_from scrolled_on add sub mul
nothing-moved = refl

module _ (m : ℕ) (e : ℤ) where
  from_zero : reaches plus_zero (fin false m e) ≡ true
  unfolding reaches
  from_zero = is_true (le plus_zero (fin false m e)) (sizes_le plus_zero (fin false m e) false false 0 1 (m * up e) (down e) (omega arith) (down_pos e) (refl, refl) (refl, refl) (omega arith))

  module _ (held : T (fits binary64 (fin false m e))) where
    own : (num den : ℕ) → num ≡ m * up e → den ≡ down e → round binary64 false num den ≡ fin false m e
    own num den n d = rw (n, d) (round-own binary64 false m e held)

    less_zero : sub binary64 (fin false m e) plus_zero ≡ fin false m e
    unfolding sub add neg sum
    less_zero = rw (le-ltb (m * up e * 1) (0 * 1 * down e) (omega arith)) (own (m * up e * 1 - 0 * 1 * down e) (down e * 1) (omega arith) (omega arith))

    once_more_zero : mul_add binary64 (fin false m e) ratio_before plus_zero ≡ fin false m e
    unfolding mul_add sum
    once_more_zero = own (m * up e * (1 * 1) * 1 + 0 * 1 * (down e * 1)) (down e * 1 * 1) (omega arith) (omega arith)

    pub ratio-one : displayed_beat (plus_zero ∷ []) (ratio_before ∷ []) (fin false m e) ≡ fin false m e
    unfolding displayed_beat behind_scrolls up_to_beat displayed_from
    ratio-one = rw (from_zero, nothing-moved, less_zero) once_more_zero

  -- and what is below 0 is before the scroll
  pub ratio_one_below : 0 < m → displayed_beat (plus_zero ∷ []) (ratio_before ∷ []) (fin true m e) ≡ fin true m e
  unfolding lt
  ratio_one_below some = before-first plus_zero [] (ratio_before ∷ []) (fin true m e) tt tt (lt-ltb 0 (m * up e * 1 + 0 * 1 * down e) (omega (arith, mul-pos some (up_pos e))))

pub minus-zero : displayed_beat (plus_zero ∷ []) (ratio_before ∷ []) (fin true 0 (pos 0)) ≡ plus_zero
unfolding displayed_beat behind_scrolls up_to_beat reaches displayed_from scroll_prefix prefix_from scrolled_on le add sub mul mul_add
minus-zero = refl
