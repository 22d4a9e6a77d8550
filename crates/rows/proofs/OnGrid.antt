-- Beats that are on the grid: the f32 beat of any row, as it is or as the f64 beat of that row, and whatever was quantised; small cases by computation.
-- Assumes nothing.
use Rattle.std.proofs.Common.{◌≡◌, ◌≤◌, Bool, true, false, not, T, ℤ, pos, negsuc, nat_abs, sym, refl, ap, ◌∙◌, subst}
use lib.Ieee.{Float, fin, eq, ne, binary32, binary64, mul, div, of_int}
use lib.Ieee.Compare.{differs_from_itself}
use lib.Ieee.Fits.{div-fits}
use lib.Ieee.Scale.{finite}
use Rattle.ieee.specs.Narrowing.{narrow}
use Rattle.ieee.specs.Rounding.{rint, hold}
use Rattle.ieee.proofs.Narrow.{narrow-own}
use Rattle.limits.specs.Numbers.{most_row}
use Rattle.rows.specs.Rows.{row, beat_of, quantized, on_grid, on_grid32, allowed_beat}
use Rattle.rows.proofs.RowOfBeat.{row_of_beat}
use Rattle.rows.proofs.RowWithin.{row_within}
use Rattle.rows.proofs.BeatsRise.{beat-finite}
use Rattle.rows.proofs.NarrowedBeat.{narrowed-beat}
use Rattle.rows.proofs.Quantizing.{narrow-allowed}

-- a finite number is, by value, itself
same-value : (x : Float) → T (finite x) → eq x x ≡ true
unfolding ne
same-value x h = go (eq x x) refl
  where
    go : (t : Bool) → eq x x ≡ t → t ≡ true
    go true e = refl
    go false e = let i = differs_from_itself x (subst (λ (b : Bool). T (not b)) (sym e) tt) in absurd (subst (λ (y : Float). T (finite y)) i h)

-- ---- the f32 beat of a row, and the f64 beat, which narrows to it
module _ (r : ℤ) (h : nat_abs r ≤ most_row) where
  own : narrow (beat_of binary32 r) ≡ beat_of binary32 r
  own = narrow-own (beat_of binary32 r) (div-fits binary32 (of_int binary32 r) (of_int binary32 (pos 48)))

  narrow_row_on_grid : on_grid32 (beat_of binary32 r) ≡ true
  unfolding on_grid32
  narrow_row_on_grid =
      ap (λ (z : ℤ). eq (beat_of binary32 r) (beat_of binary32 z)) (row_of_beat binary32 binary32 r h) ∙ same-value (beat_of binary32 r) (beat-finite binary32 r h)

  pub row_on_grid : on_grid (beat_of binary32 r) ≡ true
  unfolding on_grid
  row_on_grid = ap on_grid32 own ∙ narrow_row_on_grid

  pub wide_row_on_grid : on_grid (beat_of binary64 r) ≡ true
  unfolding on_grid
  wide_row_on_grid = ap on_grid32 (narrowed-beat r h) ∙ narrow_row_on_grid

-- ---- what was quantised
pub quantised_on_grid : (beat : Float) → T (allowed_beat beat) → on_grid (quantized beat) ≡ true
quantised_on_grid beat h = row_on_grid (row binary32 (narrow beat)) (row_within binary32 (narrow beat) (narrow-allowed beat h))

-- ---- small cases: -0; the f64 nearest to 1/3, and the f32 nearest to it, which is another; the f64 after 0, which narrows to 0; and 1/1000, which is off
pub minus_zero_on_grid : on_grid (fin true 0 (pos 0)) ≡ true
unfolding on_grid on_grid32 narrow eq div of_int hold rint mul
minus_zero_on_grid = refl

pub third_on_grid : on_grid (fin false 6004799503160661 (negsuc 53)) ≡ true
unfolding on_grid on_grid32 narrow eq div of_int hold rint mul
third_on_grid = refl

pub narrow_third_on_grid : on_grid (fin false 11184811 (negsuc 24)) ≡ true
unfolding on_grid on_grid32 narrow eq div of_int hold rint mul
narrow_third_on_grid = refl

pub least_on_grid : on_grid (fin false 1 (negsuc 1073)) ≡ true
unfolding on_grid on_grid32 narrow eq div of_int hold rint mul
least_on_grid = refl

pub thousandth_off : on_grid (fin false 1152921504606847 (negsuc 59)) ≡ false
unfolding on_grid on_grid32 narrow eq div of_int hold rint mul
thousandth_off = refl
