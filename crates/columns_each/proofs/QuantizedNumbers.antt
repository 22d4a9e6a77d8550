-- A quantised number is an f32 and no NaN, and is taken: a taken beat as a beat, and any number at all as a value, since a row is held at the ends of an i32.
-- Assumes nothing.
use Rattle.std.proofs.Common.{◌≡◌, ℕ, ◌+◌, ◌*◌, ◌^◌, ◌<◌, ◌≤◌, true, false, not, T, ℤ, pos, negsuc, nat_abs, sym, refl, subst, le_trans, le_of_eq, zero-lt-suc, mul-one, arith, lit<, lit≤, pow_pos}
use lib.Ieee.{Float, nan, inf, fin, binary32, low, fits, is_nan, round, of_int, unlike}
use lib.Ieee.Exact.{HasValue}
use lib.Ieee.Fits.{div-fits}
use lib.Ieee.Scale.{finite, grid}
use Rattle.ieee.specs.Narrowing.{narrow}
use Rattle.ieee.specs.Rounding.{hold}
use Rattle.ieee.proofs.ByValue.{div_value}
use Rattle.ieee.proofs.Magnitude.{Sized, sized-within, within-finite}
use Rattle.ieee.proofs.RoundedSize.{grid_up_to, grid_under}
use Rattle.ieee.proofs.SignedSizes.{negative}
use Rattle.ieee.proofs.Units.{round-units}
use Rattle.rows.specs.Rows.{row, beat_of, quantized}
use Rattle.rows.proofs.Quantizing.{quantized-allowed}
use Rattle.rows.proofs.RowValue.{like_48}
use Rattle.limits.specs.declared.Kind.TheVariants.{Beat, Value}
use Rattle.limits.specs.Numbers.{in_range, range_of}
use Rattle.limits.proofs.TakenWithin.{within-taken}
use Rattle.rows.proofs.Allowed.{taken-allowed, allowed-taken}

-- ---- the beat of any row of an i32 is below 2 ^ 30
held_small : (z : ℤ) → nat_abs (hold z) ≤ 2 ^ 31
unfolding hold
held_small (pos n) = omega arith
held_small (negsuc n) = omega arith

whole-rounded : (r : ℤ) → of_int binary32 r ≡ round binary32 (negative r) (nat_abs r) 1
unfolding of_int
whole-rounded (pos n) = refl
whole-rounded (negsuc n) = refl

module _ (r : ℤ) (h : nat_abs r ≤ 2 ^ 31) where
  abbrev size : ℕ
  size = grid binary32 (nat_abs r) 1

  few : nat_abs r ≤ 1 * 2 ^ 31 * 1
  few = omega arith

  size_small : size ≤ 1 * 2 ^ (31 + low binary32)
  size_small = grid_up_to binary32 (nat_abs r) 1 1 31 (zero-lt-suc 0) (lit< tt) few

  whole-value : HasValue (of_int binary32 r) (negative r) size (2 ^ low binary32)
  whole-value =
      subst (λ (x : Float). HasValue x (negative r) size (2 ^ low binary32)) (sym (whole-rounded r))
      (round-units binary32 (negative r) (nat_abs r) 1 (grid_under binary32 (nat_abs r) 1 1 31 (zero-lt-suc 0) (lit< tt) few (lit< tt)))

  den : 0 < 48 * 2 ^ low binary32
  den = lit< tt

  part : size * 1 ≤ 1 * 2 ^ 30 * (48 * 2 ^ low binary32)
  part = le_trans (le_of_eq (mul-one size)) (le_trans size_small (lit≤ tt))

  beat-below : Sized 30 (beat_of binary32 r)
  beat-below =
      let s = unlike (negative r) false in
      record {
        negative = s;
        num = grid binary32 (size * 1) (48 * 2 ^ low binary32);
        den = 2 ^ low binary32;
        den_pos = pow_pos (low binary32);
        value =
            subst (λ (x : Float). HasValue x s (grid binary32 (size * 1) (48 * 2 ^ low binary32)) (2 ^ low binary32))
            (sym (div_value binary32 (of_int binary32 r) (of_int binary32 (pos 48)) (negative r) false size (2 ^ low binary32) 48 1 (pow_pos (low binary32)) (zero-lt-suc 0) (zero-lt-suc 47) whole-value (like_48 binary32)))
            (round-units binary32 s (size * 1) (48 * 2 ^ low binary32) (grid_under binary32 (size * 1) (48 * 2 ^ low binary32) 1 30 den (lit< tt) part (lit< tt)));
        small = le_trans (grid_up_to binary32 (size * 1) (48 * 2 ^ low binary32) 1 30 den (lit< tt) part) (lit≤ tt);
      }

-- ---- numbers
number : (x : Float) → T (finite x) → T (not (is_nan x))
unfolding is_nan
number nan h = absurd h
number (inf s) h = absurd h
number (fin s m e) h = tt

-- a quantised number is an f32, and no NaN
pub quantized-fits : (x : Float) → T (fits binary32 (quantized x))
quantized-fits x = div-fits binary32 (of_int binary32 (row binary32 (narrow x))) (of_int binary32 (pos 48))

pub quantized-number : (x : Float) → T (not (is_nan (quantized x)))
quantized-number x = number (quantized x) (within-finite 30 (quantized x) (sized-within 30 (quantized x) (beat-below (row binary32 (narrow x)) (held_small _))))

pub quantized_value_taken : (value : Float) → in_range (range_of Value) (quantized value) ≡ true
quantized_value_taken value = within-taken 30 (quantized value) (sized-within 30 (quantized value) (beat-below (row binary32 (narrow value)) (held_small _)))

pub quantized_beat_taken : (beat : Float) → in_range (range_of Beat) beat ≡ true → in_range (range_of Beat) (quantized beat) ≡ true
quantized_beat_taken beat h = allowed-taken (quantized beat) (quantized-allowed beat (taken-allowed beat h))
