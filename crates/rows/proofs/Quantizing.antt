-- Quantising a beat that is allowed: a second time changes nothing, the result is allowed, and its row at either width is the f32 row. Assumes nothing.
use Rattle.std.proofs.Common.{◌≡◌, ◌^◌, T, ℤ, pos, sym, ap, ◌∙◌, subst, lit<, pow_pos}
use lib.Ieee.{Float, Format, binary32, low, of_int}
use lib.Ieee.Exact.{HasValue}
use lib.Ieee.Fits.{div-fits}
use lib.Ieee.Scale.{grid}
use Rattle.ieee.specs.Narrowing.{narrow}
use Rattle.ieee.proofs.Narrow.{narrow-value, narrow-own}
use Rattle.ieee.proofs.Units.{round-units}
use Rattle.ieee.proofs.RoundedSize.{grid_le, grid_fine}
use Rattle.ieee.proofs.Magnitude.{sized-within}
use Rattle.rows.specs.Rows.{row, beat_of, quantized, quantized32, allowed_beat}
use Rattle.rows.proofs.RowWithin.{row_within}
use Rattle.rows.proofs.RowOfBeat.{row_of_beat}
use Rattle.rows.proofs.BeatsRise.{beat-allowed}
use Rattle.rows.proofs.Allowed.{within-allowed, allowed-sized}

pub narrow-allowed : (beat : Float) → T (allowed_beat beat) → T (allowed_beat (narrow beat))
narrow-allowed beat h =
    let z = allowed-sized beat h in
    let s = z.negative in
    let a = z.num in
    let c = z.den in
    within-allowed (narrow beat)
    (sized-within 16 (narrow beat)
    (record {
      negative = s;
      num = grid binary32 a c;
      den = 2 ^ low binary32;
      den_pos = pow_pos (low binary32);
      value =
          subst (λ (x : Float). HasValue x s (grid binary32 a c) (2 ^ low binary32)) (sym (narrow-value beat s a c z.den_pos z.value))
          (round-units binary32 s a c (grid_fine binary32 a c 65536 z.den_pos (lit< tt) z.small));
      small = grid_le binary32 a c 65536 z.den_pos (lit< tt) z.small;
    }))

-- ---- an f32
module _ (beat : Float) (h : T (allowed_beat beat)) where
  pub row-quantized32 : (f : Format) → row f (quantized32 beat) ≡ row binary32 beat
  row-quantized32 f = row_of_beat f binary32 (row binary32 beat) (row_within binary32 beat h)

  pub quantized32-twice : quantized32 (quantized32 beat) ≡ quantized32 beat
  quantized32-twice = ap (λ (r : ℤ). beat_of binary32 r) (row-quantized32 binary32)

  pub quantized32-allowed : T (allowed_beat (quantized32 beat))
  quantized32-allowed = beat-allowed binary32 (row binary32 beat) (row_within binary32 beat h)

-- ---- an f64, which is narrowed first
module _ (beat : Float) (h : T (allowed_beat beat)) where
  pub row-quantized : (f : Format) → row f (quantized beat) ≡ row binary32 (narrow beat)
  row-quantized = row-quantized32 (narrow beat) (narrow-allowed beat h)

  pub quantized-twice : quantized (quantized beat) ≡ quantized beat
  quantized-twice =
      ap (λ (x : Float). quantized32 x) (narrow-own (quantized beat) (div-fits binary32 (of_int binary32 (row binary32 (narrow beat))) (of_int binary32 (pos 48))))
      ∙ quantized32-twice (narrow beat) (narrow-allowed beat h)

  pub quantized-allowed : T (allowed_beat (quantized beat))
  quantized-allowed = quantized32-allowed (narrow beat) (narrow-allowed beat h)
