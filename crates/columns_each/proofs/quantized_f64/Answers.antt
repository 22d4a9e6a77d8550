-- `columns_each::quantized_f64` widens an f32 that is no NaN. Assumes nothing.
use Rattle.std.proofs.Common.{not, ◌&&◌, T, sym, subst}
use lib.Ieee.{Float, binary64, fits, is_nan}
use lib.Ieee.Fits.{and_i, fits_widens}
use Rattle.rows.specs.Rows.{quantized}
use Rattle.columns_each.proofs.QuantizedNumbers.{quantized-fits, quantized-number}
use Rattle.columns_each.proofs.quantized_f64.Goals as goal

pub float_to_float-result : goal.float_to_float-result
float_to_float-result c =
    let beat = c.args.beat in
    subst (λ (x : Float). T (fits binary64 x && not (is_nan x))) (sym c.quantized_f32.ensures) (and_i (fits binary64 (quantized beat)) (not (is_nan (quantized beat))) (fits_widens (quantized beat) (quantized-fits beat)) (quantized-number beat))

pub returns : goal.returns
returns c = c.quantized_f32.ensures
