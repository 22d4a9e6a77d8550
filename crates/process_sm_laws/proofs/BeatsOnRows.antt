-- A beat that is no earlier is written no earlier: quantising keeps the order of keys, at either width. Assumes nothing.
use Prim.Native.Nat.{◌≤◌}
use mathlib.Core.Path.{◌≡◌, sym, ◌∙◌, subst}
use mathlib.Core.Bool.{false, not}
use lib.IntN.{pos}
use lib.Signed.{lt_z, le_z, le_z_yes, lt_z_yes, clash_ℤ}
use lib.Dec.{T, leb, ltb, not_T}
use lib.Ieee.{Float, Format, binary32, binary64, is_nan, fits, le, lt, of_int}
use lib.Ieee.Bits.{is_false}
use lib.Ieee.Fits.{div-fits, fits_widens}
use borrow.Author.Tests.{le-leb, ltb-false}
use Rattle.rows.specs.Rows.{row, quantized32, allowed_beat}
use Rattle.rows.proofs.RowWithin.{row_within}
use Rattle.rows.proofs.RowsKeepOrder.{row_mono}
use Rattle.rows.proofs.BeatsRise.{beat-order}
use Rattle.rows.proofs.Quantizing.{quantized32-allowed}
use Rattle.order.proofs.FloatKeys.{floats-below, floats_at_most}
use Rattle.rows.proofs.Allowed.{allowed-number}
use Rattle.process_sm_laws.specs.Beats.{Beat}
use Rattle.process_sm_laws.specs.inside.Keys.{at, spot}

quantized-fits : (f : Format) (x : Float) → T (fits f (quantized32 x))
quantized-fits binary32 x = div-fits binary32 (of_int binary32 (row binary32 x)) (of_int binary32 (pos 48))
quantized-fits binary64 x = fits_widens (quantized32 x) (div-fits binary32 (of_int binary32 (row binary32 x)) (of_int binary32 (pos 48)))

module _ (a b : Float) (x : Beat a) (y : Beat b) where
  -- beats compare as their keys do
  pub at_le : le a b ≡ leb (at a) (at b)
  at_le = floats_at_most binary32 a b x.held y.held (allowed-number a x.allowed) (allowed-number b y.allowed)

  pub at_lt : lt a b ≡ ltb (at a) (at b)
  at_lt = floats-below binary32 a b x.held y.held (allowed-number a x.allowed) (allowed-number b y.allowed)

  pub spot_mono : (f : Format) → at a ≤ at b → spot f a ≤ spot f b
  spot_mono f h =
      let less : T (le a b) = subst T (sym (at_le ∙ le-leb (at a) (at b) h)) tt in
      let rows : T (le_z (row binary32 a) (row binary32 b)) = row_mono binary32 a b x.allowed y.allowed less in
      let back : lt_z (row binary32 b) (row binary32 a) ≡ false =
      is_false (lt_z (row binary32 b) (row binary32 a)) (not_T (lt_z (row binary32 b) (row binary32 a)) (λ t. clash_ℤ {a = row binary32 b} {b = row binary32 a} (lt_z_yes t) (le_z_yes rows))) in
      let order : lt (quantized32 b) (quantized32 a) ≡ lt_z (row binary32 b) (row binary32 a) =
      beat-order binary32 (row binary32 b) (row binary32 a) (row_within binary32 b y.allowed) (row_within binary32 a x.allowed) in
      let keys : lt (quantized32 b) (quantized32 a) ≡ ltb (spot f b) (spot f a) =
      floats-below f (quantized32 b) (quantized32 a) (quantized-fits f b) (quantized-fits f a) (allowed-number (quantized32 b) (quantized32-allowed b y.allowed)) (allowed-number (quantized32 a) (quantized32-allowed a x.allowed)) in
      ltb-false (spot f b) (spot f a) (sym keys ∙ order ∙ back)
