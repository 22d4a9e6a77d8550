-- Keys of beats that are given and written. Definitions only.
use Rattle.std.specs.Prelude.{ℕ, Float}
use Rattle.std.specs.Float.{Format, binary32}
use Rattle.rows.specs.Rows.{quantized32}
use Rattle.order.specs.FloatKey.{float_key}

-- the key of a beat that is given, and of the row's beat that is written for it
abbrev pub at : Float → ℕ
at beat = float_key binary32 beat

abbrev pub spot : Format → Float → ℕ
spot f beat = float_key f (quantized32 beat)
