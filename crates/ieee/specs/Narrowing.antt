-- A float at another format, and so an f64 as an f32. Definitions only.
use Rattle.std.specs.Prelude.{◌*◌, Float}
use Rattle.std.specs.Float.{nan, inf, fin, Format, binary32}
use Rattle.std.specs.Float.Ieee.{up, down, round}

-- A float at the format f: the nearest value, a tie to the one whose last digit is even, an infinity past the format's range, and a NaN for a NaN.
-- `Nearest.antt` has this in IEEE 754's terms, and `round` is proved to be it.
unfoldable pub convert : Format → Float → Float
unfolding round
convert f nan = nan
convert f (inf s) = inf s
convert f (fin s m e) = round f s (m * up e) (down e)

-- an f64 as an f32
unfoldable pub narrow : Float → Float
unfolding convert
narrow x = convert binary32 x
