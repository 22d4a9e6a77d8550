-- How far from 0 a number may be. Definitions only.
use Rattle.std.specs.Prelude.{ℕ, Bool, true, false, ◌&&◌, pos, Float}
use Rattle.std.specs.Float.{fin}
use Rattle.std.specs.Float.Ieee.{le}

-- x is a number from -2 ^ k to 2 ^ k
unfoldable pub within_power : ℕ → Float → Bool
within_power k x = le (fin true 1 (pos k)) x && le x (fin false 1 (pos k))
