-- How far apart the values of binary32 are, and where they end: what the steps of narrowing speak of. Definitions only.
use Rattle.std.specs.Prelude.{ℕ, ◌-◌, ◌*◌, ◌/◌, ◌^◌, Bool, false, pos, Float}
use Rattle.std.specs.Float.{nan, inf, fin, binary64}
use Rattle.std.specs.Float.Ieee.{to_bits}
use Rattle.std.specs.Float.Ieee.Exact.{HasValue}

-- x with the sign s
unfoldable pub with_sign : Bool → Float → Float
with_sign s nan = nan
with_sign s (inf t) = inf s
with_sign s (fin t m e) = fin s m e

-- half way from the largest value of binary32 to 2 ^ 128
abbrev pub boundary : Float
boundary = fin false (2 ^ 25 - 1) (pos 103)

-- Around a, a binary64 that is not negative, the values of binary32 are 2 ^ step_power a times its smallest one apart. The exponent's field of a says how far, and from 897 down they are the smallest one apart.
abbrev pub step_power : Float → ℕ
step_power a = to_bits binary64 a / 2 ^ 52 - 897

-- c is 2 ^ 52 of those steps
abbrev pub Anchor : Float → Float → Type 0
Anchor a c = HasValue c false (2 ^ 52 * 2 ^ step_power a) (2 ^ 149)
