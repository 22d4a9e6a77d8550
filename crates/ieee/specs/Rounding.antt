-- A float as a whole number of an i32: the nearest one, a tie to the even one, and the end of the range where that lies beyond it. Definitions only.
use Rattle.std.specs.Prelude.{ℕ, ◌*◌, ◌-◌, ◌^◌, min, Bool, true, false, ℤ, pos, negsuc, neg_ℤ, Float}
use Rattle.std.specs.Float.{nan, inf, fin}
use Rattle.std.specs.Float.Ieee.{up, down}
use Rattle.std.specs.Float.Ieee.Nearest.{closest}

-- n with a sign, negative where it is true
abbrev pub signed : Bool → ℕ → ℤ
signed false n = pos n
signed true n = neg_ℤ (pos n)

-- The whole number nearest to a float, a tie to the even one, and 0 for what is not finite.
-- `fin s m e` is the fraction m * up e / down e with the sign s, and `closest` rounds a fraction so.
unfoldable pub rint : Float → ℤ
rint nan = pos 0
rint (inf s) = pos 0
rint (fin s m e) = signed s (closest (m * up e) (down e))

-- the ends of an i32
abbrev pub least_i32 : ℤ
least_i32 = neg_ℤ (pos (2 ^ 31))

abbrev pub most_i32 : ℤ
most_i32 = pos (2 ^ 31 - 1)

-- held at the ends of an i32 (`negsuc n` is -(n + 1))
unfoldable pub hold : ℤ → ℤ
hold (pos n) = pos (min n (2 ^ 31 - 1))
hold (negsuc n) = negsuc (min n (2 ^ 31 - 1))
