-- Rounding from a number that was cut short. n / 2 ^ d is counted in units of the format's smallest value. Definitions only.
use Rattle.std.specs.Prelude.{◌≡◌, ℕ, ◌+◌, ◌*◌, ◌^◌, ◌<◌, ◌≤◌, min, Bool, cond, from_bits, Float}
use Rattle.std.specs.Float.{Format}
use Rattle.std.specs.Float.Ieee.{prec, hid, ones, top}
use Rattle.std.specs.Float.Ieee.Order.{drop, kept}
use Rattle.ieee.specs.Constants.{plus_zero}

-- k places are dropped of n / 2 ^ d where p digits are kept, and the digits kept are q
pub record KeptOf (p d n k q : ℕ) : Type 0 where
  pub dropped : k ≡ drop p n (2 ^ d)
  pub held : q ≡ kept p n (2 ^ d)
  pub few : q ≤ 2 ^ 53

-- the pattern of n / 2 ^ d rounded, no more than an infinity's; and with a sign
abbrev pub pattern_size : Format → ℕ → ℕ → ℕ
pattern_size f d n = min (drop (prec f) n (2 ^ d) * hid f + kept (prec f) n (2 ^ d)) (ones f * hid f)

abbrev pub signed_pattern : Format → ℕ → Bool → ℕ → ℕ
signed_pattern f d s n = cond s (top f) 0 + pattern_size f d n

-- r is w * 2 ^ y / 2 ^ d rounded, with the sign s; and +0 where w is 0
pub record RoundedFrom (f : Format) (d : ℕ) (s : Bool) (w y : ℕ) (r : Float) : Type 0 where
  pub none : w ≡ 0 → r ≡ plus_zero
  pub some : 0 < w → r ≡ from_bits f (signed_pattern f d s (w * 2 ^ y))
