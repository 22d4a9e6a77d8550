-- Where a rounding to binary64 on the way to binary32 does no harm. Definitions only.
use Rattle.std.specs.Prelude.{ℕ, ◌/◌, ◌%◌, ◌^◌, ◌≤◌, ◌≡◌}

-- The pattern b of a binary64 is no half-way point of binary32, no power of two, and not below binary32's least normal value.
pub record Harmless (b : ℕ) : Type 0 where
  pub no_middle : b % 2 ^ 29 ≡ 2 ^ 28 → ⊥
  pub no_power : b % 2 ^ 52 ≡ 0 → ⊥
  pub normal : 897 ≤ b % 2 ^ 63 / 2 ^ 52
