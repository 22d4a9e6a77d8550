-- Where a product needs no rounding. Definitions only.
use Rattle.std.specs.Prelude.{◌≡◌, ℕ, ◌+◌, ◌*◌, ◌^◌, ◌<◌, ◌≤◌}

-- m * 2 ^ i times n * 2 ^ j, each in units of the smallest f64, has no more digits than an f64 and is in its range: the product is q * 2 ^ e more places up
pub record ExactProduct (m i n j : ℕ) : Type 0 where
  pub q : ℕ
  pub e : ℕ
  pub few : q < 2 ^ 53
  pub is : m * n ≡ q * 2 ^ e
  pub deep : 1074 ≤ e + (i + j)
  pub below : e + (i + j) ≤ 3119
