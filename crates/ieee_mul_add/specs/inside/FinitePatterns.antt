-- Patterns that the slow way begins with. Definitions only.
use Rattle.std.specs.Prelude.{ℕ, ◌<◌}
use Rattle.std.specs.Float.{binary64}
use Rattle.ieee.specs.inside.PatternParts.{field_of, digits_of}

-- three f64 that are finite, of which the first two are not 0
pub record FinitePatterns (a b c : ℕ) : Type 0 where
  pub finite_a : field_of binary64 a < 2047
  pub finite_b : field_of binary64 b < 2047
  pub finite_c : field_of binary64 c < 2047
  pub some_a : 0 < digits_of binary64 a
  pub some_b : 0 < digits_of binary64 b
