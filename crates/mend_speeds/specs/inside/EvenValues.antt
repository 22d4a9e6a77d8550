-- The three columns of speeds' values, of one length. Definitions only.
use Rattle.std.specs.Prelude.{ℕ, List, ◌≡◌, length, Float}

pub record EvenValues (ratios delays : List Float) (units : List ℕ) : Type 0 where
  pub delays_even : length ratios ≡ length delays
  pub units_even : length ratios ≡ length units
