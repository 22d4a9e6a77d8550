-- The front of a column of f32s quantised in its place, and counted. Definitions only.
use Rattle.std.specs.Prelude.{◌≡◌, ℕ, ◌%◌, ◌^◌, List, take, Float}
use Rattle.rows.specs.Rows.{quantized32, on_grid32}
use Rattle.limits.specs.Numbers.{misses}
use Rattle.columns.specs.Each.{laid_each}

-- the first n of a column, and how many of them were off
pub record FrontCounted (n : ℕ) (old new : List Float) (off : ℕ) : Type 0 where
  pub moved : new ≡ laid_each (λ (beat : Float). quantized32 beat) (take n old) old
  pub counted : off ≡ misses on_grid32 (take n old) % 2 ^ 32
