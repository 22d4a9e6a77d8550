-- What a replay counts. Definitions only.
use Rattle.std.specs.Prelude.{ℕ, ◌≤◌}

-- Of so many cases so many differ: which cases standard input hands over is known by no contract.
pub record Replayed (answers different : ℕ) : Type 0 where
  pub among : different ≤ answers
