-- One answer beside another. Definitions only.
use Rattle.std.specs.Prelude.{◌≤◌, ◌≡◌}
use Rattle.clock.specs.declared.Answer.{Answer}

-- the same number, time and cursor, and a count that is no higher
pub record NoDearer (a b : Answer) : Type 0 where
  pub number : a.number ≡ b.number
  pub time : a.time ≡ b.time
  pub cursor : a.cursor ≡ b.cursor
  pub count : a.count ≤ b.count
