-- The number of a refusal for want of room. Definitions only.
use Rattle.std.specs.Prelude.{ℕ, eqb}
use Rattle.limits.specs.Table.{no_room}
use Rattle.picks.specs.Pick.{pick}

-- the number of a refusal, for want of room where there is no other reason
unfoldable pub or_no_room : ℕ → ℕ
or_no_room number = pick (eqb number 0) no_room number
