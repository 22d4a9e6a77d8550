-- Beats as the walk takes and writes them, and their keys. Definitions only.
use Rattle.std.specs.Prelude.{ℕ, T, Float}
use Rattle.std.specs.Float.{Format, binary32}
use Rattle.std.specs.Float.Ieee.{fits}
use Rattle.rows.specs.Rows.{allowed_beat}
use Rattle.order.specs.FloatKey.{float_key}

-- an f32 of at most 65,536 in size
pub record Beat (x : Float) : Type 0 where
  pub held : T (fits binary32 x)
  pub allowed : T (allowed_beat x)

-- the key of an entry's beat, at the width f
abbrev pub beat_key : Format → Float × Float → ℕ
beat_key f e = float_key f e.0
