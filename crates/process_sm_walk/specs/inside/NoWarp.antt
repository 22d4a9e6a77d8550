-- Changes that open no warp, and their entries as they are written. Definitions only.
use Rattle.std.specs.Prelude.{◌≡◌, ℕ, Bool, true, not, List, map, length, drop, Float}
use Rattle.std.specs.Float.Ieee.{lt}
use Rattle.ieee.specs.Constants.{plus_zero32}
use Rattle.limits.specs.Numbers.{every}
use Rattle.rows.specs.Rows.{quantized32}
use Rattle.order.specs.Entries.{entries}
use Rattle.process_sm_machine.specs.Machine.{fits}
use Rattle.process_sm_machine.specs.declared.State.{State}
use Rattle.process_sm_machine.specs.declared.Warp.TheVariants.{Closed}
use Rattle.process_sm_walk.specs.declared.Places.{Places}

-- a stop that is written as it is
abbrev pub is_pause : Float → Bool
is_pause length = not (lt length plus_zero32)

-- no warp is open, and neither a tempo nor a stop from these places on opens one
pub record NoWarp (tempo_values stop_values : List Float) (places : Places) (state : State) : Type 0 where
  pub closed : state.warp ≡ Closed
  pub tempos : every fits (drop places.tempo tempo_values) ≡ true
  pub stops : every is_pause (drop places.stop stop_values) ≡ true

-- an entry with its beat on its row
abbrev pub quantized_entry32 : Float × Float → Float × Float
quantized_entry32 e = (quantized32 e.0, e.1)

-- the entries from a place on, with their beats on their rows
abbrev pub rowed : List Float → List Float → ℕ → List (Float × Float)
rowed beats values from = map quantized_entry32 (drop from (entries beats values))
