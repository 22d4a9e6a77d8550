-- What the pass over speeds in order holds. Definitions only.
use Rattle.std.specs.Prelude.{Float}
use Rattle.tidy_kept.specs.Passing.{Waiting}
use Rattle.tidy_speeds_entries.specs.Speed.{SpeedValue, speed_value_of}
use Rattle.tidy_speeds_ordered.specs.declared.Held.{Held}

abbrev pub speed_waiting : Held → Waiting Float SpeedValue
speed_waiting s = record { before = speed_value_of s.before; waits = s.waits; row = s.row; beat = s.beat; value = speed_value_of s.value }
