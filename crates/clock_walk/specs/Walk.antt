-- The walk to an asked row: events are passed, one after another, until the asked beat is due. Definitions only.
use Rattle.clock_walk.specs.declared.Next.{Next}
use Rattle.std.specs.Prelude.{ℕ, Bool, true, false, ℤ, Float, Option, Some, None}
use Rattle.chart.specs.Timing.{Timing}
use Rattle.clock_walk.specs.Events.{due}
use Rattle.clock_walk.specs.Passing.{early_tempo, time_at}
use Rattle.clock_walk.specs.Course.{Stopped, pass_while}
use Rattle.chart.specs.declared.State.{State}
use Rattle.clock_walk.specs.declared.Walked.{Walked}

abbrev pub is_passes : Option Next → Bool
is_passes (Some n) = true
is_passes None = false

-- an event is due before the asked beat
abbrev pub is_due : Timing → ℤ → State → Bool
is_due t asked s = is_passes (due t asked s)

-- where events stopped, with the time of the asked row worked out beside the state
abbrev pub ended : Float → Timing → ℤ → Stopped → Walked
ended early t asked w = record { state = w.state; passed = w.passed; time = time_at early t.tempo_values w.state asked }

-- as far as events are due, n being passed before
unfoldable pub walk_on : Float → Timing → ℤ → State → ℕ → Walked
walk_on early t asked s n = ended early t asked (pass_while (is_due t asked) early t s n)

-- the walk of a question, from a state
unfoldable pub walk : Timing → ℤ → State → Walked
walk t asked s = walk_on (early_tempo t.tempo_beats t.tempo_values s) t asked s 0
