-- The places of a state that an event can move on. Definitions only.
use Rattle.std.specs.Prelude.{◌^◌, ◌<◌}
use Rattle.chart.specs.declared.State.{State}
use Rattle.clock_walk.specs.declared.Event.{Event}
use Rattle.clock_walk.specs.declared.Event.TheVariants.{WarpEnd, Tempo, Delay, Stop, Warp}

-- a place that an event moves on can be moved
abbrev pub CanMove : State → Event → Type 0
CanMove s WarpEnd = Unit {0}
CanMove s Tempo = s.tempos < 2 ^ 63
CanMove s Delay = s.delays < 2 ^ 63
CanMove s Stop = s.stops < 2 ^ 63
CanMove s Warp = s.warps < 2 ^ 63
