-- The places of a spot can be moved on. Definitions only.
use Rattle.std.specs.Prelude.{◌^◌, ◌<◌}
use Rattle.clock_bench.specs.declared.Spot.{Spot}

pub record SpotFits (p : Spot) : Type 0 where
  pub tempos : p.tempos < 2 ^ 63
  pub stops : p.stops < 2 ^ 63
  pub delays : p.delays < 2 ^ 63
  pub warps : p.warps < 2 ^ 63
