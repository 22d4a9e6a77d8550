-- A format by its number, as C programs give it. Definitions only.
use Rattle.std.specs.Prelude.{ℕ, eqb}
use Rattle.picks.specs.Pick.{pick}
use Rattle.chart.specs.declared.TimingFormat.{TimingFormat}
use Rattle.chart.specs.declared.TimingFormat.TheVariants.{Sm, Ssc}

-- 0 is SM, and any other number SSC
unfoldable pub format_of : ℕ → TimingFormat
format_of number = pick (eqb number 0) Sm Ssc
