-- What is asked of the clock is kept, for every timing that is taken and every history. Assumes nothing.
use mathlib.Core.Path.{◌≡◌}
use lib.Ieee.{Float}
use Rattle.chart.specs.Timing.{Timing}
use Rattle.clock_tests.specs.TimingNumbers.{timing_number}
use Rattle.clock_histories.specs.Demand.{used, Kept}
use Rattle.clock_histories.proofs.AnyQuestion.{used-comes, time-alone, number-alone, steps-passed}
use Rattle.clock_histories.proofs.CostOfAll.{cost_of_all}

-- whatever is asked of a cursor over a timing that is taken, each answer is a fresh cursor's, and all of them together cost what is allowed
pub demand_three : (t : Timing) (offset global : Float) → timing_number t offset global ≡ 0 → Kept t offset global
demand_three t offset global taken = record {
  times = λ before way b. time-alone t offset global taken way (used t offset global before) b (used-comes t offset global taken before);
  numbers = λ before way b. number-alone t offset global taken way (used t offset global before) b (used-comes t offset global taken before);
  steps = λ before way b. steps-passed t offset global taken way (used t offset global before) b (used-comes t offset global taken before);
  costs = cost_of_all t offset global taken;
}
