-- `clock_bench::brings` meets its contract. Assumes nothing.
use Rattle.std.proofs.Common.{eq-eqb, ne_eqb}
use Rattle.clock_bench.specs.EventList.{bringing}
use Rattle.clock_bench.proofs.brings.Goals as goal

pub returns-then-kind-eq-TEMPO_BEGINS : goal.returns-then-kind-eq-TEMPO_BEGINS
unfolding bringing
returns-then-kind-eq-TEMPO_BEGINS c = rw (eq-eqb _ 1 c.if-kind-eq-TEMPO_BEGINS.true) c.number_at.ensures

pub returns-then-kind-eq-DELAY_BEGINS : goal.returns-then-kind-eq-DELAY_BEGINS
unfolding bringing
returns-then-kind-eq-DELAY_BEGINS c = rw (ne_eqb _ 1 c.if-kind-eq-TEMPO_BEGINS.false, eq-eqb _ 2 c.if-kind-eq-DELAY_BEGINS.true) c.number_at-then-kind-eq-DELAY_BEGINS.ensures

pub returns-then-kind-eq-STOP_BEGINS : goal.returns-then-kind-eq-STOP_BEGINS
unfolding bringing
returns-then-kind-eq-STOP_BEGINS c = rw (ne_eqb _ 1 c.if-kind-eq-TEMPO_BEGINS.false, ne_eqb _ 2 c.if-kind-eq-DELAY_BEGINS.false, eq-eqb _ 3 c.if-kind-eq-STOP_BEGINS.true) c.number_at-then-kind-eq-STOP_BEGINS.ensures

pub returns-then-kind-eq-WARP_BEGINS : goal.returns-then-kind-eq-WARP_BEGINS
unfolding bringing
returns-then-kind-eq-WARP_BEGINS c =
    rw (ne_eqb _ 1 c.if-kind-eq-TEMPO_BEGINS.false, ne_eqb _ 2 c.if-kind-eq-DELAY_BEGINS.false, ne_eqb _ 3 c.if-kind-eq-STOP_BEGINS.false, eq-eqb _ 4 c.if-kind-eq-WARP_BEGINS.true, ← c.number_at-then-kind-eq-WARP_BEGINS.ensures, ← c.number_at-then-kind-eq-WARP_BEGINS-2.ensures)
    c.further_end.ensures

pub returns : goal.returns
unfolding bringing
returns c = rw (ne_eqb _ 1 c.if-kind-eq-TEMPO_BEGINS.false, ne_eqb _ 2 c.if-kind-eq-DELAY_BEGINS.false, ne_eqb _ 3 c.if-kind-eq-STOP_BEGINS.false, ne_eqb _ 4 c.if-kind-eq-WARP_BEGINS.false)
