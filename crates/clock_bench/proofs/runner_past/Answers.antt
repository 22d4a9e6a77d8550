-- `clock_bench::runner_past` meets its contract. Assumes nothing.
use Rattle.std.proofs.Common.{eq-eqb, ne_eqb}
use Rattle.rows.proofs.BackFromBits.{back}
use Rattle.clock_bench.specs.RunningDown.{runner_past}
use Rattle.clock_bench.proofs.runner_past.Goals as goal

pub returns-then-kind-eq-WARP_ENDS : goal.returns-then-kind-eq-WARP_ENDS
unfolding runner_past
returns-then-kind-eq-WARP_ENDS c =
    let s = c in
    rw (eq-eqb _ 0 c.if-kind-eq-WARP_ENDS.true, c.time_on-time.ensures, back s.args.row s.ranges.row)

pub returns-then-kind-eq-TEMPO_BEGINS : goal.returns-then-kind-eq-TEMPO_BEGINS
unfolding runner_past
returns-then-kind-eq-TEMPO_BEGINS c =
    let s = c in
    rw (ne_eqb _ 0 c.if-kind-eq-WARP_ENDS.false, eq-eqb _ 1 c.if-kind-eq-TEMPO_BEGINS.true, c.time_on-time.ensures, back s.args.row s.ranges.row)

pub returns-then-kind-eq-WARP_BEGINS : goal.returns-then-kind-eq-WARP_BEGINS
unfolding runner_past
returns-then-kind-eq-WARP_BEGINS c =
    let s = c in
    rw (ne_eqb _ 0 c.if-kind-eq-WARP_ENDS.false, ne_eqb _ 1 c.if-kind-eq-TEMPO_BEGINS.false, eq-eqb _ 4 c.if-kind-eq-WARP_BEGINS.true, c.time_on-time.ensures, back s.args.row s.ranges.row)

pub returns : goal.returns
unfolding runner_past
returns c =
    let s = c in
    rw (ne_eqb _ 0 c.if-kind-eq-WARP_ENDS.false, ne_eqb _ 1 c.if-kind-eq-TEMPO_BEGINS.false, ne_eqb _ 4 c.if-kind-eq-WARP_BEGINS.false, c.time_on-time.ensures, back s.args.row s.ranges.row)
