-- `clock_bench::spot_past` meets its contract. Assumes nothing.
use Rattle.std.proofs.Common.{eq-eqb, ne_eqb}
use Rattle.clock_bench.specs.EventList.{spot_past}
use Rattle.clock_bench.proofs.spot_past.Goals as goal

pub returns-then-kind-eq-TEMPO_BEGINS : goal.returns-then-kind-eq-TEMPO_BEGINS
unfolding spot_past
returns-then-kind-eq-TEMPO_BEGINS c = let s = c in rw (eq-eqb s.args.kind 1 c.if-kind-eq-TEMPO_BEGINS.true)

pub returns-then-kind-eq-DELAY_BEGINS : goal.returns-then-kind-eq-DELAY_BEGINS
unfolding spot_past
returns-then-kind-eq-DELAY_BEGINS c = let s = c in rw (ne_eqb s.args.kind 1 c.if-kind-eq-TEMPO_BEGINS.false, eq-eqb s.args.kind 2 c.if-kind-eq-DELAY_BEGINS.true)

pub returns-then-kind-eq-STOP_BEGINS : goal.returns-then-kind-eq-STOP_BEGINS
unfolding spot_past
returns-then-kind-eq-STOP_BEGINS c = let s = c in rw (ne_eqb s.args.kind 1 c.if-kind-eq-TEMPO_BEGINS.false, ne_eqb s.args.kind 2 c.if-kind-eq-DELAY_BEGINS.false, eq-eqb s.args.kind 3 c.if-kind-eq-STOP_BEGINS.true)

pub returns-then-kind-eq-WARP_BEGINS : goal.returns-then-kind-eq-WARP_BEGINS
unfolding spot_past
returns-then-kind-eq-WARP_BEGINS c = let s = c in rw (ne_eqb s.args.kind 1 c.if-kind-eq-TEMPO_BEGINS.false, ne_eqb s.args.kind 2 c.if-kind-eq-DELAY_BEGINS.false, ne_eqb s.args.kind 3 c.if-kind-eq-STOP_BEGINS.false, eq-eqb s.args.kind 4 c.if-kind-eq-WARP_BEGINS.true)

pub returns : goal.returns
unfolding spot_past
returns c = let s = c in rw (ne_eqb s.args.kind 1 c.if-kind-eq-TEMPO_BEGINS.false, ne_eqb s.args.kind 2 c.if-kind-eq-DELAY_BEGINS.false, ne_eqb s.args.kind 3 c.if-kind-eq-STOP_BEGINS.false, ne_eqb s.args.kind 4 c.if-kind-eq-WARP_BEGINS.false)
