-- `clock_bench::run_down` runs down the list, event by event. Assumes nothing.
use Rattle.std.proofs.Common.{true, false, get_or, pos, ap, ◌∙◌, w32, to_z, of_z}
use lib.Ieee.{nan}
use borrow.Author.Tests.{not-true, not-false}
use Rattle.clock_bench.specs.RunningDown.{runner_past}
use Rattle.rows.proofs.BackFromBits.{back}
use Rattle.clock_bench.proofs.RunsOn.{found, setting_off, stopped, through, turned}
use Rattle.clock_bench.proofs.run_down.Goals as goal

pub loop-i-init : goal.loop-i-init
loop-i-init c = let s = c in let a = s.args in setting_off (to_z w32 (of_z w32 a.asked)) a.start a.laid a.rows.now a.kinds.now a.numbers.now s.requires.3

pub returns-then-not-comes_before : goal.returns-then-not-comes_before
returns-then-not-comes_before c =
    let s = c in
    let a = s.args in
    let l = c.loop-i in
    rw (back a.asked s.ranges.asked) at (stopped (to_z w32 (of_z w32 a.asked)) a.start a.laid a.rows.now a.kinds.now a.numbers.now l.at l.i l.invariant (found _ (get_or a.rows.now l.i (pos 0)) (get_or a.kinds.now l.i 0) c.comes_before.result false (record { sfits = c.row-1.given }) c.comes_before.ensures (not-true _ c.if-not-comes_before.true-raw)) c.loop-i-test.true s.requires.0 s.requires.1 s.requires.2)

pub loop-i-preserved : goal.loop-i-preserved
loop-i-preserved c =
    let s = c in
    let a = s.args in
    let l = c.loop-i in
    turned (to_z w32 (of_z w32 a.asked)) a.start a.laid a.rows.now a.kinds.now a.numbers.now l.at l.i l.invariant c.runner_past-at.result (c.runner_past-at.ensures ∙ ap (λ at. runner_past l.at at (get_or a.kinds.now l.i 0) (get_or a.numbers.now l.i nan)) (back (get_or a.rows.now l.i (pos 0)) (record { sfits = c.row-1.given }))) (found _ (get_or a.rows.now l.i (pos 0)) (get_or a.kinds.now l.i 0) c.comes_before.result true (record { sfits = c.row-1.given }) c.comes_before.ensures (not-false _ c.if-not-comes_before.false-raw)) c.loop-i-test.true s.requires.0 s.requires.1 s.requires.2

pub returns : goal.returns
returns c =
    let s = c in
    let a = s.args in
    let l = c.loop-i in
    rw (back a.asked s.ranges.asked) at (through (to_z w32 (of_z w32 a.asked)) a.start a.laid a.rows.now a.kinds.now a.numbers.now l.at l.i l.invariant c.loop-i-test.false)
