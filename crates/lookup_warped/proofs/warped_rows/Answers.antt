-- `lookup_warped::warped_rows` meets its contract, warp by warp. Assumes nothing.
use Rattle.std.proofs.Common.{arith}
use Rattle.lookup_warped.proofs.PassingOn.{reach-within, passing-none, sum-within, passing-on, passing-end, passing-short}
use Rattle.lookup_warped.proofs.warped_rows.Goals as goal

pub loop-i-init : goal.loop-i-init
loop-i-init c = let args = c.args in passing-none args.beats.now args.lengths.now

pub returns-then-i-lengths : goal.returns-then-i-lengths
returns-then-i-lengths c =
    let args = c.args in
    passing-short args.beats.now args.lengths.now c.loop-i.invariant (omega arith)

pub overflow_add-end : goal.overflow_add-end
overflow_add-end c =
    let loop = c in
    let args = loop.args in
    omega (arith, reach-within args.beats.now args.lengths.now loop.loop-i.i c.start_key-start.ensures c.length_rows.ensures)

pub overflow_add-rows : goal.overflow_add-rows
overflow_add-rows c =
    let first = c in
    let size = first in
    let start = size in
    let loop = start in
    let args = loop.args in
    let within = sum-within args.beats.now args.lengths.now (omega arith) (omega arith) loop.loop-i.invariant start.start_key-start.ensures size.length_rows.ensures first.first_new-first.ensures in
    omega (arith, c.new_rows-rows.ensures)

pub loop-i-preserved : goal.loop-i-preserved
loop-i-preserved c =
    let first = c in
    let size = first in
    let start = size in
    let loop = start in
    let args = loop.args in
    let next = passing-on args.beats.now args.lengths.now (omega arith) (omega arith) loop.loop-i.invariant start.start_key-start.ensures size.length_rows.ensures first.first_new-first.ensures in
    rw (c.furthest_end-far.ensures, c.new_rows-rows.ensures) next

pub returns : goal.returns
returns c =
    let args = c.args in
    passing-end args.beats.now args.lengths.now c.loop-i.invariant (omega arith)
