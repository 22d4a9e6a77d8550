-- `text_tempos::text_size_f32` meets its contract: a turn counts an entry. Assumes nothing.
use native.Mathlib.Omega.{arith}
use lib.ListN.{get_or}
use lib.Ieee.{nan}
use Rattle.text_tempos.proofs.EntriesLeft.{counted_start, counted-turn, counted-end}
use Rattle.text_tempos.proofs.EntrySizes.{entry-most}
use Rattle.text_tempos.proofs.text_size_f32.Goals as goal

pub loop-i-init : goal.loop-i-init
loop-i-init c = (omega arith, counted_start _ _)

pub overflow_add-size : goal.overflow_add-size
overflow_add-size c =
    let most = entry-most c.loop-i.i (get_or c.args.beats.now c.loop-i.i nan) (get_or c.args.tempos.now c.loop-i.i nan) in
    omega (arith, c.entry_size-size.ensures, c.loop-i.invariant.0, c.requires.0, c.loop-i-test.true)

pub loop-i-preserved : goal.loop-i-preserved
loop-i-preserved c =
    let counted = counted-turn c.args.beats.now c.args.tempos.now c.requires.1 c.loop-i.size c.loop-i.i c.loop-i.invariant.1 c.loop-i-test.true in
    let most = entry-most c.loop-i.i (get_or c.args.beats.now c.loop-i.i nan) (get_or c.args.tempos.now c.loop-i.i nan) in
    (omega (arith, c.entry_size-size.ensures, c.loop-i.invariant.0), rw c.entry_size-size.ensures counted)

pub returns : goal.returns
returns c =
    counted-end c.args.beats.now c.args.tempos.now c.requires.1 c.loop-i.size c.loop-i.i c.loop-i.invariant.1 c.loop-i-test.false
