-- `notes_displayed::answer_each` answers each beat by its count, over the fronts of both columns. Assumes nothing.
use Rattle.std.proofs.Common.{get_or, ap, ◌∙◌, arith, get_or-set_other}
use lib.Ieee.{nan}
use Rattle.columns.proofs.LaidEach.{turned, ended}
use Rattle.notes_displayed.specs.declared.Displayed.{Displayed}
use Rattle.notes_displayed.proofs.ByCount.{by_count}
use Rattle.notes_displayed.proofs.answer_each.Goals as goal

pub bounds-numbers-i : goal.bounds-numbers-i
bounds-numbers-i c = omega (arith, c.loop-i.invariant.0.long, c.requires.0, c.loop-i-test.true)

pub bounds-numbers-i-in-loop-i : goal.bounds-numbers-i-in-loop-i
bounds-numbers-i-in-loop-i c = omega (arith, c.loop-i.invariant.0.long, c.requires.0, c.loop-i-test.true)

pub bounds-positions-i : goal.bounds-positions-i
bounds-positions-i c =
    omega (arith, c.loop-i.invariant.1.long, c.requires.1, c.loop-i-test.true)

pub loop-i-preserved : goal.loop-i-preserved
loop-i-preserved c =
    let at = c.loop-i in
    let beat = get_or c.args.beats.now at.i nan in
    let count = at.invariant.2 at.i (omega arith) ∙ c.requires.2 at.i c.loop-i-test.true in
    let shown = c.answer_behind-shown.ensures ∙ by_count c.args.scroll_beats.now c.args.scroll_ratios.now c.args.prefix.now beat (get_or at.numbers at.i 0) count in
    (turned at.invariant.0 nan c.loop-i-test.true (ap (λ (d : Displayed). d.number) shown), turned at.invariant.1 nan c.loop-i-test.true (ap (λ (d : Displayed). d.beat) shown), λ j h. get_or-set_other at.numbers at.i j _ 0 (omega arith) ∙ at.invariant.2 j (omega arith))

pub shape_of-numbers : goal.shape_of-numbers
shape_of-numbers c = c.loop-i.invariant.0.long

pub shape_of-positions : goal.shape_of-positions
shape_of-positions c = c.loop-i.invariant.1.long

pub returns : goal.returns
returns c = (ended c.loop-i.invariant.0 c.loop-i-test.false, ended c.loop-i.invariant.1 c.loop-i-test.false)
