-- `notes_displayed::lay_prefix` lays the prefix, entry by entry. Assumes nothing.
use Rattle.std.proofs.Common.{drop, arith, drop_of_length-le}
use lib.Ieee.{of_bits}
use Rattle.order.proofs.LaidOverFront.{laying-none, laying-more, laying-all}
use Rattle.notes_displayed.specs.Scrolls.{prefix_from, scroll_prefix}
use Rattle.notes_displayed.proofs.OneStepOn.{prefix_next}
use Rattle.notes_displayed.proofs.lay_prefix.Goals as goal

pub loop-i-init : goal.loop-i-init
unfolding scroll_prefix of_bits
loop-i-init c = laying-none (scroll_prefix c.args.scroll_beats.now c.args.scroll_ratios.now) c.args.prefix.now

pub loop-i-preserved : goal.loop-i-preserved
loop-i-preserved c =
    let beats = c.args.scroll_beats.now in
    let ratios = c.args.scroll_ratios.now in
    let at = c.loop-i in
    rw (c.scrolled_on-shown.ensures, c.f32_to_f64_with_nan-next.ensures, c.f32_to_f64_with_nan-ratio.ensures)
    (laying-more (scroll_prefix beats ratios) c.args.prefix.now at.prefix (prefix_from at.shown at.from at.ratio (drop at.i beats) (drop at.i ratios)) at.i at.invariant _ _
    (prefix_next at.shown at.from at.ratio beats ratios at.i c.loop-i-test.true c.requires.0) (omega (arith, at.invariant.size, c.loop-i-test.true, c.requires.1)))

pub returns : goal.returns
unfolding prefix_from
returns c =
    let beats = c.args.scroll_beats.now in
    let ratios = c.args.scroll_ratios.now in
    let at = c.loop-i in
    laying-all (scroll_prefix beats ratios) c.args.prefix.now at.prefix _ at.i at.invariant (rw (drop_of_length-le beats c.loop-i-test.false))
