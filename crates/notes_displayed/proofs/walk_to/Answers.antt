-- `notes_displayed::walk_to` passes the scrolls up to the beat, and draws it by the last. Assumes nothing.
use Rattle.std.proofs.Common.{◌∙◌}
use Rattle.std.proofs.Common.{arith}
use Rattle.std.proofs.lemmas.Grind.{common_steps}
use lib.Ieee.{of_bits}
use Rattle.notes_displayed.specs.Scrolls.{reaches}
use Rattle.notes_displayed.proofs.WalkedTo.{walk-begun, walk-turned, next-stays, all-passed, walked_none, walked-some}
use Rattle.notes_displayed.proofs.walk_to.Goals as goal

pub loop-i-init : goal.loop-i-init
unfolding of_bits
loop-i-init c = walk-begun c.args.beat c.args.scroll_beats.now c.args.scroll_ratios.now

pub loop-i-preserved : goal.loop-i-preserved
unfolding reaches
loop-i-preserved c =
    rw (c.scrolled_on-shown.ensures, c.f32_to_f64_with_nan-next.ensures, c.f32_to_f64_with_nan-ratio.ensures)
    (walk-turned c.args.beat c.args.scroll_beats.now c.args.scroll_ratios.now c.loop-i.invariant c.requires c.loop-i-test.true (rw c.f32_to_f64_with_nan-next.ensures at c.if-next-beat.true))

pub returns-then-i-eq0 : goal.returns-then-i-eq0
unfolding reaches
returns-then-i-eq0 c =
    let stays = next-stays c.args.beat c.args.scroll_beats.now c.args.scroll_ratios.now c.loop-i.invariant c.loop-i-test.true (rw c.f32_to_f64_with_nan-next.ensures at c.if-next-beat.false) in
    walked_none c.args.beat c.args.scroll_beats.now c.args.scroll_ratios.now c.loop-i.invariant stays c.if-i-eq0.true

pub returns-in-loop-i : goal.returns-in-loop-i
unfolding reaches
returns-in-loop-i c =
    let stays = next-stays c.args.beat c.args.scroll_beats.now c.args.scroll_ratios.now c.loop-i.invariant c.loop-i-test.true (rw c.f32_to_f64_with_nan-next.ensures at c.if-next-beat.false) in
    c.displayed_from.ensures ∙ walked-some c.args.beat c.args.scroll_beats.now c.args.scroll_ratios.now c.loop-i.invariant stays c.requires c.if-i-eq0.false

pub returns-then-is_empty : goal.returns-then-is_empty
returns-then-is_empty c =
    let none = all-passed c.args.beat c.args.scroll_beats.now c.args.scroll_ratios.now c.loop-i.invariant c.loop-i-test.false in
    walked_none c.args.beat c.args.scroll_beats.now c.args.scroll_ratios.now c.loop-i.invariant none (grind (arith, common_steps))

pub returns : goal.returns
returns c =
    let none = all-passed c.args.beat c.args.scroll_beats.now c.args.scroll_ratios.now c.loop-i.invariant c.loop-i-test.false in
    c.displayed_from-2.ensures ∙ walked-some c.args.beat c.args.scroll_beats.now c.args.scroll_ratios.now c.loop-i.invariant none c.requires (λ z. grind (arith, common_steps))
