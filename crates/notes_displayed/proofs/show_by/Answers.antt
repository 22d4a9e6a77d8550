-- `notes_displayed::show_by` lays the prefix, counts for all beats, and draws each. Assumes nothing.
use Rattle.std.proofs.Common.{ℕ, ◌∙◌}
use lib.Ieee.{Float, nan}
use Rattle.order.specs.Order.{laid as laid_over}
use Rattle.notes_displayed.specs.Scrolls.{scroll_prefix, found_up_to}
use Rattle.notes_displayed.specs.Answers.{checked_at}
use Rattle.notes_displayed.proofs.ScrollsTaken.{scrolls-taken}
use Rattle.notes_displayed.proofs.EachTwice.{each-length, each_at, each_again}
use Rattle.notes_displayed.proofs.CheckedIsTested.{displayed_checked_is_tested}
use Rattle.notes_displayed.proofs.Outcomes.{all-displayed}
use Rattle.notes_displayed.proofs.show_by.Goals as goal

pub lay_prefix-requires : goal.lay_prefix-requires
lay_prefix-requires c = let start = c in ((scrolls-taken start.requires.0).0.even, start.requires.1)

pub count_each-requires : goal.count_each-requires
count_each-requires c = let start = c in ((scrolls-taken start.requires.0).0.few, start.requires.2)

pub answer_each-requires : goal.answer_each-requires
answer_each-requires c =
    let counted = c in
    let start = counted in
    let beats = start.args.beats.now in
    let numbers = start.args.numbers.now in
    let count : Float → ℕ = λ (beat : Float). found_up_to beat start.args.scroll_beats.now in
    (rw (counted.count_each.ensures, each-length count beats numbers) start.requires.2, start.requires.3, λ i h. rw counted.count_each.ensures (each_at count beats numbers nan 0 i h start.requires.2))

pub returns : goal.returns
returns c =
    let all = c in
    let counted = all in
    let laid = counted in
    let known = laid in
    let start = known in
    let scroll_beats = start.args.scroll_beats.now in
    let scroll_ratios = start.args.scroll_ratios.now in
    let answer = checked_at scroll_beats scroll_ratios (laid_over (scroll_prefix scroll_beats scroll_ratios) start.args.prefix.now) in
    let shown = rw (laid.lay_prefix.ensures, counted.count_each.ensures) at all.answer_each.ensures in
    all-displayed answer (displayed_checked_is_tested scroll_beats scroll_ratios start.args.prefix.now known.shared_slice_known-1.given start.requires.0)
    (shown.0 ∙ each_again (λ (beat : Float). found_up_to beat scroll_beats) (λ (beat : Float). (answer beat).number) start.args.beats.now start.args.numbers.now) shown.1
