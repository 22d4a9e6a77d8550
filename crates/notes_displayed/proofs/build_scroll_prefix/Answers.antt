-- `notes_displayed::build_scroll_prefix` refuses, or lays the whole prefix. Assumes nothing.
use Rattle.std.proofs.Common.{sym, ◌∙◌}
use Rattle.notes_displayed.proofs.ScrollsTaken.{scrolls-taken}
use Rattle.notes_displayed.proofs.Outcomes.{prefix_refused, prefix_no_room, prefix_laid}
use Rattle.notes_displayed.proofs.build_scroll_prefix.Goals as goal

pub returns-then-number-ne-TAKEN : goal.returns-then-number-ne-TAKEN
returns-then-number-ne-TAKEN c =
    let tested = c in
    let start = tested in
    rw c.refused.ensures (prefix_refused start.args.scroll_beats.now start.args.scroll_ratios.now start.args.prefix.now tested.scroll_columns_number-number.result tested.scroll_columns_number-number.ensures c.if-number-ne-TAKEN.true)

pub returns-then-scroll_beats-prefix : goal.returns-then-scroll_beats-prefix
returns-then-scroll_beats-prefix c =
    let tested = c in
    let start = tested in
    rw c.refused-then-scroll_beats-prefix.ensures (prefix_no_room start.args.scroll_beats.now start.args.scroll_ratios.now start.args.prefix.now (sym tested.scroll_columns_number-number.ensures ∙ c.if-number-ne-TAKEN.false) c.if-scroll_beats-prefix.true)

pub lay_prefix-requires : goal.lay_prefix-requires
lay_prefix-requires c =
    let fits = c in
    let tested = fits in
    ((scrolls-taken (sym tested.scroll_columns_number-number.ensures ∙ fits.if-number-ne-TAKEN.false)).0.even, fits.if-scroll_beats-prefix.false)

pub returns : goal.returns
returns c =
    let laid = c in
    let fits = laid in
    let tested = fits in
    let start = tested in
    prefix_laid start.args.scroll_beats.now start.args.scroll_ratios.now start.args.prefix.now _ (sym tested.scroll_columns_number-number.ensures ∙ fits.if-number-ne-TAKEN.false) fits.if-scroll_beats-prefix.false laid.lay_prefix.ensures
