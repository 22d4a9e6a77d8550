-- `notes_displayed::draw_behind` draws a beat by the last of some scrolls. Assumes nothing.
use Rattle.std.proofs.Common.{◌∙◌, ne_eqb}
use Rattle.notes_displayed.specs.Scrolls.{behind_scrolls}
use Rattle.notes_displayed.proofs.draw_behind.Goals as goal

pub returns-then-count-eq0 : goal.returns-then-count-eq0
unfolding behind_scrolls
returns-then-count-eq0 c = rw c.if-count-eq0.true

pub returns : goal.returns
unfolding behind_scrolls
returns c =
    let ratio = c in
    let from = ratio in
    let shown = from in
    let some = shown in
    let start = some in
    c.displayed_from.ensures
    ∙ rw (ne_eqb start.args.count 0 some.if-count-eq0.false, ← shown.number_at.ensures, ← from.number_at_f32.ensures, ← ratio.number_at_f32-2.ensures)
