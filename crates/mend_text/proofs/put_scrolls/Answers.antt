-- `mend_text::put_scrolls` meets its contract: a turn is a line. Assumes nothing.
use Prim.Native.Nat.{◌<◌, min}
use mathlib.Core.Path.{◌≡◌, sym, ap}
use native.Mathlib.Omega.{arith}
use lib.ListN.{length, get_or}
use lib.Ieee.{Float, nan}
use Rattle.order.specs.Entries.{entries}
use Rattle.tidy_kept.proofs.ShortestColumn.{many-entries, entry_at}
use Rattle.text_page.proofs.Joined.{wrote_as}
use Rattle.report_form.specs.Text.{entry_line}
use Rattle.mend_text.specs.MendedText.{form_scroll}
use Rattle.mend_text.proofs.LinesLeft.{entries-turn, entries-end}
use Rattle.mend_text.proofs.put_scrolls.Goals as goal

pub loop-i-preserved : goal.loop-i-preserved
loop-i-preserved c =
    let put = c in
    let at = put in
    let given = at.args in
    let more = put.loop-i-test.true in
    let beats = given.beats.now in
    let values = given.values.now in
    let i = at.loop-i.i in
    let within : i < min (length beats) (length values) = omega (arith, at.room_of-n.ensures) in
    let here : get_or (entries beats values) i (nan, nan) ≡ (get_or beats i nan, get_or values i nan) = entry_at beats values i nan nan (omega arith) (omega arith) in
    entries-turn form_scroll (entries beats values) i at.loop-i.invariant (nan, nan) (omega (arith, many-entries beats values)) (wrote_as (ap (λ (e : Float × Float). entry_line (form_scroll e)) (sym here)) put.put_scroll-place.ensures)

pub returns : goal.returns
returns c =
    let at = c in
    let given = at.args in
    entries-end form_scroll (entries given.beats.now given.values.now) at.loop-i.i at.loop-i.invariant (omega (arith, many-entries given.beats.now given.values.now, at.room_of-n.ensures, c.loop-i-test.false))
