-- `mend_text::put_mended_scrolls` writes the list and the fates that mending leaves. Assumes nothing.
use Prim.Native.Nat.{ℕ}
use mathlib.Core.Path.{ap, ap₂, ◌∙◌}
use mathlib.Core.List.{List, map}
use lib.ListN.{length-replicate}
use lib.Ieee.{Float}
use Rattle.order.specs.Entries.{entries}
use Rattle.report_form.specs.Text.{entry_lines}
use Rattle.mend_text.specs.MendedText.{form_scroll, fate_lines}
use Rattle.ieee.specs.Constants.{plus_zero}
use Rattle.text_page.proofs.Joined.{wrote-join, wrote_as}
use Rattle.mend_text.proofs.FrontsMended.{scrolls-front, scroll_fates_front}
use Rattle.mend_text.proofs.put_mended_scrolls.Goals as goal

pub returns : goal.returns
returns c =
    let told = c in
    let lines = told in
    let mended = lines in
    let start = mended in
    let done = mended.mend_scrolls-done in
    let list = scrolls-front done.ensures start.requires.0 start.requires.1 (length-replicate 256 plus_zero) (length-replicate 256 plus_zero) (length-replicate {A = ℕ} 256 0) in
    let fates = scroll_fates_front done.ensures start.requires.0 start.requires.1 (length-replicate 256 plus_zero) (length-replicate 256 plus_zero) (length-replicate {A = ℕ} 256 0) in
    let columns = ap₂ (λ (beats values : List Float). entries beats values) lines.front.ensures lines.front-2.ensures in
    wrote-join (wrote_as (ap (λ (l : List (Float × Float)). entry_lines (map form_scroll l)) (columns ∙ list)) lines.put_scrolls-at.ensures)
    (wrote_as (ap (fate_lines 0) (told.front_units.ensures ∙ fates)) told.put_fates.ensures)
