-- `mend_text::put_scroll` meets its contract, piece by piece. Assumes nothing.
use mathlib.Core.List.{append_assoc}
use Rattle.report_form.specs.Text.{entry_line}
use Rattle.text_page.proofs.Joined.{wrote-join, wrote_as}
use Rattle.mend_text.proofs.put_scroll.Goals as goal

pub returns : goal.returns
unfolding entry_line
returns c =
    let value = c in
    let beat = value in
    let word = beat in
    wrote_as (simp append_assoc) (wrote-join word.put_bytes-at.ensures (wrote-join beat.put_number-at.ensures value.put_number.ensures))
