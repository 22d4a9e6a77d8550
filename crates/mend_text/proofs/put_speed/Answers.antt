-- `mend_text::put_speed` meets its contract, piece by piece. Assumes nothing.
use mathlib.Core.List.{append_assoc}
use Rattle.report_form.specs.Text.{entry_line}
use Rattle.text_page.proofs.Joined.{wrote-join, wrote_as}
use Rattle.mend_text.proofs.put_speed.Goals as goal

pub returns : goal.returns
unfolding entry_line
returns c =
    let ended = c in
    let unit = ended in
    let delay = unit in
    let ratio = delay in
    let beat = ratio in
    let word = beat in
    wrote_as (simp append_assoc)
    (wrote-join word.put_bytes-at.ensures (wrote-join beat.put_number-at.ensures (wrote-join ratio.put_number-at-2.ensures (wrote-join delay.put_number-at-3.ensures (wrote-join unit.put_byte-at.ensures ended.put_byte.ensures)))))
