-- `mend_text::put_fate` meets its contract, piece by piece. Assumes nothing.
use Rattle.text_page.proofs.Joined.{wrote-join}
use Rattle.mend_text.specs.MendedText.{fate_line}
use Rattle.mend_text.proofs.put_fate.Goals as goal

pub returns : goal.returns
unfolding fate_line
returns c =
    let ended = c in
    let position = ended in
    let word = position in
    wrote-join word.put_word-at.ensures (wrote-join position.put_digits-at.ensures ended.put_byte.ensures)
