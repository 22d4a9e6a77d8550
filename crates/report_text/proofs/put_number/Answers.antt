-- `report_text::put_number` meets its contract, by the digits of the pattern. Assumes nothing.
use Rattle.text_page.proofs.Joined.{wrote-join}
use Rattle.report_text.proofs.put_number.Goals as goal

pub returns : goal.returns
returns c = rw (← c.bits_of_f32.ensures, ← c.hex8-digits.ensures) (wrote-join c.put_bytes-at.ensures c.put_byte.ensures)
