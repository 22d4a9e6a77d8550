-- `report_text::put_decimal` meets its contract: the digits, and the line feed. Assumes nothing.
use Rattle.text_page.proofs.Joined.{wrote-join}
use Rattle.report_text.proofs.put_decimal.Goals as goal

pub returns : goal.returns
returns c = wrote-join c.put_digits-at.ensures c.put_byte.ensures
