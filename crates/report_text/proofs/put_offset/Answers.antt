-- `report_text::put_offset` meets its contract, piece by piece. Assumes nothing.
use Rattle.text_page.proofs.Joined.{wrote-join}
use Rattle.report_text.specs.Output.{offset_line}
use Rattle.report_text.proofs.put_offset.Goals as goal

pub returns : goal.returns
unfolding offset_line
returns c = wrote-join c.put_bytes-at.ensures c.put_number.ensures
