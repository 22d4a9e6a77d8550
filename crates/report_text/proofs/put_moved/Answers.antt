-- `report_text::put_moved` meets its contract, piece by piece. Assumes nothing.
use Rattle.text_page.proofs.Joined.{wrote-join}
use Rattle.report_text.specs.Output.{moved_line}
use Rattle.report_text.proofs.put_moved.Goals as goal

pub returns : goal.returns
unfolding moved_line
returns c = wrote-join c.put_bytes-at.ensures c.put_decimal.ensures
