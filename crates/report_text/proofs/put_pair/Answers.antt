-- `report_text::put_pair` meets its contract, piece by piece. Assumes nothing.
use Rattle.text_page.proofs.Joined.{wrote-join, wrote_after}
use Rattle.report_text.specs.Output.{number, pair_line}
use Rattle.report_text.proofs.put_pair.Goals as goal

pub returns : goal.returns
unfolding pair_line
returns c = wrote-join c.put_bytes-at.ensures (wrote_after (number c.args.beat) 44 c.put_number-at.ensures c.put_number.ensures)
