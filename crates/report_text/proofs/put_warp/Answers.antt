-- `report_text::put_warp` meets its contract, piece by piece. Assumes nothing.
use Rattle.text_page.proofs.Joined.{wrote-join, wrote_after}
use Rattle.report_text.specs.Output.{number, warp_line}
use Rattle.report_text.proofs.put_warp.Goals as goal

pub returns : goal.returns
unfolding warp_line
returns c = wrote-join c.put_bytes-at.ensures (wrote_after (number c.args.beat) 44 c.put_number-at.ensures (wrote_after (number c.args.length) 44 c.put_number-at-2.ensures (wrote-join c.put_byte-at.ensures c.put_byte.ensures)))
