-- `report_text::put_speed` meets its contract, piece by piece. Assumes nothing.
use Rattle.text_page.proofs.Joined.{wrote-join, wrote_after}
use Rattle.report_text.specs.Output.{number, speed_line}
use Rattle.report_text.proofs.put_speed.Goals as goal

pub returns : goal.returns
unfolding speed_line
returns c = wrote-join c.put_bytes-at.ensures (wrote_after (number c.args.beat) 44 c.put_number-at.ensures (wrote_after (number c.args.ratio) 44 c.put_number-at-2.ensures (wrote_after (number c.args.delay) 44 c.put_number-at-3.ensures (wrote-join c.put_byte-at.ensures c.put_byte.ensures))))
