-- `text_page::put_bytes` meets its contract: a turn is a byte. Assumes nothing.
use native.Mathlib.Omega.{arith}
use Rattle.text_page.proofs.BytesLeft.{bytes-turn, bytes-end}
use Rattle.text_page.proofs.put_bytes.Goals as goal

pub loop-byte-preserved : goal.loop-byte-preserved
loop-byte-preserved c =
    bytes-turn c.args.bytes.now c.loop-byte.byte-index (omega arith) c.loop-byte.invariant c.put_byte-place.ensures

pub returns : goal.returns
returns c =
    bytes-end c.args.bytes.now c.loop-byte.byte-index (omega arith) c.loop-byte.invariant
