-- `text_page::put_bytes` meets its contract: a turn is a byte. Assumes nothing.
use lib.ListN.{drop}
use Rattle.text_page.proofs.Joined.{Left}
use Rattle.text_page.proofs.put_bytes.Given as goal

abbrev pub invariant-loop-byte : goal.invariant-loop-byte
invariant-loop-byte l = Left l.bytes (drop l.byte-index l.bytes) l.at l.place l.initial.page l.page
