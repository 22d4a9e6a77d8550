-- `text_page::put_byte` meets its contract, on the page and past its end. Assumes nothing.
use native.Mathlib.Omega.{arith}
use Rattle.text_page.proofs.Joined.{wrote_in, wrote-past}
use Rattle.text_page.proofs.put_byte.Goals as goal

pub returns-then-at-page : goal.returns-then-at-page
returns-then-at-page c = wrote_in _ _ _ (omega arith)

pub returns : goal.returns
returns c = wrote-past _ _ _ (omega arith)
