-- `text_tempos::entry_size` meets its contract: no entry is longer than the page aside. Assumes nothing.
use native.Mathlib.Omega.{arith}
use Rattle.text_page.proofs.WholePage.{wrote-whole}
use Rattle.text_tempos.proofs.EntrySizes.{entry-most}
use Rattle.text_tempos.proofs.entry_size.Goals as goal

pub returns : goal.returns
returns c =
    let given = c.args in
    (wrote-whole (omega (arith, entry-most given.i given.beat given.tempo)) c.put_entry.ensures).all
