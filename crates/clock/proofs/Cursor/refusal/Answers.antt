-- `clock::Cursor::refusal` tests the cursor. Assumes nothing.
use Rattle.rows.proofs.BackFromBits.{back}
use mathlib.Core.Path.{◌≡◌, sym, ap, ◌∙◌}
use borrow.Author.Rules.{rules}
use Rattle.clock.proofs.Cursor.refusal.Goals as goal

pub returns : goal.returns
returns c =
    let s = c in rw (← c.tempos_of-tempos.ensures, ← back s.args.self.asked (record { sfits = c.struct_told-1.given.1.0.1 })) c.cursor_number.ensures
