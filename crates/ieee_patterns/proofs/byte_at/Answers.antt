-- `ieee_patterns::byte_at` reads a text, and 0 past its end. Assumes nothing.
use mathlib.Core.Path.{sym}
use lib.ListN.{get_or-eq_default}
use Rattle.ieee_patterns.proofs.byte_at.Goals as goal

pub returns-else-at-text : goal.returns-else-at-text
returns-else-at-text c = sym (get_or-eq_default c.args.text.now 0 c.if-at-text.false)
