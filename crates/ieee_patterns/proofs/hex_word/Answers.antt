-- `ieee_patterns::hex_word` reads digit after digit. Assumes nothing.
use mathlib.Core.Path.{sym}
use borrow.Author.Rules.{rules}
use Rattle.ieee_patterns.proofs.WordRead.{none_past_end, turned, ended}
use Rattle.ieee_patterns.proofs.hex_word.Goals as goal

pub returns-then-at-text : goal.returns-then-at-text
returns-then-at-text c = sym (none_past_end 16 _ _ c.if-at-text.true)

pub loop-i-preserved : goal.loop-i-preserved
loop-i-preserved c = rw (c.hex_value-digit.ensures, c.byte_at.ensures) (turned _ _ c.loop-i.invariant (search rules))

pub returns : goal.returns
returns c = ended _ _ c.loop-i.invariant (search rules)
