-- `ieee_patterns::hex_word` reads digit after digit. Assumes nothing.
use Rattle.ieee_patterns.proofs.WordRead.{Reading}
use Rattle.ieee_patterns.proofs.hex_word.Given as goal

abbrev pub invariant-loop-i : goal.invariant-loop-i
invariant-loop-i l = Reading l.text l.at l.number l.i
