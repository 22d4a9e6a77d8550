-- `ieee_patterns::hex_digit` meets its contract, test by test. Assumes nothing.
use Rattle.picks.proofs.Rules.{picks}
use Rattle.ieee_patterns.specs.Hex.{hex_digit}
use Rattle.ieee_patterns.proofs.hex_digit.Goals as goal

pub returns-then-low-lt10 : goal.returns-then-low-lt10
unfolding hex_digit
returns-then-low-lt10 c = search picks depth 8

pub returns : goal.returns
unfolding hex_digit
returns c = search picks depth 8
