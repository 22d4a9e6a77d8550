-- `ieee_patterns::hex_value` meets its contract, test by test. Assumes nothing.
use Rattle.picks.proofs.Rules.{picks}
use Rattle.ieee_patterns.specs.Hex.{hex_value}
use Rattle.ieee_patterns.proofs.hex_value.Goals as goal

pub returns-then-byte-lt48 : goal.returns-then-byte-lt48
unfolding hex_value
returns-then-byte-lt48 c = search picks depth 8

pub returns-then-byte-le57 : goal.returns-then-byte-le57
unfolding hex_value
returns-then-byte-le57 c = search picks depth 8

pub returns-then-byte-lt65 : goal.returns-then-byte-lt65
unfolding hex_value
returns-then-byte-lt65 c = search picks depth 8

pub returns-then-byte-le70 : goal.returns-then-byte-le70
unfolding hex_value
returns-then-byte-le70 c = search picks depth 8

pub returns : goal.returns
unfolding hex_value
returns c = search picks depth 8
