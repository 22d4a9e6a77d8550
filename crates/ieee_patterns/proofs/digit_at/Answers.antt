-- `ieee_patterns::digit_at` meets its contract: a digit is below 16 already. Assumes nothing.
use mathlib.Core.Path.{ap, ◌∙◌}
use native.Mathlib.Omega.{arith}
use Rattle.ieee_patterns.specs.Hex.{hex_digit}
use Rattle.ieee_patterns.proofs.digit_at.Goals as goal

pub returns : goal.returns
returns c = c.hex_digit.ensures ∙ ap hex_digit (omega arith)
