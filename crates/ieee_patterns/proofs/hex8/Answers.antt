-- `ieee_patterns::hex8` meets its contract, digit by digit. Assumes nothing.
use Rattle.ieee_patterns.specs.Hex.{hex_text}
use Rattle.ieee_patterns.proofs.hex8.Goals as goal

pub returns : goal.returns
unfolding hex_text
returns c = rw (c.digit_at.ensures, c.digit_at-2.ensures, c.digit_at-3.ensures, c.digit_at-4.ensures, c.digit_at-5.ensures, c.digit_at-6.ensures, c.digit_at-7.ensures, c.digit_at-8.ensures)
