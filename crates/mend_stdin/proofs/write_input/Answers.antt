-- `mend_stdin::write_input` meets its contract: what was read is fed, and the answer to what it left is written. Assumes nothing.
use lib.Ieee.{of_bits}
use Rattle.mend_text.proofs.ReadText.{read-text, told_as}
use Rattle.mend_stdin.proofs.write_input.Goals as goal

pub returns-clause-mend_of_some : goal.returns-clause-mend_of_some
unfolding of_bits
returns-clause-mend_of_some c =
    let fed = c.read_all-reading.ensures in
    let text = read-text fed.bytes fed.read fed.counts fed.scroll_beats fed.scroll_values fed.speed_beats fed.speed_ratios fed.speed_delays fed.speed_units in
    record { bytes = fed.bytes; told = told_as text c.write_mended.ensures.fact }
