-- `report::write_input` meets its contract: what was read is fed, and what it left is written. Assumes nothing.
use Rattle.std.proofs.Common.{refl}
use lib.Ieee.{of_bits}
use Rattle.report_whole.proofs.ReadReport.{read_report, reported_as}
use Rattle.report.proofs.write_input.Goals as goal

pub returns-clause-report_of_some : goal.returns-clause-report_of_some
unfolding of_bits
returns-clause-report_of_some c =
    let fed = c.read_all-reading.ensures in
    let text = read_report fed.bytes refl fed.read fed.counts fed.tempo_beats fed.tempo_values fed.stop_beats fed.stop_values fed.delay_beats fed.delay_values fed.warp_beats fed.warp_lengths fed.speed_beats fed.speed_ratios fed.speed_delays fed.speed_units fed.scroll_beats fed.scroll_values fed.fake_beats fed.fake_lengths in
    record { bytes = fed.bytes; reported = reported_as text c.write_report.ensures.fact }
