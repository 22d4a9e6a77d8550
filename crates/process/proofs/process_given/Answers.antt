-- `process::process_given` has the tempos and stops processed by the call of their format. Assumes nothing.
use borrow.Author.Rules.{rules}
use Rattle.chart.specs.ChartColumns.{list_columns}
use Rattle.process.proofs.FormatLists.{ssc-laid}
use Rattle.process.proofs.process_given.Reads as reads
use Rattle.process.proofs.process_given.Lts as lts
use Rattle.process_sm.proofs.process_bpms_and_stops_sm.Reads as process-bpms-and-stops-sm-reads
use Rattle.process_ssc.proofs.process_bpms_and_stops_ssc.Reads as process-bpms-and-stops-ssc-reads
use Rattle.process.proofs.process_given.Goals as goal

-- src/lib.rt:13:1
pub returns-in-Sm : goal.returns-in-Sm
returns-in-Sm c = rw c.in-Sm.is c.process_bpms_and_stops_sm.ensures

-- src/lib.rt:13:1
pub returns-in-Ssc : goal.returns-in-Ssc
returns-in-Ssc c = rw c.in-Ssc.is (ssc-laid (list_columns c.args.out_warp_beats.now c.args.out_warp_lengths.now) c.process_bpms_and_stops_ssc.ensures)
