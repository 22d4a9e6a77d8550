-- `process_ssc::count_stayed` counts the entries that stay, one by one. Assumes nothing.
use Rattle.order.specs.Entries.{entries}
use Rattle.columns.proofs.KeptLaid.{KeptCount}
use Rattle.process_ssc.specs.Ssc.{stays_ssc, quantized_entry}
use Rattle.process_ssc.proofs.count_stayed.Given as goal

abbrev pub invariant-loop-i : goal.invariant-loop-i
invariant-loop-i l = KeptCount stays_ssc quantized_entry (entries l.beats l.values) l.i l.count
