-- `process_ssc::lay_some` lays the entries that stay, one by one. Assumes nothing.
use Rattle.order.specs.Entries.{entries}
use Rattle.columns.proofs.KeptLaid.{KeptLaying}
use Rattle.process_ssc.specs.Ssc.{stays_ssc, quantized_entry}
use Rattle.process_ssc.proofs.lay_some.Given as goal

abbrev pub invariant-loop-i : goal.invariant-loop-i
invariant-loop-i l = KeptLaying stays_ssc quantized_entry (entries l.beats l.values) l.initial.out_beats l.out_beats l.initial.out_values l.out_values l.i l.count
