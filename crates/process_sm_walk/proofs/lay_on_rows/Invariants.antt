use Rattle.process_sm_walk.proofs.LaidOnRows.{Laying}
use Rattle.process_sm_walk.proofs.lay_on_rows.Given as goal

abbrev pub invariant-loop-i : goal.invariant-loop-i
invariant-loop-i l = Laying l.beats l.values l.from l.written l.initial.out_beats l.initial.out_values l.out_beats l.out_values l.i l.count
