use Rattle.std.proofs.Common.{◌≡◌, ◌+◌, drop}
use Rattle.order.specs.Entries.{entries}
use Rattle.process_sm_walk.specs.Chart.{last_tempo, tempos_by0, opening_tempo}
use Rattle.process_sm_walk.proofs.opening_tempo.Given as goal

abbrev pub invariant-loop-at : goal.invariant-loop-at
invariant-loop-at l = (last_tempo l.tempo (drop l.at (entries l.beats l.values)) ≡ opening_tempo (entries l.beats l.values))
    × (l.at + tempos_by0 (drop l.at (entries l.beats l.values)) ≡ tempos_by0 (entries l.beats l.values))
