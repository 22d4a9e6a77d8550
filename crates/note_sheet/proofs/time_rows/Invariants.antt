-- `note_sheet::time_rows` times all rows, piece by piece. Assumes nothing.
use Prim.Native.Nat.{◌-◌}
use lib.ListN.{length}
use Rattle.chart.specs.Timing.{timing}
use Rattle.note_sheet.proofs.RunInPieces.{Timed}
use Rattle.note_sheet.proofs.time_rows.Given as goal

abbrev pub invariant-loop-done : goal.invariant-loop-done
invariant-loop-done l = Timed (timing l.tempo_beats l.tempo_values l.stop_beats l.stop_values l.delay_beats l.delay_values l.warp_beats l.warp_lengths) l.offset l.global l.rows l.initial.times l.times l.at l.steps l.done

abbrev pub decreases-loop-done : goal.decreases-loop-done
decreases-loop-done l = length l.rows - l.done
