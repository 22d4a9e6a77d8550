-- `tidy_rows::lay_each_turned` lays every entry on its row, turned round. Assumes nothing.
use mathlib.Core.List.{reverse}
use lib.Ieee.{Float}
use lib.ListN.{length}
use Rattle.columns.proofs.LaidEach.{LayingEach}
use Rattle.rows.specs.RowKey.{beat_on_row}
use Rattle.tidy_rows.proofs.lay_each_turned.Given as goal

abbrev pub invariant-loop-i : goal.invariant-loop-i
invariant-loop-i l = LayingEach beat_on_row (reverse l.beats) l.initial.out_beats (length l.beats) l.out_beats l.i × LayingEach (λ (value : Float). value) (reverse l.values) l.initial.out_values (length l.beats) l.out_values l.i
