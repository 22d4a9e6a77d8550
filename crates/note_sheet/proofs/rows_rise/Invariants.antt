-- `note_sheet::rows_rise` counts the neighbours that fail. Assumes nothing.
use Prim.Native.Nat.{◌-◌}
use lib.Signed.{lt_z}
use Rattle.limits.proofs.EachTwo.{CountedTwo}
use Rattle.note_sheet.proofs.rows_rise.Given as goal

abbrev pub invariant-loop-i : goal.invariant-loop-i
invariant-loop-i l = CountedTwo lt_z l.rows (l.i - 1) l.fail
