-- `lookup_warped::warped_rows` meets its contract, warp by warp. Assumes nothing.
use Rattle.lookup_warped.proofs.PassingOn.{Passing}
use Rattle.lookup_warped.proofs.warped_rows.Given as goal

abbrev pub invariant-loop-i : goal.invariant-loop-i
invariant-loop-i l = Passing l.beats l.lengths l.rows l.far l.i
