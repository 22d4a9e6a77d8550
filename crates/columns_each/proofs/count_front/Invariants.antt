-- `columns_each::count_front` writes over each of the first entries, and counts those that differ. Assumes nothing.
use Rattle.std.proofs.Common.{take}
use Rattle.rows.specs.Rows.{on_grid32}
use Rattle.limits.proofs.HowManyFail.{CountedRound}
use Rattle.columns_each.proofs.InTwoLoops.{Rewriting, move}
use Rattle.columns_each.proofs.count_front.Given as goal

abbrev pub invariant-loop-i : goal.invariant-loop-i
invariant-loop-i l = Rewriting move l.initial.column l.n l.column l.i × CountedRound on_grid32 (take l.n l.initial.column) l.i l.off
