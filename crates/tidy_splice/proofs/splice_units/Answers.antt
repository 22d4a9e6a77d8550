-- `tidy_splice::splice_units` opens a place, writes over one, or closes a gap. Assumes nothing.
use mathlib.Core.Path.{◌∙◌}
use native.Mathlib.Omega.{arith}
use lib.ListN.{length-set}
use Rattle.picks.proofs.Rules.{flags}
use Rattle.tidy_kept.specs.Changing.{spliced_in}
use Rattle.tidy_kept.proofs.PartReplaced.{spliced-opened, spliced-over, spliced-shut}
use Rattle.tidy_splice.proofs.splice_units.Goals as goal

pub returns-then-low-high-2 : goal.returns-then-low-high-2
returns-then-low-high-2 c =
    let g = c.args in
    c.open_unit.ensures ∙ rw c.if-comes.true (spliced-opened 0 g.column.now g.n (omega arith) g.low g.high (omega arith) (omega arith) g.x (omega arith))

pub close_units-requires : goal.close_units-requires
close_units-requires c = (omega arith, omega arith, simp length-set (omega arith))

pub shape_of-column-then-comes : goal.shape_of-column-then-comes
shape_of-column-then-comes c = c.close_units.auto.column ∙ simp length-set

pub returns-then-comes : goal.returns-then-comes
returns-then-comes c =
    let g = c.args in
    c.close_units.ensures ∙ rw c.if-comes.true (spliced-over 0 g.column.now g.n (omega arith) g.low g.high (omega arith) (omega arith) g.x (omega arith))

pub returns-else-comes : goal.returns-else-comes
returns-else-comes c =
    let g = c.args in
    c.close_units-then-low-high.ensures ∙ rw c.if-comes.false (spliced-shut 0 g.column.now g.n (omega arith) g.low g.high (omega arith) (omega arith) g.x)

pub returns-else-low-high : goal.returns-else-low-high
unfolding spliced_in
returns-else-low-high c = search flags

pub returns-else-high-n : goal.returns-else-high-n
unfolding spliced_in
returns-else-high-n c = search flags

pub returns-else-n-column : goal.returns-else-n-column
unfolding spliced_in
returns-else-n-column c = search flags
