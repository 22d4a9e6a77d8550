-- `tidy_splice::splice` opens a place, writes over one, or closes a gap. Assumes nothing.
use mathlib.Core.Path.{◌∙◌}
use native.Mathlib.Omega.{arith}
use lib.ListN.{length-set}
use lib.Ieee.{nan}
use Rattle.picks.proofs.Rules.{flags}
use Rattle.tidy_kept.specs.Changing.{spliced_in}
use Rattle.tidy_kept.proofs.PartReplaced.{spliced-opened, spliced-over, spliced-shut}
use Rattle.tidy_splice.proofs.splice.Goals as goal

pub returns-then-low-high-2 : goal.returns-then-low-high-2
returns-then-low-high-2 c =
    let g = c.args in
    c.open_place.ensures ∙ rw c.if-comes.true (spliced-opened nan g.column.now g.n (omega arith) g.low g.high (omega arith) (omega arith) g.x (omega arith))

pub close_gap-requires : goal.close_gap-requires
close_gap-requires c = (omega arith, omega arith, simp length-set (omega arith))

pub shape_of-column-then-comes : goal.shape_of-column-then-comes
shape_of-column-then-comes c = c.close_gap.auto.column ∙ simp length-set

pub returns-then-comes : goal.returns-then-comes
returns-then-comes c =
    let g = c.args in
    c.close_gap.ensures ∙ rw c.if-comes.true (spliced-over nan g.column.now g.n (omega arith) g.low g.high (omega arith) (omega arith) g.x (omega arith))

pub returns-else-comes : goal.returns-else-comes
returns-else-comes c =
    let g = c.args in
    c.close_gap-then-low-high.ensures ∙ rw c.if-comes.false (spliced-shut nan g.column.now g.n (omega arith) g.low g.high (omega arith) (omega arith) g.x)

pub returns-else-low-high : goal.returns-else-low-high
unfolding spliced_in
returns-else-low-high c = search flags

pub returns-else-high-n : goal.returns-else-high-n
unfolding spliced_in
returns-else-high-n c = search flags

pub returns-else-n-column : goal.returns-else-n-column
unfolding spliced_in
returns-else-n-column c = search flags
