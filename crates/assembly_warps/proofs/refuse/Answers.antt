-- `assembly_warps::refuse` answers the lowest number of the three lists, or 7. Assumes nothing.
use borrow.Author.Tests.{eq-eqb, ne_eqb}
use Rattle.assembly_warps.specs.inside.OrNoRoom.{or_no_room}
use borrow.Author.Rules.{rules}
use Rattle.assembly_warps.proofs.refuse.Reads as reads
use Rattle.assembly_warps.proofs.refuse.Lts as lts
use Rattle.limits.proofs.lower_of.Reads as lower-of-reads
use Rattle.process_raw.proofs.number_of.Reads as number-of-reads
use Rattle.process_raw.proofs.refused.Reads as refused-reads
use Rattle.assembly_warps.proofs.refuse.Goals as goal

-- src/lib.rt:39:9
pub returns-then-number-ne-TAKEN : goal.returns-then-number-ne-TAKEN
unfolding or_no_room
returns-then-number-ne-TAKEN c = rw (← c.number_of.ensures, ← c.lower_of-number.ensures, ne_eqb c.lower_of-number.result 0 c.if-number-ne-TAKEN.true) c.refused.ensures

-- src/lib.rt:25:1
pub returns : goal.returns
unfolding or_no_room
returns c = rw (← c.number_of.ensures, ← c.lower_of-number.ensures, eq-eqb c.lower_of-number.result 0 c.if-number-ne-TAKEN.false) c.refused-2.ensures
