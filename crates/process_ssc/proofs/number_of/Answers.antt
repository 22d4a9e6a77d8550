-- `process_ssc::number_of` goes by what is known of both lists. Assumes nothing.
use mathlib.Core.Path.{sym}
use Rattle.limits.proofs.NoRefusal.{none-lower}
use Rattle.process_ssc.proofs.number_of.Goals as goal

pub returns-then-stops_whole : goal.returns-then-stops_whole
returns-then-stops_whole c =
    let s = c in
    rw ((s.requires.known c.if-tempos_whole.true).number, (s.requires.known_2 c.if-stops_whole.true).number) (sym (none-lower 0))
