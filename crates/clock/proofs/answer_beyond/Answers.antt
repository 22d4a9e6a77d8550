-- `clock::answer_beyond` answers from the mark. Assumes nothing.
use native.Mathlib.Omega.{arith}
use lib.Ieee.{of_bits}
use Rattle.rows.proofs.BackFromBits.{back}
use borrow.Author.Rules.{rules}
use Rattle.clock.proofs.answer_beyond.Goals as goal

pub answered-requires : goal.answered-requires
answered-requires c = omega arith

pub returns : goal.returns
unfolding of_bits
returns c =
    let s = c in
    rw (c.quiet_time-time.ensures, c.either-tempos.ensures, back s.args.row s.ranges.row) at c.answered.ensures
