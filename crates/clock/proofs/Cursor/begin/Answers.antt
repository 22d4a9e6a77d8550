-- `clock::Cursor::begin` begins the walk. Assumes nothing.
use mathlib.Core.Bool.{true, false}
use Rattle.rows.proofs.BackFromBits.{back, tested}
use Rattle.clock.specs.Question.{beginning}
use borrow.Author.Rules.{rules}
use Rattle.clock.proofs.Cursor.begin.Goals as goal

pub returns-then-row-last : goal.returns-then-row-last
unfolding beginning
returns-then-row-last c =
    let s = c in
    rw (tested s.args.row s.args.self.asked s.ranges.row (record { sfits = c.struct_told-1.given.1.0.1 }) true c.if-row-last.true) c.fresh_state.ensures

pub returns : goal.returns
unfolding beginning
returns c =
    let s = c in
    rw (tested s.args.row s.args.self.asked s.ranges.row (record { sfits = c.struct_told-1.given.1.0.1 }) false c.if-row-last.false)
