-- `clock::Cursor::walked` is the walk from where it begins. Assumes nothing.
use Rattle.rows.proofs.BackFromBits.{back}
use borrow.Author.Rules.{rules}
use Rattle.clock.proofs.Cursor.walked.Goals as goal

pub returns : goal.returns
returns c =
    let s = c in
    record {
      is = rw (c.begin-begin.ensures, back s.args.row s.ranges.row) at c.walk_filled.ensures.is;
      few = c.walk_filled.ensures.few;
    }
