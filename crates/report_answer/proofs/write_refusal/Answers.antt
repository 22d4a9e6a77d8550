-- `report_answer::write_refusal` meets its contract. Assumes nothing.
use Rattle.report_answer.proofs.Inside.{wrote-counts}
use borrow.Author.Rules.{rules}
use Rattle.report_answer.proofs.write_refusal.Goals as goal

pub returns : goal.returns
returns c =
    let wrote = c.put_answer.ensures in
    record {
      wrote = wrote;
      prefix_len = wrote-counts wrote;
    }
