-- `report_answer::write_answer` meets its contract: the answer line, and where the lists are taken they behind it, list by list. Assumes nothing.
use Rattle.text_page.proofs.Joined.{wrote-join, wrote_as, wrote-length}
use Rattle.report_text.specs.Output.{lists_text}
use Rattle.report_answer.specs.Report.{done_text}
use Rattle.report_answer.proofs.Inside.{wrote-counts}
use Rattle.report_answer.proofs.Pieces.{refused-only, taken-lists}
use borrow.Author.Rules.{rules}
use Rattle.report_answer.proofs.write_answer.Goals as goal

pub returns-then-number-ne0 : goal.returns-then-number-ne0
unfolding done_text
returns-then-number-ne0 c =
    let wrote = wrote_as (refused-only _ _ _ c.if-number-ne0.true) c.put_answer-at.ensures in
    record {
      fact = wrote;
      prefix_len = wrote-counts wrote;
    }

pub returns : goal.returns
unfolding done_text lists_text
returns c =
    let lists =
    wrote-join c.put_offset-at.ensures
    (wrote-join c.put_pairs-at.ensures
    (wrote-join c.put_pairs-at-2.ensures
    (wrote-join c.put_pairs-at-3.ensures
    (wrote-join c.put_warps-at.ensures
    (wrote-join c.put_speeds-at.ensures
    (wrote-join c.put_pairs-at-4.ensures
    (wrote-join c.put_pairs-at-5.ensures
    (wrote-join c.put_warped-at.ensures
    c.put_moved.ensures)))))))) in
    let wrote = wrote-join c.put_answer-at.ensures (wrote_as (taken-lists _ _ c.if-number-ne0.false) lists) in
    record {
      fact = wrote;
      prefix_len = wrote-counts wrote;
    }
