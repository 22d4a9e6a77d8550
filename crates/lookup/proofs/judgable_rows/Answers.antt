-- `lookup::judgable_rows` has the one outcome that its definition gives. Assumes nothing.
use Rattle.lookup.proofs.UsableLists.{judgable_usable}
use Rattle.lookup.proofs.ManyRows.{refused_by_tests, refused_for_room, all-judged}
use Rattle.lookup_tests.specs.LookupLists.{LookupLists, lookup_lists}
use Rattle.lookup.specs.Lookups.{judgable_number, is_judgable}
use Rattle.limits.specs.Numbers.{every, row_in}
use Rattle.std.proofs.Common.{sym, ◌∙◌}
use Rattle.lookup.proofs.judgable_rows.Goals as goal
use Rattle.lookup.proofs.judgable_rows.Goals.{Start}

abbrev lists_at : Start → LookupLists
lists_at start =
    lookup_lists start.args.stop_beats.now start.args.stop_values.now start.args.delay_beats.now start.args.delay_values.now start.args.warp_beats.now start.args.warp_lengths.now start.args.fake_beats.now start.args.fake_lengths.now

pub returns-then-number-ne-TAKEN : goal.returns-then-number-ne-TAKEN
returns-then-number-ne-TAKEN c =
    let start = c in
    rw c.refused.ensures (refused_by_tests (judgable_number (lists_at (goal.at.returns-then-number-ne-TAKEN start).Start) (every row_in start.args.rows.now)) (is_judgable (lists_at (goal.at.returns-then-number-ne-TAKEN start).Start)) start.args.rows.now start.args.out.now c.judgable_number-number.result (rw c.rows_taken.ensures at c.judgable_number-number.ensures) c.if-number-ne-TAKEN.true)

pub returns-then-rows-out : goal.returns-then-rows-out
returns-then-rows-out c =
    let start = c in
    rw c.refused-then-rows-out.ensures (refused_for_room (judgable_number (lists_at (goal.at.returns-then-rows-out start).Start) (every row_in start.args.rows.now)) (is_judgable (lists_at (goal.at.returns-then-rows-out start).Start)) start.args.rows.now start.args.out.now (sym (rw c.rows_taken.ensures at c.judgable_number-number.ensures) ∙ c.if-number-ne-TAKEN.false) c.if-rows-out.true)

pub judge_rows-requires : goal.judge_rows-requires
judge_rows-requires c =
    let start = c in
    record {
      fact = judgable_usable (lists_at (goal.at.judge_rows-requires start).Start) (every row_in start.args.rows.now) (sym (rw c.rows_taken.ensures at c.judgable_number-number.ensures) ∙ c.if-number-ne-TAKEN.false);
      rows_in_bounds = c.if-rows-out.false;
    }

pub returns : goal.returns
returns c =
    let start = c in
    all-judged (judgable_number (lists_at (goal.at.returns start).Start) (every row_in start.args.rows.now)) (is_judgable (lists_at (goal.at.returns start).Start)) start.args.rows.now start.args.out.now _ (sym (rw c.rows_taken.ensures at c.judgable_number-number.ensures) ∙ c.if-number-ne-TAKEN.false) c.if-rows-out.false c.judge_rows.ensures
