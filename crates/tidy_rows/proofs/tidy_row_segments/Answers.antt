-- `tidy_rows::tidy_row_segments` meets its contract. Assumes nothing.
use mathlib.Core.Path.{sym, ◌∙◌}
use native.Mathlib.Omega.{arith}
use lib.ListN.{length}
use Rattle.limits.proofs.ListTaken.{list-taken}
use Rattle.columns.proofs.Rooms.{refused_by_tests}
use Rattle.limits.proofs.Sizes.{taken-sizes}
use Rattle.columns.proofs.ListLaid.{numbered}
use Rattle.tidy_rows.specs.RowTidying.{tidy_rows, rows_number}
use Rattle.tidy_rows.proofs.tidy_row_segments.Goals as goal

pub returns-then-number-ne-TAKEN : goal.returns-then-number-ne-TAKEN
returns-then-number-ne-TAKEN c =
    let given = c.args in
    let number = c.list_number-number in
    rw (c.refused.ensures, number.ensures)
    (refused_by_tests (rows_number given.beats.now given.values.now) (tidy_rows given.beats.now given.values.now) given.out_beats.now given.out_values.now (λ e. omega (arith, c.if-number-ne-TAKEN.true, number.ensures, e)))

pub look_at_neighbours-found-requires : goal.look_at_neighbours-found-requires
look_at_neighbours-found-requires c = (list-taken (sym c.list_number-number.ensures ∙ c.if-number-ne-TAKEN.false)).beats_in

pub tidy_ordered-requires : goal.tidy_ordered-requires
tidy_ordered-requires c =
    let seen = c.look_at_neighbours-found.ensures in
    record {
      values_value = sym c.list_number-number.ensures ∙ c.if-number-ne-TAKEN.false;
      beats_value = seen.in_order c.if-found-eq0.true;
      beats_value_2 = seen.kept;
    }

pub returns-then-found-eq0 : goal.returns-then-found-eq0
returns-then-found-eq0 c = c.tidy_ordered.ensures

pub tidy_turned-requires : goal.tidy_turned-requires
tidy_turned-requires c =
    let looked = c in
    let seen = looked.look_at_neighbours-found.ensures in
    record {
      values_value = sym looked.list_number-number.ensures ∙ looked.if-number-ne-TAKEN.false;
      beats_value = seen.turned c.if-found-eq0-2.true;
      beats_value_2 = seen.kept;
    }

pub returns-then-found-eq0-2 : goal.returns-then-found-eq0-2
returns-then-found-eq0-2 c = c.tidy_turned.ensures

pub returns : goal.returns
unfolding tidy_rows
returns c =
    let given = c.args in
    let zero = sym c.list_number-number.ensures ∙ c.if-number-ne-TAKEN.false in
    let list = list-taken zero in
    numbered (taken-sizes (length given.beats.now) (length given.values.now) list.few list.even ∙ sym zero) c.tidy_by_sort_untested.ensures
