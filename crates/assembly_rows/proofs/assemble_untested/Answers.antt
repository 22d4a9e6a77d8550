-- `assembly_rows::assemble_untested` refuses lengths, which counts none, and lends a part of an array that is no shorter than the list. Assumes nothing.
use mathlib.Core.Path.{◌≡◌, sym, ◌∙◌}
use native.Mathlib.Omega.{arith}
use lib.Seq.{length-take-le}
use Rattle.limits.specs.declared.Kind.TheVariants.{Beat, Value}
use Rattle.limits.specs.Numbers.{range_of}
use Rattle.limits.specs.Refusals.{list_number}
use Rattle.limits.proofs.ListTaken.{list-taken}
use Rattle.columns.specs.Laying.{refused_by}
use Rattle.columns_each.specs.OffGrid.{moved_in}
use Rattle.columns_each.proofs.OffGridCounts.{none_handed_up}
use Rattle.assembly_rows.proofs.Untested.{differing-refused, long-refused}
use borrow.Author.Rules.{rules}
use Rattle.assembly_rows.proofs.assemble_untested.Goals as goal

pub returns-then-beats-values : goal.returns-then-beats-values
returns-then-beats-values c =
    let given = c.args in
    let beats = given.beats.now in
    let values = given.values.now in
    let differ = c.if-beats-values.true in
    let up = c.with_moved in
    let refused : c.refused.result ≡ refused_by (list_number (range_of Beat) (range_of Value) beats values) = rw (c.refused.ensures, c.list_number-number.ensures) in
    record {
      rows_untested = rw (up.ensures.0 ∙ refused) (differing-refused beats values given.meaning given.out_beats.now given.out_values.now differ);
      moved_value = none_handed_up 0 (moved_in beats) up.ensures.0 up.ensures.1 (rw refused (λ e. differ (list-taken e).even));
    }

pub assemble_even-requires : goal.assemble_even-requires
assemble_even-requires c = let few = c in (sym few.if-beats-values.false, omega (arith, few.if-n-le-FEW.true), length-take-le _ _ few.if-n-le-FEW.true)

pub assemble_even-requires-then-n-le-MOST_ENTRIES : goal.assemble_even-requires-then-n-le-MOST_ENTRIES
assemble_even-requires-then-n-le-MOST_ENTRIES c = let many = c in (sym many.if-beats-values.false, many.if-n-le-MOST_ENTRIES.true, length-take-le _ _ many.if-n-le-MOST_ENTRIES.true)

pub returns : goal.returns
returns c =
    let given = c.args in
    let beats = given.beats.now in
    let up = c.with_moved-2 in
    record {
      rows_untested = rw (up.ensures.0 ∙ c.refused-2.ensures)
          (long-refused beats given.values.now given.meaning given.out_beats.now given.out_values.now c.if-beats-values.false c.if-n-le-MOST_ENTRIES.false);
      moved_value = none_handed_up 0 (moved_in beats) up.ensures.0 up.ensures.1 (rw c.refused-2.ensures (λ e. omega arith));
    }

pub slice_bounds-assemble_even-end : goal.slice_bounds-assemble_even-end
slice_bounds-assemble_even-end c = sym (length-take-le _ _ c.if-n-le-FEW.true)

pub returns-then-n-le-FEW : goal.returns-then-n-le-FEW
returns-then-n-le-FEW c =
    let given = c.assemble_even.ensures in
    record {
      rows_untested = given.rows_untested;
      moved_value = given.moved_value;
    }

pub slice_bounds-assemble_even-end-then-n-le-MOST_ENTRIES : goal.slice_bounds-assemble_even-end-then-n-le-MOST_ENTRIES
slice_bounds-assemble_even-end-then-n-le-MOST_ENTRIES c = sym (length-take-le _ _ c.if-n-le-MOST_ENTRIES.true)

pub returns-then-n-le-MOST_ENTRIES : goal.returns-then-n-le-MOST_ENTRIES
returns-then-n-le-MOST_ENTRIES c =
    let given = c.assemble_even-then-n-le-MOST_ENTRIES.ensures in
    record {
      rows_untested = given.rows_untested;
      moved_value = given.moved_value;
    }
