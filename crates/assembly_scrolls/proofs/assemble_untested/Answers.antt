-- `assembly_scrolls::assemble_untested` lends columns by size; lengths that are refused count none. Assumes nothing.
use mathlib.Core.Path.{sym}
use Rattle.columns_each.specs.OffGrid.{moved_in}
use Rattle.columns_each.proofs.OffGridCounts.{none_handed_up}
use Rattle.assembly_scrolls.proofs.Untested.{not_even, not_few, uneven-refused, long-refused}
use borrow.Author.Rules.{rules}
use Rattle.assembly_scrolls.proofs.assemble_untested.Goals as goal

pub returns-then-beats-values : goal.returns-then-beats-values
returns-then-beats-values c =
    let given = c.args in
    let beats = given.beats.now in
    let values = given.values.now in
    let differ = c.if-beats-values.true in
    let refused = c.assemble_scrolls-refused.ensures in
    let up = c.with_moved in
    record {
      scrolls_untested = rw up.ensures.0 (not_even beats values differ refused);
      moved_value = none_handed_up 0 (moved_in beats) up.ensures.0 up.ensures.1 (uneven-refused beats values differ refused);
    }

pub returns : goal.returns
returns c =
    let given = c.args in
    let beats = given.beats.now in
    let values = given.values.now in
    let even = c.if-beats-values.false in
    let long = c.if-beats-le-MOST_ENTRIES.false in
    let refused = c.assemble_scrolls-refused-2.ensures in
    let up = c.with_moved-2 in
    record {
      scrolls_untested = rw up.ensures.0 (not_few beats values even long refused);
      moved_value = none_handed_up 0 (moved_in beats) up.ensures.0 up.ensures.1 (long-refused beats values long refused);
    }

pub assemble_by_few-requires : goal.assemble_by_few-requires
assemble_by_few-requires c = (c.if-beats-le-FEW.true, sym c.if-beats-values.false)

pub returns-then-beats-le-FEW : goal.returns-then-beats-le-FEW
returns-then-beats-le-FEW c =
    let given = c.assemble_by_few.ensures in
    record {
      scrolls_untested = given.scrolls_untested;
      moved_value = given.moved_value;
    }

pub assemble_by_many-requires : goal.assemble_by_many-requires
assemble_by_many-requires c = (c.if-beats-le-MOST_ENTRIES.true, sym c.if-beats-values.false)

pub returns-then-beats-le-MOST_ENTRIES : goal.returns-then-beats-le-MOST_ENTRIES
returns-then-beats-le-MOST_ENTRIES c =
    let given = c.assemble_by_many.ensures in
    record {
      scrolls_untested = given.scrolls_untested;
      moved_value = given.moved_value;
    }
