-- `assembly_speeds::assemble_untested` lends a part of an array that is no shorter than the list; lengths that are refused count none. Assumes nothing.
use mathlib.Core.Path.{sym, ◌∙◌}
use native.Mathlib.Omega.{arith}
use lib.Seq.{length-take-le}
use borrow.Author.Tests.{not-true, not-false}
use Rattle.chart.specs.ChartColumns.{speed_columns}
use Rattle.assembly_speeds.specs.inside.NarrowedSpeeds.{EvenSpeeds}
use Rattle.columns_each.specs.OffGrid.{moved_in}
use Rattle.columns_each.proofs.OffGridCounts.{none_handed_up}
use Rattle.assembly_speeds.proofs.Untested.{same_so, not_even, not_few, uneven-refused, long-refused}
use borrow.Author.Rules.{rules}
use Rattle.assembly_speeds.proofs.assemble_untested.Goals as goal
use Rattle.assembly_speeds.proofs.assemble_untested.Goals.{Else-not-same_lengths, Start}

-- ---- where the columns are of one length
abbrev start : Else-not-same_lengths → Start
start c = (goal.at.Else-not-same_lengths c).Start

even : (c : Else-not-same_lengths) → let given = (start c).args in EvenSpeeds (speed_columns given.beats.now given.ratios.now given.delays.now given.units.now)
even c =
    let given = (start c).args in
    let same = c.same_lengths in
    same_so (speed_columns given.beats.now given.ratios.now given.delays.now given.units.now) (sym same.ensures ∙ not-false same.result c.if-not-same_lengths.false-raw)

pub assemble_by-requires : goal.assemble_by-requires
assemble_by-requires c = let few = c in
    record {
      even_speeds = even (goal.at.assemble_by-requires few).Else-not-same_lengths;
      beats_len_bound = (omega (arith, few.if-n-le-FEW.true), length-take-le _ _ few.if-n-le-FEW.true);
    }

pub assemble_by-requires-then-n-le-MOST_ENTRIES : goal.assemble_by-requires-then-n-le-MOST_ENTRIES
assemble_by-requires-then-n-le-MOST_ENTRIES c = let many = c in
    record {
      even_speeds = even (goal.at.assemble_by-requires-then-n-le-MOST_ENTRIES many).Else-not-same_lengths;
      beats_len_bound = (many.if-n-le-MOST_ENTRIES.true, length-take-le _ _ many.if-n-le-MOST_ENTRIES.true);
    }

-- ---- where they are not, or are too long
pub returns-then-not-same_lengths : goal.returns-then-not-same_lengths
returns-then-not-same_lengths c =
    let given = c.args in
    let raw = speed_columns given.beats.now given.ratios.now given.delays.now given.units.now in
    let same = c.same_lengths in
    let differ = sym same.ensures ∙ not-true same.result c.if-not-same_lengths.true-raw in
    let refused = c.assemble_speeds-refused.ensures in
    let up = c.with_moved in
    record {
      fact = rw up.ensures.0 (not_even raw differ refused);
      moved_value = none_handed_up 0 (moved_in given.beats.now) up.ensures.0 up.ensures.1 (uneven-refused raw differ refused);
    }

pub returns : goal.returns
returns c =
    let given = c.args in
    let raw = speed_columns given.beats.now given.ratios.now given.delays.now given.units.now in
    let same = c.same_lengths in
    let long = c.if-n-le-MOST_ENTRIES.false in
    let refused = c.assemble_speeds-refused-2.ensures in
    let up = c.with_moved-2 in
    record {
      fact = rw up.ensures.0 (not_few raw (sym same.ensures ∙ not-false same.result c.if-not-same_lengths.false-raw) long refused);
      moved_value = none_handed_up 0 (moved_in given.beats.now) up.ensures.0 up.ensures.1 (long-refused raw long refused);
    }

pub slice_bounds-assemble_by-end : goal.slice_bounds-assemble_by-end
slice_bounds-assemble_by-end c = sym (length-take-le _ _ c.if-n-le-FEW.true)

pub returns-then-n-le-FEW : goal.returns-then-n-le-FEW
returns-then-n-le-FEW c =
    let given = c.assemble_by.ensures in
    record {
      fact = given.fact;
      moved_value = given.moved_value;
    }

pub slice_bounds-assemble_by-end-then-n-le-MOST_ENTRIES : goal.slice_bounds-assemble_by-end-then-n-le-MOST_ENTRIES
slice_bounds-assemble_by-end-then-n-le-MOST_ENTRIES c = sym (length-take-le _ _ c.if-n-le-MOST_ENTRIES.true)

pub returns-then-n-le-MOST_ENTRIES : goal.returns-then-n-le-MOST_ENTRIES
returns-then-n-le-MOST_ENTRIES c =
    let given = c.assemble_by-then-n-le-MOST_ENTRIES.ensures in
    record {
      fact = given.fact;
      moved_value = given.moved_value;
    }
