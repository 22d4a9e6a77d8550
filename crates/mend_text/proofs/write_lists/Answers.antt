-- `mend_text::write_lists` meets its contract, by the lower of both lists' numbers. Assumes nothing.
use mathlib.Core.Path.{◌≡◌}
use Rattle.chart.specs.ChartColumns.{ListColumns, list_columns, SpeedColumns, speed_columns}
use Rattle.text_page.proofs.Joined.{wrote-join, wrote_as}
use Rattle.report_answer.proofs.Inside.{wrote-counts}
use Rattle.mend_text.specs.MendedText.{mend_number}
use Rattle.mend_text.proofs.ByNumber.{lower-is, refused-only, taken-lists, both-taken}
use Rattle.mend_text.proofs.write_lists.Goals as goal
use Rattle.mend_text.proofs.write_lists.Goals.{After-lower_of-number, Start}

abbrev start : (c : After-lower_of-number) → Start
start c = (goal.at.After-lower_of-number c).Start

abbrev scrolls : (c : After-lower_of-number) → ListColumns
scrolls c = list_columns (start c).args.scroll_beats.now (start c).args.scroll_values.now

abbrev speeds : (c : After-lower_of-number) → SpeedColumns
speeds c = let given = (start c).args in speed_columns given.speed_beats.now given.speed_ratios.now given.speed_delays.now given.speed_units.now

number : (c : After-lower_of-number) → c.lower_of-number.result ≡ mend_number (scrolls c) (speeds c)
number c = lower-is (scrolls c) (speeds c) c.list_number-scrolls.ensures c.speed_list_number-speeds.ensures c.lower_of-number.ensures

pub returns-then-number-ne-TAKEN : goal.returns-then-number-ne-TAKEN
returns-then-number-ne-TAKEN c =
    let put = c in
    let asked = put in
    let wrote = wrote_as (refused-only (scrolls (goal.at.returns-then-number-ne-TAKEN asked).After-lower_of-number) (speeds (goal.at.returns-then-number-ne-TAKEN asked).After-lower_of-number) (number (goal.at.returns-then-number-ne-TAKEN asked).After-lower_of-number) c.if-number-ne-TAKEN.true) put.put_answer-at.ensures in
    record {
      fact = wrote;
      prefix_len = wrote-counts wrote;
    }

pub put_mended_scrolls-at-requires : goal.put_mended_scrolls-at-requires
put_mended_scrolls-at-requires c =
    let branch = c in
    let asked = branch in
    ((both-taken (scrolls (goal.at.put_mended_scrolls-at-requires asked).After-lower_of-number) (speeds (goal.at.put_mended_scrolls-at-requires asked).After-lower_of-number) (number (goal.at.put_mended_scrolls-at-requires asked).After-lower_of-number) branch.if-number-ne-TAKEN.false).0, (start (goal.at.put_mended_scrolls-at-requires asked).After-lower_of-number).requires.0)

pub put_mended_speeds-requires : goal.put_mended_speeds-requires
put_mended_speeds-requires c =
    let branch = c in
    let asked = branch in
    ((both-taken (scrolls (goal.at.put_mended_speeds-requires asked).After-lower_of-number) (speeds (goal.at.put_mended_speeds-requires asked).After-lower_of-number) (number (goal.at.put_mended_speeds-requires asked).After-lower_of-number) branch.if-number-ne-TAKEN.false).1, (start (goal.at.put_mended_speeds-requires asked).After-lower_of-number).requires.1)

pub returns : goal.returns
returns c =
    let second = c in
    let first = second in
    let branch = first in
    let put = branch in
    let asked = put in
    let wrote = wrote_as (taken-lists (scrolls (goal.at.returns asked).After-lower_of-number) (speeds (goal.at.returns asked).After-lower_of-number) (number (goal.at.returns asked).After-lower_of-number) branch.if-number-ne-TAKEN.false)
    (wrote-join put.put_answer-at.ensures (wrote-join first.put_mended_scrolls-at.ensures second.put_mended_speeds.ensures)) in
    record {
      fact = wrote;
      prefix_len = wrote-counts wrote;
    }
