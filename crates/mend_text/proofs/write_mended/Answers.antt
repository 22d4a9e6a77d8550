-- `mend_text::write_mended` meets its contract: the input's own number, or the answer to its lists. Assumes nothing.
use mathlib.Core.Path.{sym, ◌∙◌}
use Rattle.text_page.proofs.Joined.{wrote_as}
use Rattle.chart.specs.ChartColumns.{list_columns, speed_columns}
use Rattle.mend_text.proofs.ReadText.{few-counted, counted-few, fronts-are, refused-told, taken-told}
use Rattle.mend_text.proofs.write_mended.Goals as goal

pub returns-then-number-ne-TAKEN : goal.returns-then-number-ne-TAKEN
returns-then-number-ne-TAKEN c =
    let put = c in
    let asked = put in
    let given = asked.args in
    let scrolls = list_columns given.scroll_beats.now given.scroll_values.now in
    let speeds = speed_columns given.speed_beats.now given.speed_ratios.now given.speed_delays.now given.speed_units.now in
    record {
      fact = refused-told given.reading given.counts.now scrolls speeds asked.answer-number.ensures put.if-number-ne-TAKEN.true put.write_refusal.ensures.wrote;
      prefix_len = put.write_refusal.ensures.prefix_len;
    }

pub write_lists-requires : goal.write_lists-requires
write_lists-requires c =
    let second = c in
    let branch = second in
    let given = branch.args in
    let taken = sym branch.answer-number.ensures ∙ branch.if-number-ne-TAKEN.false in
    let few = few-counted given.reading given.counts.now taken in
    (counted-few second.count_of-scrolls.result given.scroll_beats.now c.front.ensures second.count_of-scrolls.ensures (few 7), counted-few second.count_of-speeds.result given.speed_beats.now c.front-3.ensures second.count_of-speeds.ensures (few 6))

pub returns : goal.returns
returns c =
    let put = c in
    let second = put in
    let branch = second in
    let asked = branch in
    let given = asked.args in
    let taken = sym asked.answer-number.ensures ∙ branch.if-number-ne-TAKEN.false in
    let scrolls = list_columns given.scroll_beats.now given.scroll_values.now in
    let speeds = speed_columns given.speed_beats.now given.speed_ratios.now given.speed_delays.now given.speed_units.now in
    let units = put in
    let lists = put.write_lists.ensures in
    let is = fronts-are given.reading given.counts.now scrolls speeds second.count_of-scrolls.ensures second.count_of-speeds.ensures units.front.ensures units.front-2.ensures units.front-3.ensures units.front-4.ensures units.front-5.ensures units.front_units.ensures in
    record {
      fact = taken-told given.reading given.counts.now scrolls speeds taken (wrote_as is lists.fact);
      prefix_len = lists.prefix_len;
    }
