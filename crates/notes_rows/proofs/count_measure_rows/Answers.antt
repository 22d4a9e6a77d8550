-- `notes_rows::count_measure_rows` counts up to the comma, or to the data's end. Assumes nothing.
use mathlib.Core.Path.{sym, ◌∙◌}
use native.Mathlib.Omega.{arith}
use Rattle.notes_rows.proofs.CountingRows.{at-start, rows_fit, at-end, at-comma, at_line_feed, at_blank, at_other}
use Rattle.notes_rows.proofs.count_measure_rows.Goals as goal

pub loop-i-init : goal.loop-i-init
loop-i-init c = at-start c.requires

pub overflow_add-result : goal.overflow_add-result
overflow_add-result c = omega (arith, rows_fit c.loop-i.invariant c.one_if.ensures)

pub returns-then-byte-eq-COMMA : goal.returns-then-byte-eq-COMMA
returns-then-byte-eq-COMMA c =
    at-comma c.loop-i.invariant c.loop-i-test.true c.one_if.ensures c.if-byte-eq-COMMA.true

pub overflow_add-rows : goal.overflow_add-rows
overflow_add-rows c = omega (arith, rows_fit c.loop-i.invariant c.one_if-rows.ensures)

pub loop-i-preserved-then-byte-eq-LINE_FEED : goal.loop-i-preserved-then-byte-eq-LINE_FEED
loop-i-preserved-then-byte-eq-LINE_FEED c =
    at_line_feed c.loop-i.invariant c.loop-i-test.true c.if-byte-eq-COMMA.false c.one_if-rows.ensures c.if-byte-eq-LINE_FEED.true

pub loop-i-preserved-then-is_blank : goal.loop-i-preserved-then-is_blank
loop-i-preserved-then-is_blank c =
    at_blank c.loop-i.invariant c.loop-i-test.true c.if-byte-eq-COMMA.false c.if-byte-eq-LINE_FEED.false (sym c.is_blank.ensures ∙ c.if-is_blank.true)

pub loop-i-preserved : goal.loop-i-preserved
loop-i-preserved c =
    at_other c.loop-i.invariant c.loop-i-test.true c.if-byte-eq-COMMA.false c.if-byte-eq-LINE_FEED.false (sym c.is_blank.ensures ∙ c.if-is_blank.false)

pub overflow_add-result-2 : goal.overflow_add-result-2
overflow_add-result-2 c = omega (arith, rows_fit c.loop-i.invariant c.one_if-2.ensures)

pub returns : goal.returns
returns c = at-end c.loop-i.invariant c.one_if-2.ensures c.loop-i-test.false
