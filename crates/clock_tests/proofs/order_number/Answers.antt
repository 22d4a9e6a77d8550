-- `clock_tests::order_number` is `order_number`. Assumes nothing.
use borrow.Author.Tests.{not-true, not-false}
use Rattle.std.proofs.Common.{sym, ◌∙◌}
use Rattle.clock_tests.specs.TimingNumbers.{order_number}
use Rattle.clock_tests.proofs.order_number.Goals as goal

pub returns-then-not-rows_rise : goal.returns-then-not-rows_rise
unfolding order_number
returns-then-not-rows_rise c =
    rw (sym c.rows_rise.ensures ∙ not-true c.rows_rise.result c.if-not-rows_rise.true-raw)

pub returns-then-not-rows_rise-2 : goal.returns-then-not-rows_rise-2
unfolding order_number
returns-then-not-rows_rise-2 c =
    rw (
      sym c.rows_rise.ensures ∙ not-false c.rows_rise.result c.if-not-rows_rise.false-raw,
      sym c.rows_rise-2.ensures ∙ not-true c.rows_rise-2.result c.if-not-rows_rise-2.true-raw,
    )

pub returns-then-not-rows_rise-3 : goal.returns-then-not-rows_rise-3
unfolding order_number
returns-then-not-rows_rise-3 c =
    rw (
      sym c.rows_rise.ensures ∙ not-false c.rows_rise.result c.if-not-rows_rise.false-raw,
      sym c.rows_rise-2.ensures ∙ not-false c.rows_rise-2.result c.if-not-rows_rise-2.false-raw,
      sym c.rows_rise-3.ensures ∙ not-true c.rows_rise-3.result c.if-not-rows_rise-3.true-raw,
    )

pub returns-then-not-rows_rise-4 : goal.returns-then-not-rows_rise-4
unfolding order_number
returns-then-not-rows_rise-4 c =
    rw (
      sym c.rows_rise.ensures ∙ not-false c.rows_rise.result c.if-not-rows_rise.false-raw,
      sym c.rows_rise-2.ensures ∙ not-false c.rows_rise-2.result c.if-not-rows_rise-2.false-raw,
      sym c.rows_rise-3.ensures ∙ not-false c.rows_rise-3.result c.if-not-rows_rise-3.false-raw,
      sym c.rows_rise-4.ensures ∙ not-true c.rows_rise-4.result c.if-not-rows_rise-4.true-raw,
    )

pub returns-then-not-starts_at_zero : goal.returns-then-not-starts_at_zero
unfolding order_number
returns-then-not-starts_at_zero c =
    rw (
      sym c.rows_rise.ensures ∙ not-false c.rows_rise.result c.if-not-rows_rise.false-raw,
      sym c.rows_rise-2.ensures ∙ not-false c.rows_rise-2.result c.if-not-rows_rise-2.false-raw,
      sym c.rows_rise-3.ensures ∙ not-false c.rows_rise-3.result c.if-not-rows_rise-3.false-raw,
      sym c.rows_rise-4.ensures ∙ not-false c.rows_rise-4.result c.if-not-rows_rise-4.false-raw,
      sym c.starts_at_zero.ensures ∙ not-true c.starts_at_zero.result c.if-not-starts_at_zero.true-raw,
    )

pub returns : goal.returns
unfolding order_number
returns c =
    rw (
      sym c.rows_rise.ensures ∙ not-false c.rows_rise.result c.if-not-rows_rise.false-raw,
      sym c.rows_rise-2.ensures ∙ not-false c.rows_rise-2.result c.if-not-rows_rise-2.false-raw,
      sym c.rows_rise-3.ensures ∙ not-false c.rows_rise-3.result c.if-not-rows_rise-3.false-raw,
      sym c.rows_rise-4.ensures ∙ not-false c.rows_rise-4.result c.if-not-rows_rise-4.false-raw,
      sym c.starts_at_zero.ensures ∙ not-false c.starts_at_zero.result c.if-not-starts_at_zero.false-raw,
    )
