-- `clock_tests::cursor_number` is `cursor_number`. Assumes nothing.
use Rattle.std.proofs.Common.{◌≡◌, true, false, ℤ, sym, ap, ◌∙◌, w32, to_z, of_z}
use mir.ValLaws.{to_z-of_z}
use borrow.Author.Tests.{not-true, not-false}
use Rattle.clock_tests.specs.CursorNumbers.{rows_in, cursor_number}
use Rattle.clock_tests.proofs.CursorTaken.{together}
use Rattle.clock_tests.proofs.cursor_number.Goals as goal

pub returns-then-not-places_in : goal.returns-then-not-places_in
unfolding cursor_number
returns-then-not-places_in c =
    rw (sym c.places_in.ensures ∙ not-true c.places_in.result c.if-not-places_in.true-raw)

pub returns-then-not-rows_in : goal.returns-then-not-rows_in
unfolding cursor_number
returns-then-not-rows_in c =
    let s = c in
    let last = to_z-of_z w32 s.args.state.row (record { sfits = c.struct_told-1.given.1.1.1.1.0.1 }) in
    let asked = to_z-of_z w32 s.args.asked s.ranges.asked in
    let rows : c.rows_in.result ≡ rows_in s.args.state.row s.args.asked = c.rows_in.ensures ∙ ap (λ (z : ℤ). rows_in z (to_z w32 (of_z w32 s.args.asked))) last ∙ ap (rows_in s.args.state.row) asked in
    rw (
      sym c.places_in.ensures ∙ not-false c.places_in.result c.if-not-places_in.false-raw,
      sym (rows) ∙ not-true c.rows_in.result c.if-not-rows_in.true-raw,
    )

pub returns-then-not-time_and_end_in : goal.returns-then-not-time_and_end_in
unfolding cursor_number
returns-then-not-time_and_end_in c =
    let s = c in
    let last = to_z-of_z w32 s.args.state.row (record { sfits = c.struct_told-1.given.1.1.1.1.0.1 }) in
    let asked = to_z-of_z w32 s.args.asked s.ranges.asked in
    let rows : c.rows_in.result ≡ rows_in s.args.state.row s.args.asked = c.rows_in.ensures ∙ ap (λ (z : ℤ). rows_in z (to_z w32 (of_z w32 s.args.asked))) last ∙ ap (rows_in s.args.state.row) asked in
    rw (
      sym c.places_in.ensures ∙ not-false c.places_in.result c.if-not-places_in.false-raw,
      sym (rows) ∙ not-false c.rows_in.result c.if-not-rows_in.false-raw,
    ) (together s.args.state.time s.args.state.end false (sym (not-true c.time_and_end_in.result c.if-not-time_and_end_in.true-raw) ∙ c.time_and_end_in.ensures))

pub returns : goal.returns
unfolding cursor_number
returns c =
    let s = c in
    let last = to_z-of_z w32 s.args.state.row (record { sfits = c.struct_told-1.given.1.1.1.1.0.1 }) in
    let asked = to_z-of_z w32 s.args.asked s.ranges.asked in
    let rows : c.rows_in.result ≡ rows_in s.args.state.row s.args.asked = c.rows_in.ensures ∙ ap (λ (z : ℤ). rows_in z (to_z w32 (of_z w32 s.args.asked))) last ∙ ap (rows_in s.args.state.row) asked in
    rw (
      sym c.places_in.ensures ∙ not-false c.places_in.result c.if-not-places_in.false-raw,
      sym (rows) ∙ not-false c.rows_in.result c.if-not-rows_in.false-raw,
    ) (together s.args.state.time s.args.state.end true (sym (not-false c.time_and_end_in.result c.if-not-time_and_end_in.false-raw) ∙ c.time_and_end_in.ensures))
