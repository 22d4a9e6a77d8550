-- `assembly_rows::assemble_rows` meets its contract. Assumes nothing.
use mathlib.Core.Path.{sym, ◌∙◌}
use native.Mathlib.Omega.{arith}
use Rattle.rows.specs.Rows.{quantized}
use Rattle.limits.specs.declared.Kind.TheVariants.{Beat, Value}
use Rattle.limits.specs.Numbers.{range_of}
use Rattle.assembly_rows.specs.AssembledRows.{change_by, assembled_rows}
use Rattle.assembly_rows.proofs.Outcomes.{refused_as, too_long, uneven, lengths-pass}
use Rattle.assembly_rows.proofs.Untested.{untested_taken}
use borrow.Author.Rules.{rules}
use Rattle.assembly_rows.proofs.assemble_rows.Goals as goal

pub returns-then-number-eq-TAKEN : goal.returns-then-number-eq-TAKEN
returns-then-number-eq-TAKEN c =
    let given = c.args in
    untested_taken given.beats.now given.values.now given.meaning (sym c.list_number-number.ensures ∙ c.if-number-eq-TAKEN.true) c.assemble_untested.ensures.rows_untested

pub returns-then-number-eq-TOO_LONG : goal.returns-then-number-eq-TOO_LONG
returns-then-number-eq-TOO_LONG c =
    let given = c.args in
    let beats = given.beats.now in
    let values = given.values.now in
    rw c.refused.ensures
    (refused_as (assembled_rows (change_by given.meaning) beats values) given.out_beats.now given.out_values.now
    (too_long (range_of Beat) (range_of Value) quantized (change_by given.meaning) beats values (sym c.list_number-number.ensures ∙ c.if-number-eq-TOO_LONG.true)) (λ e. omega arith))

pub returns-then-number-eq-UNEVEN : goal.returns-then-number-eq-UNEVEN
returns-then-number-eq-UNEVEN c =
    let given = c.args in
    let beats = given.beats.now in
    let values = given.values.now in
    rw c.refused-then-number-eq-UNEVEN.ensures
    (refused_as (assembled_rows (change_by given.meaning) beats values) given.out_beats.now given.out_values.now
    (uneven (range_of Beat) (range_of Value) quantized (change_by given.meaning) beats values (sym c.list_number-number.ensures ∙ c.if-number-eq-UNEVEN.true)) (λ e. omega arith))

pub assemble_any-requires : goal.assemble_any-requires
assemble_any-requires c =
    let given = c.args in
    let lengths = lengths-pass (range_of Beat) (range_of Value) given.beats.now given.values.now (λ e. c.if-number-eq-TOO_LONG.false (c.list_number-number.ensures ∙ e)) (λ e. c.if-number-eq-UNEVEN.false (c.list_number-number.ensures ∙ e)) in
    (sym lengths.1, lengths.0)

pub returns : goal.returns
returns c = c.assemble_any.ensures
