-- `limits::column_taken`: a column that is plain is taken, and of another each number is tested in full. Assumes nothing.
use mathlib.Core.Path.{sym, ap, ◌∙◌}
use Rattle.limits.specs.declared.Range.{Range}
use Rattle.limits.specs.Numbers.{every, all_in}
use Rattle.limits.specs.Plain.{plain}
use Rattle.limits.proofs.PlainTaken.{all_plain_taken}
use Rattle.limits.proofs.column_taken.Goals as goal

pub returns-then-all_plain : goal.returns-then-all_plain
returns-then-all_plain g c =
    let a = c.args in
    let column = g.R.Real.numbers a.column.now in
    let known = ap (λ (range : Range). every (plain range) column) (sym c.range_of-range.ensures) ∙ sym c.all_plain.ensures ∙ c.if-all_plain.true in
    sym (all_plain_taken a.kind column known)

pub returns : goal.returns
returns g c = c.all_in.ensures ∙ ap (λ (range : Range). all_in range (g.R.Real.numbers c.args.column.now)) c.range_of-range.ensures
