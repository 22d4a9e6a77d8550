-- `columns_each::quantize_by` narrows, and then moves to rows. Assumes nothing.
use Rattle.std.proofs.Common.{List, ap, ◌∙◌}
use lib.Ieee.{Float}
use Rattle.columns.specs.Each.{laid_each}
use Rattle.columns_each.proofs.InTwoLoops.{move, moved-narrowed}
use Rattle.columns_each.proofs.quantize_by.Goals as goal

pub returns : goal.returns
returns c =
    let s = c in
    c.move_narrowed.ensures
    ∙ ap (λ (l : List Float). laid_each move l s.args.to.now) c.narrow_column.ensures
    ∙ moved-narrowed s.args.from.now s.args.narrowed.now s.args.to.now s.requires
