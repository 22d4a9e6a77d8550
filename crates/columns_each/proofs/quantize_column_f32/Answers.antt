-- `columns_each::quantize_column_f32` narrows each beat, and then quantises each. Assumes nothing.
use Rattle.std.proofs.Common.{List, take, ap, ◌∙◌, arith}
use lib.Ieee.{Float}
use Rattle.columns.specs.Each.{laid_each}
use Rattle.columns_each.proofs.InTwoLoops.{move, narrowed_then_moved}
use Rattle.columns_each.proofs.quantize_column_f32.Goals as goal

pub quantize_front-requires : goal.quantize_front-requires
quantize_front-requires c = omega (arith, c.room_of-n.ensures)

pub returns : goal.returns
returns c =
    let s = c in
    let n = c.room_of-n.result in
    c.quantize_front.ensures
    ∙ ap (λ (l : List Float). laid_each move (take n l) l) c.narrow_column.ensures
    ∙ narrowed_then_moved s.args.from.now s.args.to.now n c.room_of-n.ensures
