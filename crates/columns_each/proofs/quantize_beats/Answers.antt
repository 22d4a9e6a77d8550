-- `columns_each::quantize_beats` narrows each beat, and then quantises and counts. Assumes nothing.
use Rattle.std.proofs.Common.{List, take, ap, ◌∙◌, arith}
use lib.Ieee.{Float}
use Rattle.rows.specs.Rows.{on_grid32}
use Rattle.limits.specs.Numbers.{misses}
use Rattle.columns.specs.Each.{laid_each}
use Rattle.columns_each.specs.OffGrid.{round_count}
use Rattle.columns_each.proofs.InTwoLoops.{move, narrowed_then_moved, narrowed_then_counted}
use Rattle.columns_each.proofs.quantize_beats.Goals as goal

pub count_front-requires : goal.count_front-requires
count_front-requires c = omega (arith, c.room_of-n.ensures)

pub returns : goal.returns
returns c =
    let given = c.args in
    let room = c.room_of-n in
    let narrowed = c.narrow_column.ensures in
    let done = c.count_front.ensures in
    let n = room.result in
    record {
      to_after = done.moved ∙ ap (λ (l : List Float). laid_each move (take n l) l) narrowed ∙ narrowed_then_moved given.from.now given.to.now n room.ensures;
      value = done.counted ∙ ap (λ (l : List Float). round_count (misses on_grid32 (take n l))) narrowed
          ∙ ap round_count (narrowed_then_counted given.from.now given.to.now n room.ensures);
    }
