-- `assembly_rows::lay_narrowed` lays the front of two columns, narrowed. Assumes nothing.
use Prim.Native.Nat.{◌≤◌, min}
use mathlib.Core.Path.{◌≡◌, sym, ap, ◌∙◌}
use mathlib.Core.List.{List}
use native.Mathlib.Omega.{arith}
use lib.ListN.{length, take}
use lib.Seq.{length-take-le}
use lib.Ieee.{Float}
use Rattle.ieee.specs.Narrowing.{narrow}
use Rattle.order.specs.Order.{laid}
use Rattle.columns.proofs.Rooms.{refused_by_tests, refused_for_room, taken}
use Rattle.columns.proofs.EachOverFront.{each_over_front}
use Rattle.assembly_rows.specs.AssembledRows.{narrowed_front}
use Rattle.assembly_rows.proofs.NarrowedFront.{front_length, front-firsts, front-seconds}
use borrow.Author.Rules.{rules}
use Rattle.assembly_rows.proofs.lay_narrowed.Goals as goal

pub returns-then-number-ne-TAKEN : goal.returns-then-number-ne-TAKEN
returns-then-number-ne-TAKEN c = let given = c.args in
    rw c.refused.ensures (refused_by_tests given.number (narrowed_front given.count given.firsts.now given.seconds.now) given.out_firsts.now given.out_seconds.now c.if-number-ne-TAKEN.true)

pub returns-then-n-room_of : goal.returns-then-n-room_of
returns-then-n-room_of c = let given = c.args in
    let n = c.room_of-n.result in
    let few : n ≡ min given.count (min (length given.firsts.now) (length given.seconds.now)) = omega (arith, c.room_of-n.ensures, c.room_of-given.ensures) in
    rw c.refused-then-n-room_of.ensures
    (refused_for_room given.number (narrowed_front given.count given.firsts.now given.seconds.now) given.out_firsts.now given.out_seconds.now c.if-number-ne-TAKEN.false
    (omega (arith, c.if-n-room_of.true, c.room_of.ensures, front_length given.count n given.firsts.now given.seconds.now few)))

pub slice_bounds-narrow_column-end : goal.slice_bounds-narrow_column-end
slice_bounds-narrow_column-end c = sym (length-take-le _ _ (omega (arith, c.room_of-n.ensures, c.room_of-given.ensures)))

pub slice_bounds-narrow_column-end-2 : goal.slice_bounds-narrow_column-end-2
slice_bounds-narrow_column-end-2 c = sym (length-take-le _ _ (omega (arith, c.room_of-n.ensures, c.room_of-given.ensures)))

pub returns : goal.returns
returns c = let given = c.args in
    let n = c.room_of-n.result in
    let few : n ≡ min given.count (min (length given.firsts.now) (length given.seconds.now)) = omega (arith, c.room_of-n.ensures, c.room_of-given.ensures) in
    let room : n ≤ min (length given.out_firsts.now) (length given.out_seconds.now) = omega (arith, c.if-n-room_of.false, c.room_of.ensures) in
    taken given.number (narrowed_front given.count given.firsts.now given.seconds.now) given.out_firsts.now given.out_seconds.now n _ _ c.if-number-ne-TAKEN.false
    (omega (arith, front_length given.count n given.firsts.now given.seconds.now few))
    (sym (front_length given.count n given.firsts.now given.seconds.now few))
    (c.narrow_column.ensures ∙ each_over_front narrow (take n given.firsts.now) given.out_firsts.now (omega (arith, length-take-le n given.firsts.now (omega arith)))
    ∙ ap (λ (l : List Float). laid l given.out_firsts.now) (sym (front-firsts given.count n given.firsts.now given.seconds.now few)))
    (c.narrow_column-2.ensures ∙ each_over_front narrow (take n given.seconds.now) given.out_seconds.now (omega (arith, length-take-le n given.seconds.now (omega arith)))
    ∙ ap (λ (l : List Float). laid l given.out_seconds.now) (sym (front-seconds given.count n given.firsts.now given.seconds.now few)))
