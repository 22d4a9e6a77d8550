-- `assembly_rows::lay_each` writes each number by itself. Assumes nothing.
use Prim.Native.Nat.{◌≤◌, min}
use mathlib.Core.Path.{◌≡◌, sym, ap, ◌∙◌}
use mathlib.Core.List.{List, map}
use native.Mathlib.Omega.{arith}
use borrow.Author.Tests.{eq-eqb, ne_eqb}
use lib.ListN.{length, length-map}
use lib.Ieee.{Float}
use Rattle.ieee.specs.Narrowing.{narrow}
use Rattle.order.specs.Order.{laid}
use Rattle.order.proofs.Columns.{length-entries, first-entries, second-entries}
use Rattle.columns.proofs.Rooms.{refused_for_room, taken}
use Rattle.columns.proofs.EachOverFront.{each_over_front, copied_over_front}
use Rattle.assembly_rows.specs.AssembledRows.{change_by, each_by_itself}
use Rattle.assembly_rows.proofs.Outcomes.{refused_as}
use borrow.Author.Rules.{rules}
use Rattle.assembly_rows.proofs.lay_each.Goals as goal

pub returns-then-count-values : goal.returns-then-count-values
returns-then-count-values c =
    let given = c.args in
    let quantised = given.quantised.now in
    let values = given.values.now in
    rw c.refused.ensures (refused_as (each_by_itself given.meaning quantised values) given.out_beats.now given.out_values.now (rw (ne_eqb (length quantised) (length values) c.if-count-values.true)) (λ e. omega arith))

pub returns-then-count-room_of : goal.returns-then-count-room_of
returns-then-count-room_of c =
    let given = c.args in
    let quantised = given.quantised.now in
    let values = given.values.now in
    let change : Float → Float = λ value. narrow (change_by given.meaning value) in
    let even : length quantised ≡ length values = c.if-count-values.false in
    let long : length (each_by_itself given.meaning quantised values) ≡ length quantised = length-entries quantised (map change values) (even ∙ sym (length-map values change)) in
    rw c.refused-then-count-room_of.ensures
    (refused_for_room _ (each_by_itself given.meaning quantised values) given.out_beats.now given.out_values.now (rw (eq-eqb (length quantised) (length values) even)) (omega (arith, c.if-count-room_of.true, c.room_of.ensures, long)))

pub returns : goal.returns
returns c =
    let given = c.args in
    let quantised = given.quantised.now in
    let values = given.values.now in
    let change : Float → Float = λ value. narrow (change_by given.meaning value) in
    let even : length quantised ≡ length values = c.if-count-values.false in
    let as_many : length quantised ≡ length (map change values) = even ∙ sym (length-map values change) in
    let long : length (each_by_itself given.meaning quantised values) ≡ length quantised = length-entries quantised (map change values) as_many in
    let room : length quantised ≤ min (length given.out_beats.now) (length given.out_values.now) = omega (arith, c.if-count-room_of.false, c.room_of.ensures) in
    taken _ (each_by_itself given.meaning quantised values) given.out_beats.now given.out_values.now (length quantised) _ _ (rw (eq-eqb (length quantised) (length values) even)) (omega (arith, long, room)) (sym long)
    (c.copy.ensures ∙ copied_over_front quantised given.out_beats.now (omega (arith, room))
    ∙ ap (λ (l : List Float). laid l given.out_beats.now) (sym (first-entries quantised (map change values) as_many)))
    (c.change_column_f32.ensures ∙ each_over_front change values given.out_values.now (omega (arith, room, even))
    ∙ ap (λ (l : List Float). laid l given.out_values.now) (sym (second-entries quantised (map change values) as_many)))
