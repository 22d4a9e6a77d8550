-- `assembly_speeds::lay_narrowed` lays the front of four columns, narrowed. Assumes nothing.
use Prim.Native.Nat.{ℕ, ◌≤◌, min}
use mathlib.Core.Path.{◌≡◌, sym, ap, ◌∙◌}
use mathlib.Core.List.{List, map-id}
use native.Mathlib.Nat.{le_trans, le_of_eq}
use native.Mathlib.Omega.{arith}
use lib.ListN.{length, take}
use lib.Seq.{length-take-le}
use lib.Ieee.{Float}
use Rattle.ieee.specs.Narrowing.{narrow}
use Rattle.order.specs.Order.{laid}
use Rattle.tidy_speeds_entries.specs.LaidSpeeds.{least_of}
use Rattle.tidy_speeds_entries.proofs.Rooms.{refused_by_tests, refused_for_room, taken}
use Rattle.assembly_speeds.specs.inside.NarrowedSpeeds.{narrowed_speeds}
use Rattle.assembly_speeds.proofs.NarrowedSpeeds.{least-within, lesser-within, laid-front, front_length, front-beats, front-ratios, front-delays, front-units}
use Rattle.chart.specs.ChartColumns.{speed_columns}
use borrow.Author.Rules.{rules}
use Rattle.assembly_speeds.proofs.lay_narrowed.Goals as goal

pub returns-then-number-ne-TAKEN : goal.returns-then-number-ne-TAKEN
returns-then-number-ne-TAKEN c =
    let given = c.args in
    rw c.refused.ensures (refused_by_tests given.number (narrowed_speeds given.count (speed_columns given.beats.now given.ratios.now given.delays.now given.units.now)) given.out_beats.now given.out_ratios.now given.out_delays.now given.out_units.now c.if-number-ne-TAKEN.true)

pub returns-then-n-room : goal.returns-then-n-room
returns-then-n-room c =
    let given = c.args in
    let n = c.room_of-n.result in
    let few : n ≡ min given.count (least_of (length given.beats.now) (length given.ratios.now) (length given.delays.now) (length given.units.now)) = omega (arith, c.room_of-n.ensures, c.least_of-given.ensures) in
    rw c.refused-then-n-room.ensures (refused_for_room given.number (narrowed_speeds given.count (speed_columns given.beats.now given.ratios.now given.delays.now given.units.now)) given.out_beats.now given.out_ratios.now given.out_delays.now given.out_units.now c.if-number-ne-TAKEN.false (omega (arith, c.if-n-room.true, c.least_of-room.ensures, front_length given.count n (speed_columns given.beats.now given.ratios.now given.delays.now given.units.now) few)))

pub slice_bounds-narrow_column-end : goal.slice_bounds-narrow_column-end
slice_bounds-narrow_column-end c = sym (length-take-le _ _ (omega (arith, c.room_of-n.ensures, c.least_of-given.ensures)))

pub slice_bounds-narrow_column-end-2 : goal.slice_bounds-narrow_column-end-2
slice_bounds-narrow_column-end-2 c = sym (length-take-le _ _ (omega (arith, c.room_of-n.ensures, c.least_of-given.ensures)))

pub slice_bounds-narrow_column-end-3 : goal.slice_bounds-narrow_column-end-3
slice_bounds-narrow_column-end-3 c = sym (length-take-le _ _ (omega (arith, c.room_of-n.ensures, c.least_of-given.ensures)))

pub slice_bounds-copy-end : goal.slice_bounds-copy-end
slice_bounds-copy-end c = sym (length-take-le _ _ (omega (arith, c.room_of-n.ensures, c.least_of-given.ensures)))

pub returns : goal.returns
returns c =
    let given = c.args in
    let n = c.room_of-n.result in
    let few : n ≡ min given.count (least_of (length given.beats.now) (length given.ratios.now) (length given.delays.now) (length given.units.now)) = omega (arith, c.room_of-n.ensures, c.least_of-given.ensures) in
    let room : n ≤ least_of (length given.out_beats.now) (length given.out_ratios.now) (length given.out_delays.now) (length given.out_units.now) = omega (arith, c.if-n-room.false, c.least_of-room.ensures) in
    let out = least-within (length given.out_beats.now) (length given.out_ratios.now) (length given.out_delays.now) (length given.out_units.now) n room in
    let own = least-within (length given.beats.now) (length given.ratios.now) (length given.delays.now) (length given.units.now) n (lesser-within given.count _ n few) in
    taken given.number (narrowed_speeds given.count (speed_columns given.beats.now given.ratios.now given.delays.now given.units.now)) given.out_beats.now given.out_ratios.now given.out_delays.now given.out_units.now n _ _ _ _ c.if-number-ne-TAKEN.false (le_trans (le_of_eq (front_length given.count n (speed_columns given.beats.now given.ratios.now given.delays.now given.units.now) few)) room) (sym (front_length given.count n (speed_columns given.beats.now given.ratios.now given.delays.now given.units.now) few))
    (record {
      beats_are =
          c.narrow_column.ensures ∙ laid-front narrow n given.beats.now given.out_beats.now own.0 out.0
          ∙ ap (λ (l : List Float). laid l given.out_beats.now) (sym (front-beats given.count n (speed_columns given.beats.now given.ratios.now given.delays.now given.units.now) few));
      ratios_are =
          c.narrow_column-2.ensures ∙ laid-front narrow n given.ratios.now given.out_ratios.now own.1 out.1
          ∙ ap (λ (l : List Float). laid l given.out_ratios.now) (sym (front-ratios given.count n (speed_columns given.beats.now given.ratios.now given.delays.now given.units.now) few));
      delays_are =
          c.narrow_column-3.ensures ∙ laid-front narrow n given.delays.now given.out_delays.now own.2 out.2
          ∙ ap (λ (l : List Float). laid l given.out_delays.now) (sym (front-delays given.count n (speed_columns given.beats.now given.ratios.now given.delays.now given.units.now) few));
      units_are =
          c.copy.ensures ∙ laid-front (λ (unit : ℕ). unit) n given.units.now given.out_units.now own.3 out.3
          ∙ ap (λ (l : List ℕ). laid l given.out_units.now) (map-id (take n given.units.now) ∙ sym (front-units given.count n (speed_columns given.beats.now given.ratios.now given.delays.now given.units.now) few));
    })
