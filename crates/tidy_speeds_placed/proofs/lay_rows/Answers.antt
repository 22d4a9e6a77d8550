-- `tidy_speeds_placed::lay_rows` lays the kept entries, each on its row. Assumes nothing.
use Prim.Native.Nat.{ℕ}
use mathlib.Core.Path.{sym, ap, ◌∙◌}
use mathlib.Core.List.{List, map}
use native.Mathlib.Omega.{arith}
use lib.ListN.{take}
use lib.Seq.{length-take-le}
use lib.Ieee.{Float}
use Rattle.order.specs.Order.{laid}
use Rattle.order.specs.Entries.{first}
use Rattle.rows.specs.RowKey.{beat_on_row}
use Rattle.columns.proofs.EachOverFront.{each_over_front, copied_over_front}
use Rattle.tidy_speeds_entries.specs.Speed.{SpeedEntry, speed_on_row}
use Rattle.tidy_speeds_entries.specs.LaidSpeeds.{ratio_of, delay_of, unit_of}
use Rattle.tidy_speeds_entries.proofs.FieldsOfSpeeds.{front-speeds, front-fields}
use Rattle.tidy_speeds_placed.proofs.lay_rows.Goals as goal

pub slice_bounds-lay_each_on_row-end : goal.slice_bounds-lay_each_on_row-end
slice_bounds-lay_each_on_row-end c = sym (length-take-le _ _ c.requires.count_in_bounds.0)

pub slice_bounds-copy-end : goal.slice_bounds-copy-end
slice_bounds-copy-end c = sym (length-take-le _ _ c.requires.count_in_bounds.1)

pub slice_bounds-copy-end-2 : goal.slice_bounds-copy-end-2
slice_bounds-copy-end-2 c = sym (length-take-le _ _ c.requires.count_in_bounds.2)

pub slice_bounds-copy-end-3 : goal.slice_bounds-copy-end-3
slice_bounds-copy-end-3 c = sym (length-take-le _ _ c.requires.count_in_bounds.3)

pub returns : goal.returns
returns c =
    let s = c in
    let n = s.args.count in
    let room = s.requires.count_bound in
    let front = front-speeds n s.args.beats.now s.args.ratios.now s.args.delays.now s.args.units.now s.requires.count_in_bounds.0 s.requires.count_in_bounds.1 s.requires.count_in_bounds.2 s.requires.count_in_bounds.3 in
    let fields = front-fields n s.args.beats.now s.args.ratios.now s.args.delays.now s.args.units.now s.requires.count_in_bounds.0 s.requires.count_in_bounds.1 s.requires.count_in_bounds.2 s.requires.count_in_bounds.3 in
    record {
      beats_are =
          c.lay_each_on_row.ensures
          ∙ each_over_front beat_on_row (take n s.args.beats.now) s.args.out_beats.now (omega (arith, length-take-le n s.args.beats.now s.requires.count_in_bounds.0, room))
          ∙ ap (λ (l : List Float). laid l s.args.out_beats.now) (sym (ap (λ (l : List SpeedEntry). map first (map speed_on_row l)) front ∙ fields.beats_are));
      ratios_are =
          c.copy.ensures
          ∙ copied_over_front (take n s.args.ratios.now) s.args.out_ratios.now (omega (arith, length-take-le n s.args.ratios.now s.requires.count_in_bounds.1, room))
          ∙ ap (λ (l : List Float). laid l s.args.out_ratios.now) (sym (ap (λ (l : List SpeedEntry). map ratio_of (map speed_on_row l)) front ∙ fields.ratios_are));
      delays_are =
          c.copy-2.ensures
          ∙ copied_over_front (take n s.args.delays.now) s.args.out_delays.now (omega (arith, length-take-le n s.args.delays.now s.requires.count_in_bounds.2, room))
          ∙ ap (λ (l : List Float). laid l s.args.out_delays.now) (sym (ap (λ (l : List SpeedEntry). map delay_of (map speed_on_row l)) front ∙ fields.delays_are));
      units_are =
          c.copy-3.ensures
          ∙ copied_over_front (take n s.args.units.now) s.args.out_units.now (omega (arith, length-take-le n s.args.units.now s.requires.count_in_bounds.3, room))
          ∙ ap (λ (l : List ℕ). laid l s.args.out_units.now) (sym (ap (λ (l : List SpeedEntry). map unit_of (map speed_on_row l)) front ∙ fields.units_are));
    }
