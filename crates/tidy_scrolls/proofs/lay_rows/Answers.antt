-- `tidy_scrolls::lay_rows` lays the kept entries, each on its row. Assumes nothing.
use mathlib.Core.Path.{◌≡◌, sym, ap, ◌∙◌}
use mathlib.Core.List.{List}
use native.Mathlib.Omega.{arith}
use lib.ListN.{length, take}
use lib.Seq.{length-take-le}
use lib.Ieee.{Float}
use Rattle.order.specs.Order.{laid}
use Rattle.rows.specs.RowKey.{beat_on_row}
use Rattle.rows.proofs.EntriesOnRows.{each-beat, each-value}
use Rattle.columns.proofs.EachOverFront.{each_over_front, copied_over_front}
use Rattle.tidy_scrolls.proofs.lay_rows.Goals as goal

pub slice_bounds-lay_each_on_row-end : goal.slice_bounds-lay_each_on_row-end
slice_bounds-lay_each_on_row-end c = sym (length-take-le _ _ c.requires.count_in_bounds.0)

pub slice_bounds-copy-end : goal.slice_bounds-copy-end
slice_bounds-copy-end c = sym (length-take-le _ _ c.requires.count_in_bounds.1)

pub returns : goal.returns
returns c =
    let s = c in
    let beats = take s.args.count s.args.beats.now in
    let values = take s.args.count s.args.values.now in
    let out_beats = s.args.out_beats.now in
    let out_values = s.args.out_values.now in
    let beats_long = length-take-le s.args.count s.args.beats.now s.requires.count_in_bounds.0 in
    let values_long = length-take-le s.args.count s.args.values.now s.requires.count_in_bounds.1 in
    let even : length beats ≡ length values = beats_long ∙ sym values_long in
    record {
      first_is = c.lay_each_on_row.ensures ∙ each_over_front beat_on_row beats out_beats (omega (arith, beats_long, s.requires.count_bound)) ∙ ap (λ (l : List Float). laid l out_beats) (sym (each-beat beats values even));
      second_is = c.copy.ensures ∙ copied_over_front values out_values (omega (arith, values_long, s.requires.count_bound)) ∙ ap (λ (l : List Float). laid l out_values) (sym (each-value beats values even));
    }
