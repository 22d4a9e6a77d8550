-- `tidy_speeds::lay_columns` lays each column. Assumes nothing.
use Prim.Native.Nat.{ℕ, ◌≤◌}
use mathlib.Core.Path.{◌≡◌, sym, ap, ◌∙◌}
use mathlib.Core.List.{List}
use native.Mathlib.Omega.{arith}
use lib.ListN.{length}
use lib.Ieee.{Float}
use Rattle.order.specs.Order.{laid}
use Rattle.columns.proofs.EachOverFront.{copied_over_front}
use Rattle.tidy_by_rows.proofs.ByMarks.{marked_over_front}
use Rattle.tidy_speeds_ordered.proofs.ColumnsLaid.{apart-columns}
use borrow.Author.Rules.{rules}
use Rattle.tidy_speeds.proofs.lay_columns.Goals as goal

pub returns : goal.returns
returns c =
    let s = c in
    let apart = s.requires.columns_apart in
    let room = s.requires.beats_len_bound in
    let fields = apart-columns s.args.beats.now s.args.ratios.now s.args.delays.now s.args.units.now apart in
    record {
      beats_are = c.lay_on_rows.ensures ∙ marked_over_front s.args.beats.now s.args.out_beats.now apart.allowed (omega (arith, room)) ∙ ap (λ (l : List Float). laid l s.args.out_beats.now) (sym fields.beats_are);
      ratios_are = c.copy.ensures ∙ copied_over_front s.args.ratios.now s.args.out_ratios.now (omega (arith, room, apart.ratios_even)) ∙ ap (λ (l : List Float). laid l s.args.out_ratios.now) (sym fields.ratios_are);
      delays_are = c.copy-2.ensures ∙ copied_over_front s.args.delays.now s.args.out_delays.now (omega (arith, room, apart.delays_even)) ∙ ap (λ (l : List Float). laid l s.args.out_delays.now) (sym fields.delays_are);
      units_are = c.copy-3.ensures ∙ copied_over_front s.args.units.now s.args.out_units.now (omega (arith, room, apart.units_even)) ∙ ap (λ (l : List ℕ). laid l s.args.out_units.now) (sym fields.units_are);
    }
