-- `assembly_speeds::assemble_quantised` lays each by itself where the quantised beats rise and the ratios are apart. Assumes nothing.
use mathlib.Core.Path.{sym, ap, ◌∙◌}
use lib.ListN.{length, length-map}
use Rattle.rows.specs.Rows.{quantized}
use Rattle.assembly_speeds.proofs.Untested.{apart, not_apart_lem}
use Rattle.chart.specs.ChartColumns.{speed_columns}
use borrow.Author.Rules.{rules}
use Rattle.assembly_speeds.proofs.assemble_quantised.Goals as goal

pub lay_each-requires : goal.lay_each-requires
lay_each-requires c =
    let s = c in
    let many = ap length s.requires.beats_len_bound.1 ∙ length-map s.args.beats.now quantized in
    record { ratios_even = many ∙ s.requires.even_speeds.ratios_even; delays_even = many ∙ s.requires.even_speeds.delays_even; units_even = many ∙ s.requires.even_speeds.units_even }

pub returns-then-rise_apart : goal.returns-then-rise_apart
returns-then-rise_apart c =
    let s = c in
    apart (speed_columns s.args.beats.now s.args.ratios.now s.args.delays.now s.args.units.now) s.requires.even_speeds s.requires.beats_len_bound.0 s.requires.beats_len_bound.1
    (sym c.rise_apart.ensures ∙ c.if-rise_apart.true) c.lay_each.ensures

pub returns : goal.returns
returns c =
    let s = c in
    not_apart_lem (speed_columns s.args.beats.now s.args.ratios.now s.args.delays.now s.args.units.now) s.requires.even_speeds s.requires.beats_len_bound.0 s.requires.beats_len_bound.1
    (sym c.rise_apart.ensures ∙ c.if-rise_apart.false) c.assemble_any.ensures

pub assemble_any-requires : goal.assemble_any-requires
assemble_any-requires c = c.requires.beats_len_bound.0
