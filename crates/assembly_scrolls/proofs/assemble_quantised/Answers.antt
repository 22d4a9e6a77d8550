-- `assembly_scrolls::assemble_quantised` lays each by itself where the quantised beats rise and the values are apart. Assumes nothing.
use mathlib.Core.Path.{sym, ◌∙◌}
use Rattle.assembly_scrolls.proofs.Untested.{apart, not_apart_lem}
use borrow.Author.Rules.{rules}
use Rattle.assembly_scrolls.proofs.assemble_quantised.Goals as goal

pub returns-then-rise_apart : goal.returns-then-rise_apart
returns-then-rise_apart c =
    let s = c in
    apart s.args.beats.now s.args.values.now s.requires.1 s.requires.0 s.requires.2 (sym c.rise_apart.ensures ∙ c.if-rise_apart.true) c.lay_each.ensures

pub returns : goal.returns
returns c =
    let s = c in
    not_apart_lem s.args.beats.now s.args.values.now s.requires.1 s.requires.0 s.requires.2 (sym c.rise_apart.ensures ∙ c.if-rise_apart.false) c.assemble_any.ensures

pub assemble_any-requires : goal.assemble_any-requires
assemble_any-requires c = c.requires.0
