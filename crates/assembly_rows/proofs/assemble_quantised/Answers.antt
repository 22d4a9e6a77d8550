-- `assembly_rows::assemble_quantised` lays each by itself where the quantised beats rise, and turned round where they fall. Assumes nothing.
use mathlib.Core.Path.{sym, ap, ◌∙◌}
use lib.ListN.{length, length-map}
use lib.Ieee.{lt}
use Rattle.rows.specs.Rows.{quantized}
use Rattle.limits.specs.Neighbours.{every_two}
use Rattle.assembly_rows.proofs.Untested.{rising, fallen, not_rising_lem}
use borrow.Author.Rules.{rules}
use Rattle.assembly_rows.proofs.assemble_quantised.Goals as goal

pub returns-then-rise : goal.returns-then-rise
returns-then-rise c =
    let rise = c in
    let s = rise in
    rising s.args.beats.now s.args.values.now s.args.meaning (sym s.requires.0) s.requires.1 s.requires.2
    (sym rise.rise.ensures ∙ c.if-rise.true) c.lay_each.ensures

pub lay_turned-requires : goal.lay_turned-requires
lay_turned-requires c = let s = c in ap length s.requires.2 ∙ length-map s.args.beats.now quantized ∙ sym s.requires.0

pub returns-then-falls_and_taken : goal.returns-then-falls_and_taken
returns-then-falls_and_taken c =
    let falls = c in
    let s = falls in
    fallen s.args.beats.now s.args.values.now s.args.meaning (sym s.requires.0) s.requires.1 s.requires.2
    (sym falls.rise.ensures ∙ falls.if-rise.false)
    (sym falls.falls_and_taken.ensures ∙ falls.if-falls_and_taken.true) c.lay_turned.ensures

pub assemble_any-requires : goal.assemble_any-requires
assemble_any-requires c = let s = c in (s.requires.0, s.requires.1)

pub returns : goal.returns
returns c =
    let neither = c in
    let s = neither in
    not_rising_lem s.args.beats.now s.args.values.now s.args.meaning (sym s.requires.0) s.requires.1
    (ap (every_two lt) (sym s.requires.2) ∙ sym neither.rise.ensures ∙ neither.if-rise.false) c.assemble_any.ensures
