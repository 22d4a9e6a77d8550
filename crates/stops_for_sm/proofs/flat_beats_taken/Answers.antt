-- `stops_for_sm::flat_beats_taken` goes two by two, up to one that is not taken. Assumes nothing.
use Rattle.std.proofs.Common.{◌≡◌, ◌+◌, true, get_or, drop, sym, refl, ap, ◌∙◌, arith}
use borrow.Author.Tests.{not-true}
use lib.Ieee.{nan}
use Rattle.limits.specs.declared.Kind.TheVariants.{Beat}
use Rattle.limits.specs.Numbers.{in_range, range_of}
use Rattle.stops_for_sm.specs.Filling.{beats_in}
use Rattle.stops_for_sm.proofs.TwoByTwo.{beat-parts, beats-none}
use Rattle.stops_for_sm.proofs.flat_beats_taken.Goals as goal
use Rattle.stops_for_sm.proofs.flat_beats_taken.Goals.{After-taken}

passed : (c : After-taken) → c.taken.result ≡ in_range (range_of Beat) (get_or c.args.list.now c.loop-i.i nan)
passed c = c.taken.ensures ∙ ap (in_range (range_of Beat)) c.f32_to_f64_with_nan.ensures

onward : (c : After-taken) → c.taken.result ≡ true → beats_in (range_of Beat) (drop (c.loop-i.i + 2) c.args.list.now) ≡ beats_in (range_of Beat) c.args.list.now
onward c holds = rw (beat-parts (range_of Beat) c.args.list.now c.loop-i.i c.loop-i-test.true, sym (passed c) ∙ holds) at c.loop-i.invariant

pub loop-i-init : goal.loop-i-init
loop-i-init c = refl

pub returns-then-not-taken : goal.returns-then-not-taken
returns-then-not-taken c =
    rw (beat-parts (range_of Beat) c.args.list.now c.loop-i.i c.loop-i-test.true, sym (passed (goal.at.returns-then-not-taken c).After-taken) ∙ not-true c.taken.result c.if-not-taken.true-raw) at c.loop-i.invariant

pub loop-i-preserved : goal.loop-i-preserved
loop-i-preserved c = onward (goal.at.loop-i-preserved c).After-taken c.if-not-taken.false

pub returns-else-not-taken : goal.returns-else-not-taken
returns-else-not-taken c =
    sym (beats-none (range_of Beat) c.args.list.now (c.loop-i.i + 2) (omega arith)) ∙ onward (goal.at.returns-else-not-taken c).After-taken c.if-not-taken.false

pub returns : goal.returns
returns c = sym (beats-none (range_of Beat) c.args.list.now c.loop-i.i c.loop-i-test.false) ∙ c.loop-i.invariant
