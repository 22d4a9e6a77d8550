-- `stops_for_sm::flat_values_taken` goes two by two, up to one that is not taken. Assumes nothing.
use Rattle.std.proofs.Common.{◌≡◌, ◌+◌, ◌-◌, true, false, get_or, drop, sym, refl, ap, ◌∙◌, arith}
use borrow.Author.Tests.{not-true}
use lib.Ieee.{nan}
use Rattle.limits.specs.declared.Kind.TheVariants.{Pause}
use Rattle.picks.specs.Pick.{pick}
use Rattle.limits.specs.Numbers.{in_range, range_of}
use Rattle.stops_for_sm.specs.Filling.{values_in}
use Rattle.stops_for_sm.proofs.TwoByTwo.{value-parts, values-none}
use Rattle.stops_for_sm.proofs.flat_values_taken.Goals as goal
use Rattle.stops_for_sm.proofs.flat_values_taken.Goals.{After-taken}

passed : (c : After-taken) → c.taken.result ≡ in_range (range_of Pause) (get_or c.args.list.now c.loop-i.i nan)
passed c = c.taken.ensures ∙ ap (in_range (range_of Pause)) c.f32_to_f64_with_nan.ensures

parts : (c : After-taken)
    → values_in (range_of Pause) (drop (c.loop-i.i - 1) c.args.list.now) ≡ pick c.taken.result (values_in (range_of Pause) (drop (c.loop-i.i + 1) c.args.list.now)) false
parts c =
    let i = c.loop-i.i in
    let here : i - 1 + 1 ≡ i = omega (arith, c.loop-i.invariant.0) in
    let next : i - 1 + 2 ≡ i + 1 = omega (arith, c.loop-i.invariant.0) in
    rw (here, next, sym (passed c)) at (value-parts (range_of Pause) c.args.list.now (i - 1) (omega (arith, c.loop-i.invariant.0, c.loop-i-test.true)))

onward : (c : After-taken) → c.taken.result ≡ true → values_in (range_of Pause) (drop (c.loop-i.i + 1) c.args.list.now) ≡ values_in (range_of Pause) c.args.list.now
onward c holds = rw (parts c, holds) at c.loop-i.invariant.1

pub loop-i-init : goal.loop-i-init
loop-i-init c = (omega arith, refl)

pub returns-then-not-taken : goal.returns-then-not-taken
returns-then-not-taken c =
    rw (parts (goal.at.returns-then-not-taken c).After-taken, not-true c.taken.result c.if-not-taken.true-raw) at c.loop-i.invariant.1

pub loop-i-preserved : goal.loop-i-preserved
loop-i-preserved c =
    let next : c.loop-i.i + 2 - 1 ≡ c.loop-i.i + 1 = omega arith in
    (omega arith, rw next (onward (goal.at.loop-i-preserved c).After-taken c.if-not-taken.false))

pub returns-else-not-taken : goal.returns-else-not-taken
returns-else-not-taken c =
    sym (values-none (range_of Pause) c.args.list.now (c.loop-i.i + 1) (omega arith)) ∙ onward (goal.at.returns-else-not-taken c).After-taken c.if-not-taken.false

pub returns : goal.returns
returns c = sym (values-none (range_of Pause) c.args.list.now (c.loop-i.i - 1) (omega (arith, c.loop-i-test.false))) ∙ c.loop-i.invariant.1
