-- `text_decimal::in_parts` meets its contract: a turn doubles the parts. Assumes nothing.
use Prim.Native.Nat.{ℕ, ◌*◌, ◌^◌}
use mathlib.Core.Path.{◌≡◌, ap, sym, ◌∙◌}
use native.Mathlib.Omega.{arith}
use Rattle.text_decimal.proofs.WholeByParts.{power_below, power-next, doubled_parts, high_small, high_doubled, high-carried}
use Rattle.text_decimal.proofs.in_parts.Goals as goal

pub overflow_mul-high : goal.overflow_mul-high
overflow_mul-high c =
    let turn = c.loop in
    record { fits = high_doubled turn.high (high_small turn.low turn.middle turn.high _ turn.invariant.2 (power_below c.args.m turn.counter c.requires.0 (omega arith))) }

pub overflow_add-high : goal.overflow_add-high
overflow_add-high c =
    let turn = c.loop in
    let small = high_small turn.low turn.middle turn.high _ turn.invariant.2 (power_below c.args.m turn.counter c.requires.0 (omega arith)) in
    record { fits = high-carried turn.low turn.middle turn.high turn.invariant.0 turn.invariant.1 small }

pub loop-preserved : goal.loop-preserved
loop-preserved c =
    let turn = c.loop in
    (omega arith, omega arith, doubled_parts turn.low turn.middle turn.high _ turn.invariant.0 turn.invariant.1 turn.invariant.2 ∙ sym (power-next c.args.m turn.counter))

pub returns : goal.returns
returns c =
    let end = c.loop in
    let start = c in
    let all : end.counter ≡ start.args.i = omega arith in
    let below = power_below start.args.m end.counter start.requires.0 (omega arith) in (
      record { low = end.invariant.0; middle = end.invariant.1; high = high_small end.low end.middle end.high _ end.invariant.2 below },
      end.invariant.2 ∙ ap (λ (x : ℕ). start.args.m * 2 ^ x) all,
    )
