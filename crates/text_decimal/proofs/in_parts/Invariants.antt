-- `text_decimal::in_parts` meets its contract: a turn doubles the parts. Assumes nothing.
use Prim.Native.Nat.{◌+◌, ◌*◌, ◌^◌, ◌<◌}
use mathlib.Core.Path.{◌≡◌}
use Rattle.text_decimal.proofs.in_parts.Given as goal

abbrev pub invariant-loop : goal.invariant-loop
invariant-loop l = (l.low < 10 ^ 18) × (l.middle < 10 ^ 18) × (l.low + l.middle * 10 ^ 18 + l.high * 10 ^ 36 ≡ l.m * 2 ^ l.counter)
