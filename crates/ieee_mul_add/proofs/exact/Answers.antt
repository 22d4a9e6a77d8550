use Rattle.std.proofs.Common.{◌^◌, arith, rules}
use lib.Ieee.{binary64}
use Rattle.ieee.specs.inside.PatternParts.{digits_of, power_of}
use Rattle.ieee_mul_add.proofs.ExactProducts.{digits-end, few-digits, by-power, by_digits, never}
use Rattle.ieee_mul_add.proofs.exact.Goals as goal

pub returns-then-y-eq0 : goal.returns-then-y-eq0
returns-then-y-eq0 c = λ h.
    let a = c.args in
    let mid = c.mid_range.ensures h in
    let end = c.if-y-eq0.true in
    by-power (digits_of binary64 a.x) (power_of binary64 a.x) (digits_of binary64 a.y) (power_of binary64 a.y) (few-digits a.x) (few-digits a.y) mid.0 mid.1 (digits-end a.y (2 ^ 52) (omega arith) (omega arith))

pub returns-then-x-eq0 : goal.returns-then-x-eq0
returns-then-x-eq0 c = λ h.
    let a = c.args in
    let mid = c.mid_range-then-x-eq0.ensures h in
    let end = c.if-y-eq0-2.true in
    let start = c.if-x-eq0.true in
    by_digits (digits_of binary64 a.x) (power_of binary64 a.x) (digits_of binary64 a.y) (power_of binary64 a.y) (few-digits a.x) (few-digits a.y) mid.0 mid.1 (digits-end a.y (2 ^ 29) (omega arith) (omega arith)) (digits-end a.x (2 ^ 24) (omega arith) (omega arith))

pub returns-else-x-eq0 : goal.returns-else-x-eq0
returns-else-x-eq0 c = λ h. never h

pub returns-else-y-eq0-2 : goal.returns-else-y-eq0-2
returns-else-y-eq0-2 c = λ h. never h
