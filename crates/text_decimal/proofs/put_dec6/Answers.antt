-- `text_decimal::put_dec6` meets its contract, by the pattern: a NaN, an infinity, a number. Assumes nothing.
use Prim.Native.Nat.{ℕ, ◌-◌, ◌%◌, ◌<◌, ◌≤◌}
use lib.Arith.{lt_of_le-ne}
use lib.Dec.{T}
use lib.Ieee.{binary32}
use mathlib.Core.Path.{sym, subst}
use native.Mathlib.Omega.{arith}
use Rattle.ieee.specs.inside.PatternParts.{field_of}
use Rattle.ieee.proofs.PatternValue.{digits_lt}
use Rattle.text_page.proofs.Joined.{wrote_as, wrote-join}
use Rattle.text_decimal.proofs.TextOfPattern.{finite-text, infinite-text, nan-text}
use Rattle.text_decimal.proofs.put_dec6.Goals as goal

-- below the pattern of an infinity the field is not all ones
field_below : (b : ℕ) → b % 2147483648 < 2139095040 → field_of binary32 b < 255
field_below b h = omega arith

power-most : (b : ℕ) → field_of binary32 b < 255 → field_of binary32 b - 1 ≤ 253
power-most b h = omega arith

pub returns-then-size-gt2139095040 : goal.returns-then-size-gt2139095040
returns-then-size-gt2139095040 c =
    let tested = c in
    let spelt = tested in
    let start = spelt in
    wrote_as (nan-text start.args.x _ (subst T (sym start.well_formed.1.1.0.1) tt) spelt.bits_of_f32-pattern.ensures tested.if-size-gt2139095040.true) c.put_bytes.ensures

pub returns-then-size-eq2139095040 : goal.returns-then-size-eq2139095040
returns-then-size-eq2139095040 c =
    let infinite = c in
    let signed = infinite in
    let spelt = signed in
    let start = spelt in
    wrote_as (infinite-text start.args.x _ (subst T (sym start.well_formed.1.1.0.1) tt) spelt.bits_of_f32-pattern.ensures infinite.if-size-eq2139095040.true)
    (wrote-join signed.put_sign-at.ensures c.put_bytes-then-size-eq2139095040.ensures)

pub put_finite-requires : goal.put_finite-requires
put_finite-requires c =
    let finite = c in
    let number = finite in
    let pattern = number.bits_of_f32-pattern.result in
    let below = field_below pattern (lt_of_le-ne number.if-size-gt2139095040.false finite.if-size-eq2139095040.false) in
    (rw c.digits.ensures (digits_lt binary32 pattern), rw c.power.ensures (power-most pattern below))

pub returns : goal.returns
returns c =
    let finite = c in
    let signed = finite in
    let number = signed in
    let spelt = number in
    let start = spelt in
    let below = field_below spelt.bits_of_f32-pattern.result (lt_of_le-ne number.if-size-gt2139095040.false finite.if-size-eq2139095040.false) in
    wrote_as (finite-text start.args.x _ (subst T (sym start.well_formed.1.1.0.1) tt) spelt.bits_of_f32-pattern.ensures below)
    (wrote-join signed.put_sign-at.ensures (rw (c.digits.ensures, c.power.ensures) at c.put_finite.ensures))
