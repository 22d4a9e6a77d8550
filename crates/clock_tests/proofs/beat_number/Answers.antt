-- `clock_tests::beat_number` is `beat_number`: a beat is taken exactly where it lies between both ends. Assumes nothing.
use Rattle.std.proofs.Common.{◌≡◌, Bool, true, false, ◌&&◌, T, pos, sym, refl}
use lib.Ieee.{Float, fin, le, of_bits, neg}
use Rattle.picks.specs.Pick.{pick}
use Rattle.ieee.specs.Magnitude.{within_power}
use Rattle.limits.specs.Numbers.{in_range, up_to}
use Rattle.limits.proofs.TakenWithin.{taken-within, within-taken}
use Rattle.clock_tests.specs.TimingNumbers.{beat_number}
use Rattle.clock_tests.proofs.beat_number.Goals as goal

both : (test inside : Bool) → (T inside → test ≡ true) → (test ≡ true → T inside) → test ≡ inside
both true true p q = refl
both true false p q = absurd (q refl)
both false true p q = p tt
both false false p q = refl

by-ends : (beat : Float) (above below : Bool) → le (fin true 1 (pos 16)) beat ≡ above → le beat (fin false 1 (pos 16)) ≡ below → beat_number beat ≡ pick (above && below) 0 3
unfolding beat_number within_power
by-ends beat above below e f = rw (both (in_range (up_to 16) beat) (le (fin true 1 (pos 16)) beat && le beat (fin false 1 (pos 16))) (within-taken 16 beat) (taken-within 16 beat), e, f)

pub returns-then-beat-2 : goal.returns-then-beat-2
unfolding of_bits neg
returns-then-beat-2 c = sym (by-ends _ true true c.if-beat.true c.if-beat-2.true)

pub returns-then-beat : goal.returns-then-beat
unfolding of_bits neg
returns-then-beat c = sym (by-ends _ true false c.if-beat.true c.if-beat-2.false)

pub returns : goal.returns
unfolding of_bits neg
returns c = sym (by-ends _ false _ c.if-beat.false refl)
