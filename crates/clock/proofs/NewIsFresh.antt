-- A new cursor for offsets that are taken is the fresh one, and its number is 0. Assumes nothing.
use mathlib.Core.Path.{◌≡◌, refl}
use borrow.Author.Tests.{eq-eqb}
use lib.Ieee.{Float}
use Rattle.limits.proofs.NoRefusal.{lower-none}
use Rattle.chart.specs.Timing.{Timing}
use Rattle.clock_tests.specs.TimingNumbers.{timing_lists_number, offsets_number, order_number, timing_number}
use Rattle.clock.specs.Question.{fresh_cursor, made}

pub new_is_fresh : (offset global : Float) → offsets_number offset global ≡ 0 → ((made offset global).cursor ≡ fresh_cursor offset global) × ((made offset global).number ≡ 0)
unfolding made
new_is_fresh offset global h = rw (eq-eqb (offsets_number offset global) 0 h) (refl, refl)

-- those of a timing that is taken are
pub new_for_taken : (t : Timing) (offset global : Float) → timing_number t offset global ≡ 0 → ((made offset global).cursor ≡ fresh_cursor offset global) × ((made offset global).number ≡ 0)
unfolding timing_number
new_for_taken t offset global h = new_is_fresh offset global (lower-none (offsets_number offset global) (order_number t) (lower-none (timing_lists_number t) _ h).1).0
