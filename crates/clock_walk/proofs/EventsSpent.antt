-- A walk passes no more events than were left, and leaves so many fewer. Assumes nothing.
use Rattle.std.proofs.Common.{◌≡◌, ◌+◌, ◌*◌, ◌^◌, ◌<◌, ◌≤◌, length, ℤ, arith}
use Rattle.chart.specs.Timing.{Timing}
use Rattle.clock_walk.specs.Course.{events_left}
use Rattle.clock_walk.specs.Passing.{early_tempo}
use Rattle.clock_walk.specs.Walk.{is_due, walk_on, walk}
use Rattle.chart.specs.declared.State.{State}
use Rattle.clock_walk.specs.declared.Walked.{Walked}
use Rattle.clock_walk.proofs.EventByEvent.{count_fits}
use Rattle.clock_walk.proofs.AllWalks.{spent-on}
use Rattle.clock_walk.proofs.ClockTest.{says_due}

pub spent : (t : Timing) (r : ℤ) (s : State) → (walk t r s).passed + events_left t (walk t r s).state ≤ events_left t s
unfolding walk walk_on
spent t r s = let h = spent-on (early_tempo t.tempo_beats t.tempo_values s) t (is_due t r) (says_due t r) s 0 in omega arith

-- the events passed and one fit an integer
pub passed-fits : (w : Walked) (t : Timing) (r : ℤ) (s : State) → w ≡ walk t r s
    → length t.tempo_beats * 4 < 2 ^ 63 → length t.stop_beats * 4 < 2 ^ 63 → length t.delay_beats * 4 < 2 ^ 63 → length t.warp_beats * 4 < 2 ^ 63 → w.passed + 1 < 2 ^ 64
passed-fits w t r s e a b c d = rw e (count_fits t s (walk t r s).passed (events_left t (walk t r s).state) (spent t r s) a b c d)
