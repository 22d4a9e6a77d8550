-- The walk to a time is one whose test is that what is ahead is over; it stops before what has not come, or in a pause, and goes round the lists once at most.
-- Assumes nothing.
use Rattle.std.proofs.Common.{◌≡◌, ℕ, ◌+◌, ◌*◌, ◌^◌, ◌<◌, ◌≤◌, Bool, true, false, not, length, sym, refl, ap, ◌∙◌, arith, Option, Some, None}
use lib.Ieee.{Float, lt}
use Rattle.picks.specs.Pick.{pick}
use Rattle.chart.specs.Timing.{Timing}
use Rattle.clock_walk.specs.Events.{ahead}
use Rattle.clock_walk.specs.Passing.{in_force, time_at, brings}
use Rattle.clock_walk.specs.Course.{is_found, events_left}
use Rattle.clock_walk.specs.ByTime.{has_come, is_delay_or_stop, still_runs, over_by, is_found_over, is_ahead_over, passed_by, pause_of, pausing, stopped_by, walk_by}
use Rattle.chart.specs.declared.State.{State}
use Rattle.clock_walk.specs.declared.Next.{Next}
use Rattle.clock_walk.specs.declared.Pausing.{Pausing}
use Rattle.clock_walk.specs.declared.Pausing.TheVariants.{NoPause}
use Rattle.rows.proofs.RowOrder.{no}
use Rattle.clock_walk.proofs.EventByEvent.{count_fits}
use Rattle.clock_walk.proofs.AllWalks.{SaysAhead, Going, pass-end, spent-on, stops_at}

module _ (elapsed early : Float) (t : Timing) where
  over-found : (s : State) (a : Option Next) → is_found_over elapsed early t s a ≡ true → is_found a ≡ true
  over-found s (Some n) e = refl
  over-found s None e = no e

  pub says_over : SaysAhead t (is_ahead_over elapsed early t)
  says_over s e = over-found s (ahead t s) e

  -- ---- what is ahead by the time: nothing, what has not come, a pause that still runs, what is over
  module _ (s : State) where
    pub nothing-ahead : ahead t s ≡ None → (is_ahead_over elapsed early t s ≡ false) × (NoPause ≡ pausing elapsed early t s)
    nothing-ahead is = (rw is refl, rw is refl)

    module _ (n : Next) (is : ahead t s ≡ Some n) where
      abbrev comes_at : Float
      comes_at = time_at early t.tempo_values s n.row

      abbrev runs : Bool
      runs = still_runs elapsed comes_at (brings t.stop_values t.delay_values t.warp_beats t.warp_lengths s n.kind) n.kind

      pub not_come : lt elapsed comes_at ≡ true → (is_ahead_over elapsed early t s ≡ false) × (NoPause ≡ pausing elapsed early t s)
      unfolding over_by has_come
      not_come h = (rw (is, h) refl, rw (is, h) refl)

      pub still_running : lt elapsed comes_at ≡ false → runs ≡ true → (is_ahead_over elapsed early t s ≡ false) × (pause_of n.kind ≡ pausing elapsed early t s)
      unfolding over_by has_come
      still_running h r = (rw (is, h, r) refl, rw (is, h) refl)

      pub come_and_over : lt elapsed comes_at ≡ false → runs ≡ false → is_ahead_over elapsed early t s ≡ true
      unfolding over_by has_come
      come_and_over h r = rw (is, h, r) refl

  -- ---- the end of a walk that went so far
  pub walked_by : (start s : State) (n : ℕ) (pause : Pausing) (tempo : Float) → Going early t (is_ahead_over elapsed early t) says_over start s n
      → (is_ahead_over elapsed early t s ≡ false) × (pause ≡ pausing elapsed early t s) → tempo ≡ in_force early t.tempo_values s.tempos
      → record { state = s; passed = n; pause = pause; tempo = tempo } ≡ walk_by elapsed early t start
  unfolding walk_by passed_by
  walked_by start s n pause tempo going ends is =
      rw (ends.1, is) (ap (stopped_by elapsed early t) (sym (pass-end early t (is_ahead_over elapsed early t) says_over s n ends.0) ∙ going.same))

  -- what it stopped in, if it has come, is a delay or a stop
  by_tests : (s : State) (n : Next) (come : Bool) → has_come elapsed early t s n ≡ come → come ≡ true → over_by elapsed early t s n ≡ false → is_delay_or_stop n.kind ≡ true
  unfolding over_by still_runs
  by_tests s n false e h o = no h
  by_tests s n true e h o = pausing-kind (is_delay_or_stop n.kind) _ (rw e at o)
    where
      pausing-kind : (b runs : Bool) → not (pick b runs false) ≡ false → b ≡ true
      pausing-kind true runs o = refl
      pausing-kind false runs o = no (sym o)

  pub stopped_in_a_pause : (start : State) (n : Next) → let s = (passed_by elapsed early t start).state in
      ahead t s ≡ Some n → has_come elapsed early t s n ≡ true → is_delay_or_stop n.kind ≡ true
  unfolding passed_by
  stopped_in_a_pause start n is h =
      by_tests _ n true h refl (rw is at (stops_at early t (is_ahead_over elapsed early t) says_over start 0))

  -- ---- no more events are passed than are left, so that they and one can be counted
  pub at_most_one_round : (s : State) → (passed_by elapsed early t s).passed ≤ events_left t s
  unfolding passed_by
  at_most_one_round s = let h = spent-on early t (is_ahead_over elapsed early t) says_over s 0 in omega arith

  pub passed_by_fits : (s : State) → length t.tempo_beats * 4 < 2 ^ 63 → length t.stop_beats * 4 < 2 ^ 63 → length t.delay_beats * 4 < 2 ^ 63 → length t.warp_beats * 4 < 2 ^ 63
      → (walk_by elapsed early t s).passed + 1 < 2 ^ 64
  unfolding walk_by
  passed_by_fits s a b c d = count_fits t s (passed_by elapsed early t s).passed 0 (let h = at_most_one_round s in omega arith) a b c d
