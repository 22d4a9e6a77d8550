-- What is over by a time is over by every later one, so that a walk to a later time goes on from where the earlier one stopped. Assumes nothing.
use Rattle.clock_walk.specs.declared.Next.{Next}
use Rattle.std.specs.Prelude.{Option, Some, None}
use Prim.Native.Nat.{ℕ, zero, suc, ◌+◌, ◌*◌, ◌^◌, ◌<◌, ◌≤◌}
use mathlib.Core.Bool.{Bool, true, false, not}
use mathlib.Core.Logic.{⊎_elim}
use mathlib.Core.Path.{◌≡◌, refl, sym, ap, ◌∙◌}
use native.Mathlib.Omega.{arith}
use lib.Dec.{T}
use denote.Floats.{passes, is_true}
use lib.ListN.{length}
use lib.Ieee.{Float, nan, inf, fin, is_nan, lt, le}
use Rattle.picks.specs.Pick.{pick}
use Rattle.ieee.proofs.FloatsInOrder.{float_le_trans, float_lt_or_le, float_lt_not_le}
use Rattle.rows.proofs.RowOrder.{no}
use Rattle.chart.specs.Timing.{Timing}
use Rattle.chart.specs.declared.State.{State}
use Rattle.clock_walk.specs.Events.{ahead}
use Rattle.clock_walk.specs.Course.{onward, events_left, pass_within, pass_while}
use Rattle.clock_walk.specs.ByTime.{has_come, is_delay_or_stop, still_runs, over_by, is_found_over, is_ahead_over, passed_by, stopped_by, walk_by}
use Rattle.clock_walk.specs.declared.ByTime.{ByTime}
use Rattle.clock_walk.proofs.LaterBeats.{number}
use Rattle.clock_walk.proofs.EventByEvent.{count_fits}
use Rattle.clock_walk.proofs.AllWalks.{spent-on, passed_on}
use Rattle.clock_walk.proofs.OverByATime.{says_over, at_most_one_round}
use Rattle.clock_by_time.specs.declared.Reached.{Reached}
use Rattle.clock_by_time.specs.inside.OnTheWay.{OnTheWay}

-- ---- of floats: what is above a later time is above an earlier one
above_is_number : (x y : Float) → T (lt x y) → T (not (is_nan y))
unfolding lt is_nan
above_is_number x (inf s) h = tt
above_is_number x (fin s m e) h = tt
above_is_number nan nan h = h
above_is_number (inf s) nan h = h
above_is_number (fin s m e) nan h = h

lt-before : (first later x : Float) → le first later ≡ true → lt later x ≡ true → lt first x ≡ true
lt-before first later x h k =
    is_true (lt first x)
    (⊎_elim (λ l. l) (λ up. absurd (float_lt_not_le later x (passes _ k) (float_le_trans x first later up (passes _ h))))
    (float_lt_or_le first x (number first later h) (above_is_number later x (passes _ k))))

not_above_lem : (first later x : Float) → le first later ≡ true → lt first x ≡ false → lt later x ≡ false
not_above_lem first later x h k = go (lt later x) refl
  where
    go : (b : Bool) → lt later x ≡ b → b ≡ false
    go false e = refl
    go true e = no (sym k ∙ lt-before first later x h e)

-- ---- of events
module _ (early : Float) (t : Timing) where
  by_tests : (a b c d e : Bool) → pick (not a) (not (pick c b false)) false ≡ true → (a ≡ false → d ≡ false) → (b ≡ false → e ≡ false) → pick (not d) (not (pick c e false)) false ≡ true
  by_tests true b c d e h f g = no h
  by_tests false true true d e h f g = no h
  by_tests false false true d e h f g = rw (f refl, g refl) refl
  by_tests false b false d e h f g = rw (f refl) refl

  module _ (first later : Float) (h : le first later ≡ true) where
    found-over : (s : State) (a : Option Next) → is_found_over first early t s a ≡ true → is_found_over later early t s a ≡ true
    unfolding over_by has_come still_runs
    found-over s (Some n) o = by_tests (lt first _) (lt first _) (is_delay_or_stop n.kind) (lt later _) (lt later _) o (not_above_lem first later _ h) (not_above_lem first later _ h)
    found-over s None o = no o

    over-later : (s : State) → is_ahead_over first early t s ≡ true → is_ahead_over later early t s ≡ true
    over-later s o = found-over s (ahead t s) o

  -- ---- the count that a walk begins with is added to what it passes
  module _ (more : State → Bool) where
    added : (f : ℕ) (b : Bool) (s : State) (m n : ℕ) → more s ≡ b
        → pass_within f more early t s (m + n) ≡ record { state = (pass_within f more early t s n).state; passed = m + (pass_within f more early t s n).passed }
    unfolding pass_within
    added zero b s m n e = refl
    added (suc f) false s m n e = rw e refl
    added (suc f) true s m n e = rw e (ap (λ (k : ℕ). pass_within f more early t (onward early t s) k) (omega arith) ∙ added f (more (onward early t s)) (onward early t s) m (n + 1) refl)

    count-added : (s : State) (m : ℕ) → pass_while more early t s m ≡ record { state = (pass_while more early t s 0).state; passed = m + (pass_while more early t s 0).passed }
    unfolding pass_while
    count-added s m = ap (λ (k : ℕ). pass_within (events_left t s) more early t s k) (omega arith) ∙ added (events_left t s) (more s) s m 0 refl

  -- ---- of a run
  module _ (start : State) where
    pub way_begins : (elapsed : Float) → OnTheWay early t start (record { state = start; passed = 0; elapsed = elapsed })
    unfolding passed_by
    way_begins elapsed = record { same = λ later h. refl; few = omega arith }

    pub way_goes_on : (elapsed : Float) (w : ByTime) → w ≡ walk_by elapsed early t start → OnTheWay early t start (record { state = w.state; passed = w.passed; elapsed = elapsed })
    unfolding walk_by passed_by
    way_goes_on elapsed w is = rw is (record {
      same = λ later h. sym (passed_on early t (is_ahead_over elapsed early t) (is_ahead_over later early t) (says_over later early t) (over-later elapsed later h) start 0);
      few = let h = spent-on early t (is_ahead_over elapsed early t) (says_over elapsed early t) start 0 in omega arith;
    })

    module _ (at : Reached) (way : OnTheWay early t start at) (elapsed : Float) (w : ByTime) (is : w ≡ walk_by elapsed early t at.state) where
      pub walked_on : le at.elapsed elapsed ≡ true
          → record { state = w.state; passed = at.passed + w.passed; pause = w.pause; tempo = w.tempo } ≡ walk_by elapsed early t start
      unfolding walk_by passed_by
      walked_on h = rw is (ap (stopped_by elapsed early t) (sym (count-added (is_ahead_over elapsed early t) at.state at.passed) ∙ way.same elapsed h))

      pub sum_fits : length t.tempo_beats * 4 < 2 ^ 63 → length t.stop_beats * 4 < 2 ^ 63 → length t.delay_beats * 4 < 2 ^ 63 → length t.warp_beats * 4 < 2 ^ 63 → at.passed + w.passed < 2 ^ 64
      unfolding walk_by
      sum_fits a b c d =
          let few = way.few in
          let once : w.passed ≤ events_left t at.state = rw is (at_most_one_round elapsed early t at.state) in
          let fits = count_fits t start (at.passed + w.passed) 0 (omega arith) a b c d in
          omega arith
