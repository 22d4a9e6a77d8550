-- The second clock's question is answered as the clock answers a fresh cursor. Assumes nothing.
use Prim.Native.Nat.{ℕ, ◌+◌, ◌≤◌}
use mathlib.Core.List.{List, [], ◌∷◌}
use mathlib.Core.Bool.{Bool, true, false}
use mathlib.Core.Path.{◌≡◌, refl, sym, ap, ◌∙◌}
use native.Mathlib.Omega.{arith}
use borrow.Author.Tests.{eqb-true}
use lib.Dec.{eqb}
use lib.ListN.{length}
use lib.IntN.{ℤ, pos}
use lib.Signed.{lt_z}
use lib.Ieee.{Float, binary64, sub, neg}
use Rattle.ieee.specs.Constants.{plus_zero, sixty}
use Rattle.picks.specs.Pick.{pick}
use Rattle.limits.specs.Refusals.{lower}
use Rattle.limits.proofs.NoRefusal.{lower-none}
use Rattle.rows.specs.Rows.{row}
use Rattle.chart.specs.Timing.{Timing, timing}
use Rattle.chart.specs.declared.State.{State}
use Rattle.clock_walk.specs.Passing.{first_or, early_tempo, in_force, time_to, time_at}
use Rattle.clock_walk.specs.Course.{events_left, Stopped, pass_while}
use Rattle.clock_walk.specs.Walk.{is_due, ended, walk_on, walk}
use Rattle.clock_walk.specs.declared.Walked.{Walked}
use Rattle.clock_tests.specs.TimingNumbers.{timing_number, beat_number}
use Rattle.clock_tests.proofs.TimingTaken.{timing-taken}
use Rattle.clock.specs.Question.{filled, fresh_state, fresh_cursor, beginning, reply, answered, refused_with, cursor_refusal, player_number, question_number, question}
use Rattle.clock.specs.declared.Answer.{Answer}
use Rattle.clock_histories.proofs.FirstTempoInForce.{first_in_force}
use Rattle.clock_histories.proofs.WalksAreSound.{sound}
use Rattle.clock_bench.specs.EventList.{with_a_tempo, most_events, first_spot, listed_within, event_list}
use Rattle.clock_bench.specs.EventRoom.{EventRoom, event_room_number}
use Rattle.clock_bench.specs.RunningDown.{seconds_to, time_on, run_down, set_off}
use Rattle.clock_bench.specs.BenchQuestion.{tempo_at_the_start, runner_at, bench_number, bench_taken, bench_refused, bench_question}
use Rattle.clock_bench.specs.declared.Runner.{Runner}
use Rattle.clock_bench.specs.declared.BenchAnswer.{BenchAnswer}
use Rattle.clock_bench.proofs.WithATempo.{first-none}
use Rattle.clock_bench.proofs.BenchOutcome.{listed-most}
use Rattle.clock_bench_laws.specs.BenchAgrees.{by_the_list, by_the_clock, BenchAgrees}
use Rattle.clock_bench_laws.proofs.AsTheWalk.{spot_of, runner_of, runs_as_walked}

-- ---- where both set off

same-filled : (t : Timing) → with_a_tempo t ≡ filled t
unfolding with_a_tempo filled
same-filled t = refl

first_or_lem : (values : List Float) → first_or sixty values ≡ tempo_at_the_start values
first_or_lem [] = refl
first_or_lem (v ∷ values) = refl

first-filled : (t : Timing) → length t.tempo_beats ≡ length t.tempo_values → first_or sixty (filled t).tempo_values ≡ tempo_at_the_start t.tempo_values
unfolding filled
first-filled t even = go (eqb (length t.tempo_beats) 0) refl
  where
    go : (b : Bool) → eqb (length t.tempo_beats) 0 ≡ b
        → first_or sixty (pick b (timing (plus_zero ∷ []) (sixty ∷ []) t.stop_beats t.stop_values t.delay_beats t.delay_values t.warp_beats t.warp_lengths) t).tempo_values ≡ tempo_at_the_start t.tempo_values
    go true e = first-none t.tempo_values (sym even ∙ eqb-true (length t.tempo_beats) 0 e)
    go false e = first_or_lem t.tempo_values

module _ (t : Timing) (offset global : Float) where
  abbrev fresh : State
  fresh = fresh_state offset global

  abbrev early : Float
  early = early_tempo (filled t).tempo_beats (filled t).tempo_values fresh

  start-tempo : timing_number t offset global ≡ 0 → early ≡ tempo_at_the_start t.tempo_values
  unfolding early_tempo fresh_state
  start-tempo h =
      let u = (sound {t = t} {offset = offset} {global = global} h).usable in
      first_in_force (filled t).tempo_beats (filled t).tempo_values (pos 0) u.beats_in u.starts u.rise (omega arith) refl
      ∙ first-filled t (timing-taken {t = t} {offset = offset} {global = global} h).tempos.even

  sets_off : set_off (sub binary64 (neg offset) global) early ≡ runner_of early (filled t) fresh 0
  unfolding fresh_state in_force
  sets_off = refl

  all_left : events_left (filled t) fresh ≤ most_events (filled t)
  unfolding fresh_state most_events
  all_left = omega arith

  the_list : event_list t ≡ listed_within (most_events (filled t)) (filled t) (spot_of fresh)
  unfolding event_list fresh_state
  the_list = ap (λ (f : Timing). listed_within (most_events f) f first_spot) (same-filled t)

  module _ (r : ℤ) where
    abbrev stopped : Stopped
    stopped = pass_while (is_due (filled t) r) early (filled t) fresh 0

    runner_is : timing_number t offset global ≡ 0 → runner_at t offset global r ≡ runner_of early (filled t) stopped.state stopped.passed
    unfolding runner_at
    runner_is h =
        ap (λ (v : Float). run_down r (set_off (sub binary64 (neg offset) global) v) (event_list t)) (sym (start-tempo h))
        ∙ ap (λ (x : Runner). run_down r x (event_list t)) sets_off
        ∙ ap (run_down r (runner_of early (filled t) fresh 0)) the_list
        ∙ runs_as_walked early (filled t) r (most_events (filled t)) fresh 0 all_left

    walked : walk (filled t) r fresh ≡ ended early (filled t) r stopped
    unfolding walk walk_on
    walked = refl

    time_as : (s : State) (n : ℕ) → time_on (runner_of early (filled t) s n) r ≡ time_at early (filled t).tempo_values s r
    unfolding time_on seconds_to time_at time_to
    time_as s n = refl

    time-is : timing_number t offset global ≡ 0 → time_on (runner_at t offset global r) r ≡ (walk (filled t) r fresh).time
    time-is h = ap (λ (x : Runner). time_on x r) (runner_is h) ∙ time_as stopped.state stopped.passed ∙ sym (ap (λ (w : Walked). w.time) walked)

    passed_is : timing_number t offset global ≡ 0 → (runner_at t offset global r).passed ≡ (walk (filled t) r fresh).passed
    passed_is h = ap (λ (x : Runner). x.passed) (runner_is h) ∙ sym (ap (λ (w : Walked). w.passed) walked)

    begins : beginning (fresh_cursor offset global) r offset global ≡ fresh
    unfolding beginning fresh_cursor
    begins = go (lt_z r (fresh_cursor offset global).asked)
      where
        go : (b : Bool) → pick b fresh fresh ≡ fresh
        go true = refl
        go false = refl

-- ---- the two questions

module _ (t : Timing) (offset global beat : Float) where
  clock_zero : timing_number t offset global ≡ 0 → beat_number beat ≡ 0 → question_number t (fresh_cursor offset global) offset global beat ≡ 0
  unfolding question_number player_number lower
  clock_zero h k = rw (h, k) (sound {t = t} {offset = offset} {global = global} h).fresh_fine

  by_clock : timing_number t offset global ≡ 0 → beat_number beat ≡ 0 → by_the_clock t offset global beat ≡ answered global (row binary64 beat) (walk (filled t) (row binary64 beat) (fresh_state offset global))
  unfolding question reply
  by_clock h k = rw (clock_zero h k, begins t offset global (row binary64 beat))

  clock_taken : (n : ℕ) → question_number t (fresh_cursor offset global) offset global beat ≡ n → (by_the_clock t offset global beat).number ≡ 0 → n ≡ 0
  unfolding question reply
  clock_taken n e h = go (eqb n 0) refl (rw e at h)
    where
      go : (b : Bool) → eqb n 0 ≡ b → (pick {A = Answer} b (reply t (fresh_cursor offset global) offset global beat) (refused_with n (fresh_cursor offset global))).number ≡ 0 → n ≡ 0
      go true e h = eqb-true n 0 e
      go false e h = h

  module _ (room : EventRoom) where
    list-zero : (n : ℕ) → bench_number t offset global beat room ≡ n → (by_the_list t offset global beat room).number ≡ 0 → n ≡ 0
    unfolding bench_question
    list-zero n e h = go (eqb n 0) refl (rw e at h)
      where
        go : (b : Bool) → eqb n 0 ≡ b → (pick {A = BenchAnswer} b (bench_taken t offset global (row binary64 beat)) (bench_refused n)).number ≡ 0 → n ≡ 0
        go true e h = eqb-true n 0 e
        go false e h = h

    by-list : bench_number t offset global beat room ≡ 0 → by_the_list t offset global beat room ≡ bench_taken t offset global (row binary64 beat)
    unfolding bench_question
    by-list h = rw h

    -- what a taken question passed
    tests : (by_the_list t offset global beat room).number ≡ 0 → (timing_number t offset global ≡ 0) × (beat_number beat ≡ 0)
    unfolding bench_number
    tests h =
        let all = lower-none (timing_number t offset global) _ (list-zero _ refl h) in
        (all.0, (lower-none (beat_number beat) (event_room_number t room) all.1).0)

    list-taken : (by_the_clock t offset global beat).number ≡ 0 → event_room_number t room ≡ 0 → bench_number t offset global beat room ≡ 0
    unfolding bench_number question_number player_number lower
    list-taken h k =
        let all = lower-none (timing_number t offset global) _ (clock_taken _ refl h) in
        rw (all.0, (lower-none (beat_number beat) (cursor_refusal t (fresh_cursor offset global)) all.1).0) k

    fits : length (event_list t) ≤ most_events (with_a_tempo t)
    unfolding event_list
    fits = listed-most (most_events (with_a_tempo t)) (with_a_tempo t) first_spot

    pub bench_agrees : BenchAgrees t offset global beat room
    bench_agrees = record {
      numbers = λ h. ap (λ (a : Answer). a.number) (by_clock (tests h).0 (tests h).1);
      times = λ h.
          ap (λ (a : BenchAnswer). a.time) (by-list (list-zero _ refl h))
          ∙ ap (λ (x : Float). sub binary64 x global) (time-is t offset global (row binary64 beat) (tests h).0)
          ∙ sym (ap (λ (a : Answer). a.time) (by_clock (tests h).0 (tests h).1));
      counts = λ h.
          ap (λ (a : BenchAnswer). a.count) (by-list (list-zero _ refl h))
          ∙ ap (λ (n : ℕ). n + 1) (passed_is t offset global (row binary64 beat) (tests h).0)
          ∙ sym (ap (λ (a : Answer). a.count) (by_clock (tests h).0 (tests h).1));
      taken = λ h k. ap (λ (a : BenchAnswer). a.number) (by-list (list-taken h k));
      fits = fits;
    }
