-- Running down the list from a spot comes to what a walk from that state comes to, event by event. Assumes nothing.
use Rattle.std.specs.Prelude.{Option, Some, None}
use Prim.Native.Nat.{ℕ, zero, suc, ◌+◌, ◌-◌, ◌≤◌, ◌<◌}
use mathlib.Core.List.{List, [], ◌∷◌}
use mathlib.Core.Bool.{Bool, true, false}
use mathlib.Core.Path.{◌≡◌, refl, sym, ap, ◌∙◌, subst}
use native.Mathlib.Omega.{arith}
use borrow.Author.Tests.{ne_eqb}
use lib.Dec.{ltb, eqb}
use lib.ListN.{length, get_or}
use lib.IntN.{ℤ, pos}
use lib.Signed.{lt_z}
use lib.Ieee.{Float, nan, binary64}
use Rattle.picks.specs.Pick.{pick}
use Rattle.rows.specs.Rows.{row}
use Rattle.chart.specs.Timing.{Timing}
use Rattle.chart.specs.declared.State.{State}
use Rattle.clock_walk.specs.Events.{sooner, offered, end_offered, row_ahead, ahead, goes_first, goes_before, due_of}
use Rattle.clock_walk.specs.Passing.{in_force, time_to, time_at, larger, brings, arrived, event_passed, passing, after_warp_end, after_tempo, after_delay, after_stop, after_warp}
use Rattle.clock_walk.specs.Course.{past_found, onward, events_left, Stopped, pass_while}
use Rattle.clock_walk.specs.Walk.{is_passes, is_due}
use Rattle.clock_walk.specs.declared.Next.{Next}
use Rattle.clock_walk.specs.declared.Event.{Event}
use Rattle.clock_walk.specs.declared.Event.TheVariants.{WarpEnd, Tempo, Delay, Stop, Warp}
use Rattle.clock_walk.proofs.EventByEvent.{left-falls}
use Rattle.clock_walk.proofs.AllWalks.{pass_on, pass-end}
use Rattle.clock_walk.proofs.ClockTest.{says_due}
use Rattle.clock_bench.specs.EventList.{warp_ends, tempo_begins, delay_begins, stop_begins, warp_begins, none_left, nothing_left, lower_head, or_entry, or_end, next_head, further_end, bringing, spot_past, next_listed, listed_within}
use Rattle.clock_bench.specs.RunningDown.{seconds_to, time_on, runner_past, comes_before, run_down}
use Rattle.clock_bench.specs.declared.Head.{Head}
use Rattle.clock_bench.specs.declared.Listed.{Listed}
use Rattle.clock_bench.specs.declared.Spot.{Spot}
use Rattle.clock_bench.specs.declared.Runner.{Runner}

-- ---- one clock's words in the other's

abbrev kind_of : Event → ℕ
kind_of WarpEnd = warp_ends
kind_of Tempo = tempo_begins
kind_of Delay = delay_begins
kind_of Stop = stop_begins
kind_of Warp = warp_begins

abbrev head_of : Option Next → Head
head_of (Some n) = record { row = n.row; kind = kind_of n.kind }
head_of None = nothing_left

abbrev pub spot_of : State → Spot
spot_of s = record { tempos = s.tempos; stops = s.stops; delays = s.delays; warps = s.warps; end = s.end; warping = s.warping }

abbrev pub runner_of : Float → Timing → State → ℕ → Runner
runner_of early t s n = record { row = s.row; time = s.time; tempo = in_force early t.tempo_values s.tempos; warping = s.warping; passed = n }

-- ---- which event falls next

head_row : (a : Option Next) → (head_of a).row ≡ row_ahead a
head_row (Some n) = refl
head_row None = refl

lower_as : (a : Option Next) (at : ℤ) (k : Event) → lower_head (head_of a) at (kind_of k) ≡ head_of (sooner row_ahead a (Some (record { row = at; kind = k })))
unfolding lower_head sooner
lower_as a at k = rw (head_row a) (go (lt_z at (row_ahead a)))
  where
    go : (b : Bool) → pick b (record { row = at; kind = kind_of k }) (head_of a) ≡ head_of (pick b (Some (record { row = at; kind = k })) a)
    go true = refl
    go false = refl

entry_as : (a : Option Next) (beats : List Float) (place : ℕ) (k : Event) → or_entry (head_of a) beats place (kind_of k) ≡ head_of (offered row_ahead Some a beats place k)
unfolding or_entry offered
entry_as a beats place k = go (ltb place (length beats))
  where
    at : ℤ
    at = row binary64 (get_or beats place nan)

    go : (b : Bool) → pick b (lower_head (head_of a) at (kind_of k)) (head_of a) ≡ head_of (pick b (sooner row_ahead a (Some (record { row = at; kind = k }))) a)
    go true = lower_as a at k
    go false = refl

end_as : (warping : Bool) (end : Float) → or_end nothing_left warping end ≡ head_of (end_offered row_ahead Some None warping end)
unfolding or_end end_offered
end_as true end = lower_as None (row binary64 end) WarpEnd
end_as false end = refl

module _ (t : Timing) (s : State) where
  head_as : next_head t.tempo_beats t.stop_beats t.delay_beats t.warp_beats (spot_of s) ≡ head_of (ahead t s)
  unfolding next_head ahead
  head_as =
      let with_tempo : Head → Head = λ h. or_entry h t.tempo_beats s.tempos tempo_begins in
      let with_delay : Head → Head = λ h. or_entry h t.delay_beats s.delays delay_begins in
      let with_stop : Head → Head = λ h. or_entry h t.stop_beats s.stops stop_begins in
      let with_warp : Head → Head = λ h. or_entry h t.warp_beats s.warps warp_begins in
      ap (λ (h : Head). with_warp (with_stop (with_delay (with_tempo h)))) (end_as s.warping s.end)
      ∙ ap (λ (h : Head). with_warp (with_stop (with_delay h))) (entry_as _ t.tempo_beats s.tempos Tempo)
      ∙ ap (λ (h : Head). with_warp (with_stop h)) (entry_as _ t.delay_beats s.delays Delay)
      ∙ ap with_warp (entry_as _ t.stop_beats s.stops Stop)
      ∙ entry_as _ t.warp_beats s.warps Warp

-- ---- what it brings, and what it leaves

module _ (early : Float) (t : Timing) (s : State) where
  abbrev number_for : Event → Float
  number_for k = bringing t.tempo_values t.stop_values t.delay_values t.warp_beats t.warp_lengths (spot_of s) (kind_of k)

  spot-by : (at : ℤ) (k : Event) → spot_past (spot_of s) (kind_of k) (number_for k) ≡ spot_of (passing early t s (record { row = at; kind = k }))
  unfolding spot_past bringing further_end larger event_passed after_warp_end after_tempo after_delay after_stop after_warp
  spot-by at WarpEnd = refl
  spot-by at Tempo = refl
  spot-by at Delay = refl
  spot-by at Stop = refl
  spot-by at Warp = refl

  next-tempo : get_or t.tempo_values s.tempos nan ≡ in_force early t.tempo_values (s.tempos + 1)
  unfolding in_force
  next-tempo =
      let back : s.tempos + 1 - 1 ≡ s.tempos = omega arith in
      rw (ne_eqb (s.tempos + 1) 0 (λ e. absurd (omega arith)), back)

  runner_by : (n : ℕ) (at : ℤ) (k : Event) → runner_past (runner_of early t s n) at (kind_of k) (number_for k) ≡ runner_of early t (passing early t s (record { row = at; kind = k })) (n + 1)
  unfolding runner_past bringing time_on seconds_to time_at time_to event_passed after_warp_end after_tempo after_delay after_stop after_warp
  runner_by n at WarpEnd = refl
  runner_by n at Tempo = ap (λ (x : Float). record { row = at; time = time_at early t.tempo_values s at; tempo = x; warping = s.warping; passed = n + 1 }) next-tempo
  runner_by n at Delay = refl
  runner_by n at Stop = refl
  runner_by n at Warp = refl

before_as : (r at : ℤ) (k : Event) → comes_before r at (kind_of k) ≡ goes_before r (record { row = at; kind = k })
unfolding comes_before goes_before
before_as r at WarpEnd = refl
before_as r at Tempo = refl
before_as r at Delay = refl
before_as r at Stop = refl
before_as r at Warp = refl

-- ---- the list from a spot on

some-kind : (k : Event) → eqb (kind_of k) none_left ≡ false
some-kind WarpEnd = refl
some-kind Tempo = refl
some-kind Delay = refl
some-kind Stop = refl
some-kind Warp = refl

module _ (early : Float) (t : Timing) (s : State) (f : ℕ) where
  list-none : ahead t s ≡ None → listed_within (suc f) t (spot_of s) ≡ []
  unfolding listed_within next_listed
  list-none is = rw (head_as t s, is)

  list-some : (n : Next) → ahead t s ≡ Some n → listed_within (suc f) t (spot_of s)
      ≡ record { row = n.row; kind = kind_of n.kind; number = number_for early t s n.kind } ∷ listed_within f t (spot_of (passing early t s n))
  unfolding listed_within next_listed
  list-some n is = rw (head_as t s, is, some-kind n.kind, spot-by early t s n.row n.kind)

-- ---- running down

module _ (early : Float) (t : Timing) (r : ℤ) where
  abbrev stopped : State → ℕ → Stopped
  stopped s n = pass_while (is_due t r) early t s n

  abbrev at_end : Stopped → Runner
  at_end w = runner_of early t w.state w.passed

  not_due_lem : (s : State) (n : ℕ) → is_due t r s ≡ false → runner_of early t s n ≡ at_end (stopped s n)
  not_due_lem s n h = ap at_end (sym (pass-end early t (is_due t r) (says_due t r) s n h))

  run_none : (x : Runner) → run_down r x [] ≡ x
  unfolding run_down
  run_none x = refl

  run-some : (x : Runner) (e : Listed) (list : List Listed) (b : Bool) → comes_before r e.row e.kind ≡ b → run_down r x (e ∷ list) ≡ pick b (run_down r (runner_past x e.row e.kind e.number) list) x
  unfolding run_down
  run-some x e list b h = rw h

  due_of_lem : (s : State) (n : Next) (b : Bool) → ahead t s ≡ Some n → goes_before r n ≡ b → is_due t r s ≡ b
  due_of_lem s n true is h = rw (is, h)
  due_of_lem s n false is h = rw (is, h)

  -- one event more, where what is left runs as it is walked
  one_more : (f : ℕ) (s : State) (n : ℕ) (m : Next) (b : Bool) → ahead t s ≡ Some m → goes_before r m ≡ b
      → (is_due t r s ≡ true → run_down r (runner_of early t (passing early t s m) (n + 1)) (listed_within f t (spot_of (passing early t s m))) ≡ at_end (stopped (passing early t s m) (n + 1)))
      → run_down r (runner_of early t s n) (listed_within (suc f) t (spot_of s)) ≡ at_end (stopped s n)
  one_more f s n m b is h later =
      let rest = listed_within f t (spot_of (passing early t s m)) in
      ap (run_down r (runner_of early t s n)) (list-some early t s f m is)
      ∙ run-some (runner_of early t s n) (record { row = m.row; kind = kind_of m.kind; number = number_for early t s m.kind }) rest b (before_as r m.row m.kind ∙ h)
      ∙ by b (due_of_lem s m b is h)
    where
      by : (b : Bool) → is_due t r s ≡ b
          → pick b (run_down r (runner_past (runner_of early t s n) m.row (kind_of m.kind) (number_for early t s m.kind)) (listed_within f t (spot_of (passing early t s m)))) (runner_of early t s n) ≡ at_end (stopped s n)
      by false d = not_due_lem s n d
      by true d =
          let on : onward early t s ≡ passing early t s m = ap (past_found early t s) is in
          ap (λ (x : Runner). run_down r x (listed_within f t (spot_of (passing early t s m)))) (runner_by early t s n m.row m.kind)
          ∙ later d
          ∙ ap (λ (x : State). at_end (stopped x (n + 1))) (sym on)
          ∙ ap at_end (sym (pass_on early t (is_due t r) (says_due t r) s n d))

  by-ahead : (f : ℕ) (s : State) (n : ℕ) (a : Option Next) → ahead t s ≡ a
      → (is_due t r s ≡ true → run_down r (runner_of early t (onward early t s) (n + 1)) (listed_within f t (spot_of (onward early t s))) ≡ at_end (stopped (onward early t s) (n + 1)))
      → run_down r (runner_of early t s n) (listed_within (suc f) t (spot_of s)) ≡ at_end (stopped s n)
  by-ahead f s n None is later = ap (run_down r (runner_of early t s n)) (list-none early t s f is) ∙ run_none (runner_of early t s n) ∙ not_due_lem s n (rw is)
  by-ahead f s n (Some m) is later = one_more f s n m (goes_before r m) is refl (λ d. subst (λ (x : State). run_down r (runner_of early t x (n + 1)) (listed_within f t (spot_of x)) ≡ at_end (stopped x (n + 1))) (ap (past_found early t s) is) (later d))

  none-due : (s : State) (b : Bool) → is_due t r s ≡ b → events_left t s ≤ 0 → is_due t r s ≡ false
  none-due s true e l = let k = left-falls early t s (says_due t r s e) in absurd (omega arith)
  none-due s false e l = e

  fewer : (f : ℕ) (s : State) → is_due t r s ≡ true → events_left t s ≤ suc f → events_left t (onward early t s) ≤ f
  fewer f s d l = let k = left-falls early t s (says_due t r s d) in omega arith

  pub runs_as_walked : (f : ℕ) (s : State) (n : ℕ) → events_left t s ≤ f → run_down r (runner_of early t s n) (listed_within f t (spot_of s)) ≡ at_end (stopped s n)
  unfolding listed_within
  runs_as_walked zero s n l = run_none (runner_of early t s n) ∙ not_due_lem s n (none-due s (is_due t r s) refl l)
  runs_as_walked (suc f) s n l = by-ahead f s n (ahead t s) refl (λ d. runs_as_walked f (onward early t s) (n + 1) (fewer f s d l))
