-- What is true of every walk, whatever its test, as long as the test says yes only where something is ahead. Assumes nothing.
use Rattle.std.proofs.Common.{◌≡◌, ℕ, zero, suc, ◌+◌, ◌<◌, ◌≤◌, Bool, true, false, sym, refl, ap, ◌∙◌, arith}
use lib.Ieee.{Float}
use Rattle.chart.specs.Timing.{Timing}
use Rattle.clock_walk.specs.Course.{is_ahead, onward, events_left, Stopped, pass_within, pass_while}
use Rattle.chart.specs.declared.State.{State}
use Rattle.clock_walk.proofs.EventByEvent.{left-falls}

abbrev pub SaysAhead : Timing → (State → Bool) → Type 0
SaysAhead t more = (s : State) → more s ≡ true → is_ahead t s ≡ true

module _ (early : Float) (t : Timing) (more : State → Bool) where
  -- ---- the count that a walk begins with is only added to
  state-within : (f : ℕ) (b : Bool) (s : State) (m n : ℕ) → more s ≡ b → (pass_within f more early t s m).state ≡ (pass_within f more early t s n).state
  unfolding pass_within
  state-within zero b s m n e = refl
  state-within (suc f) false s m n e = rw e
  state-within (suc f) true s m n e = rw e (state-within f (more (onward early t s)) (onward early t s) (m + 1) (n + 1) refl)

  pub count-apart : (s : State) (m n : ℕ) → (pass_while more early t s m).state ≡ (pass_while more early t s n).state
  unfolding pass_while
  count-apart s m n = state-within (events_left t s) (more s) s m n refl

  module _ (says : SaysAhead t more) where
    less : (s : State) → more s ≡ true → events_left t (onward early t s) < events_left t s
    less s e = left-falls early t s (says s e)

    -- any bound that is not below what is left gives the same walk
    enough : (f g : ℕ) (b : Bool) (s : State) (n : ℕ) → more s ≡ b → events_left t s ≤ f → events_left t s ≤ g → pass_within f more early t s n ≡ pass_within g more early t s n
    unfolding pass_within
    enough zero zero b s n e p q = refl
    enough zero (suc g) true s n e p q = let l = less s e in absurd (omega arith)
    enough zero (suc g) false s n e p q = rw e
    enough (suc f) zero true s n e p q = let l = less s e in absurd (omega arith)
    enough (suc f) zero false s n e p q = rw e
    enough (suc f) (suc g) true s n e p q = let l = less s e in rw e (enough f g (more (onward early t s)) (onward early t s) (n + 1) refl (omega arith) (omega arith))
    enough (suc f) (suc g) false s n e p q = rw e

    -- one event more
    pub pass_on : (s : State) (n : ℕ) → more s ≡ true → pass_while more early t s n ≡ pass_while more early t (onward early t s) (n + 1)
    unfolding pass_while pass_within
    pass_on s n e = go (events_left t s) refl
      where
        go : (f : ℕ) → events_left t s ≡ f → pass_within (events_left t s) more early t s n ≡ pass_within (events_left t (onward early t s)) more early t (onward early t s) (n + 1)
        go zero q = let l = less s e in absurd (omega arith)
        go (suc f) q = let l = less s e in rw (q, e) (enough f (events_left t (onward early t s)) (more (onward early t s)) (onward early t s) (n + 1) refl (omega arith) (omega arith))

    -- none more
    pub pass-end : (s : State) (n : ℕ) → more s ≡ false → pass_while more early t s n ≡ record { state = s; passed = n }
    unfolding pass_while pass_within
    pass-end s n e = go (events_left t s) refl
      where
        go : (f : ℕ) → events_left t s ≡ f → pass_within (events_left t s) more early t s n ≡ record { state = s; passed = n }
        go zero q = rw q
        go (suc f) q = rw (q, e)

    -- ---- no more events are passed than were left, and so many fewer are left
    spent-within : (f : ℕ) (b : Bool) (s : State) (n : ℕ) → more s ≡ b → (pass_within f more early t s n).passed + events_left t (pass_within f more early t s n).state ≤ n + events_left t s
    unfolding pass_within
    spent-within zero b s n e = omega arith
    spent-within (suc f) false s n e = rw e (omega arith)
    spent-within (suc f) true s n e = rw e (lower _ _ _ _ (spent-within f (more (onward early t s)) (onward early t s) (n + 1) refl) (less s e))
      where
        lower : (x y u v : ℕ) → x + y ≤ n + 1 + u → u < v → x + y ≤ n + v
        lower x y u v a b = omega arith

    pub spent-on : (s : State) (n : ℕ) → (pass_while more early t s n).passed + events_left t (pass_while more early t s n).state ≤ n + events_left t s
    unfolding pass_while
    spent-on s n = spent-within (events_left t s) (more s) s n refl

    -- ---- where it stops, the test says no
    stops-by : (f : ℕ) (b : Bool) (s : State) (n : ℕ) → more s ≡ b → events_left t s ≤ f → more (pass_while more early t s n).state ≡ false
    stops-by zero true s n e l = let k = less s e in absurd (omega arith)
    stops-by zero false s n e l = rw (pass-end s n e) e
    stops-by (suc f) true s n e l = let k = less s e in rw (pass_on s n e) (stops-by f (more (onward early t s)) (onward early t s) (n + 1) refl (omega arith))
    stops-by (suc f) false s n e l = rw (pass-end s n e) e

    pub stops_at : (s : State) (n : ℕ) → more (pass_while more early t s n).state ≡ false
    stops_at s n = stops-by (events_left t s) (more s) s n refl (omega arith)

    -- ---- a turn of a loop that passes an event
    pub record Going (start s : State) (n : ℕ) : Type 0 where
      pub same : pass_while more early t s n ≡ pass_while more early t start 0
      pub few : n + events_left t s ≤ events_left t start

    pub turn : (start s : State) (n : ℕ) (s' : State) → more s ≡ true → s' ≡ onward early t s → Going start s n → Going start s' (n + 1) × (events_left t s' < events_left t s)
    turn start s n s' e is going =
        let l : events_left t (onward early t s) < events_left t s = less s e in
        let w : events_left t s' < events_left t s = rw is l in
        let f = going.few in
        (record { same = ap (λ (x : State). pass_while more early t x (n + 1)) is ∙ sym (pass_on s n e) ∙ going.same; few = omega arith }, w)

  -- ---- what every event keeps, every walk keeps; P speaks of a state and of how many events were passed before it
  module _ (P : State → ℕ → Type 0) (keeps : (s : State) (n : ℕ) → more s ≡ true → P s n → P (onward early t s) (n + 1)) where
    kept : (f : ℕ) (b : Bool) (s : State) (n : ℕ) → more s ≡ b → P s n → P (pass_within f more early t s n).state (pass_within f more early t s n).passed
    unfolding pass_within
    kept zero b s n e h = h
    kept (suc f) false s n e h = rw e h
    kept (suc f) true s n e h = rw e (kept f (more (onward early t s)) (onward early t s) (n + 1) refl (keeps s n e h))

    pub pass-keeps : (s : State) (n : ℕ) → P s n → P (pass_while more early t s n).state (pass_while more early t s n).passed
    unfolding pass_while
    pass-keeps s n h = kept (events_left t s) (more s) s n refl h

-- ---- a test that asks less goes on from where one that asks more stopped
module _ (early : Float) (t : Timing) (first more : State → Bool) (says : SaysAhead t more) (weaker : (s : State) → first s ≡ true → more s ≡ true) where
  first_says : SaysAhead t first
  first_says s e = says s (weaker s e)

  abbrev going_on : Stopped → Stopped
  going_on w = pass_while more early t w.state w.passed

  by_left : (f : ℕ) (b : Bool) (s : State) (n : ℕ) → first s ≡ b → events_left t s ≤ f → pass_while more early t s n ≡ going_on (pass_while first early t s n)
  by_left zero false s n e l = ap going_on (sym (pass-end early t first first_says s n e))
  by_left zero true s n e l = let k = less early t first first_says s e in absurd (omega arith)
  by_left (suc f) false s n e l = ap going_on (sym (pass-end early t first first_says s n e))
  by_left (suc f) true s n e l =
      let k = less early t first first_says s e in
      pass_on early t more says s n (weaker s e)
      ∙ by_left f (first (onward early t s)) (onward early t s) (n + 1) refl (omega arith)
      ∙ ap going_on (sym (pass_on early t first first_says s n e))

  pub passed_on : (s : State) (n : ℕ) → pass_while more early t s n ≡ going_on (pass_while first early t s n)
  passed_on s n = by_left (events_left t s) (first s) s n refl (omega arith)
