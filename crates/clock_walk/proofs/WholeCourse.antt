-- The walk with no asked beat goes along the course event by event, until nothing is found: so the end mark is made. Assumes nothing.
use Rattle.std.proofs.Common.{◌≡◌, ℕ, zero, suc, ◌≤◌, List, [], ◌∷◌, length, ℤ, refl, ap, ◌∙◌, arith, Option, Some, None}
use lib.Ieee.{Float}
use Rattle.chart.specs.Timing.{Timing}
use Rattle.clock_walk.specs.Events.{ahead}
use Rattle.clock_walk.specs.Course.{is_found, onward, events_left, state_after, found_before, events_within, course}
use Rattle.clock_walk.specs.EndMark.{greater_row, greatest_row}
use Rattle.chart.specs.declared.State.{State}
use Rattle.clock_walk.specs.declared.Next.{Next}
use Rattle.clock_walk.specs.declared.Mark.{Mark}
use Rattle.clock_walk.proofs.EventByEvent.{left-falls}

module _ (early : Float) (t : Timing) where
  -- any bound that is not below what is left gives the same events
  enough : (f g : ℕ) (a : Option Next) (s : State) → ahead t s ≡ a → events_left t s ≤ f → events_left t s ≤ g → events_within f early t s ≡ events_within g early t s
  unfolding events_within
  enough zero zero a s e p q = refl
  enough zero (suc g) (Some n) s e p q = let l = left-falls early t s (ap is_found e) in absurd (omega arith)
  enough zero (suc g) None s e p q = rw e
  enough (suc f) zero (Some n) s e p q = let l = left-falls early t s (ap is_found e) in absurd (omega arith)
  enough (suc f) zero None s e p q = rw e
  enough (suc f) (suc g) (Some n) s e p q =
      let l = left-falls early t s (ap is_found e) in
      ap (found_before (ahead t s)) (enough f g (ahead t (onward early t s)) (onward early t s) refl (omega arith) (omega arith))
  enough (suc f) (suc g) None s e p q = rw e

  -- one event more
  pub course-on : (s : State) (n : Next) → ahead t s ≡ Some n → course early t s ≡ n ∷ course early t (onward early t s)
  unfolding course events_within
  course-on s n e = go (events_left t s) refl
    where
      go : (f : ℕ) → events_left t s ≡ f → events_within (events_left t s) early t s ≡ n ∷ events_within (events_left t (onward early t s)) early t (onward early t s)
      go zero q = let l = left-falls early t s (ap is_found e) in absurd (omega arith)
      go (suc f) q =
          let l = left-falls early t s (ap is_found e) in
          ap (λ (k : ℕ). events_within k early t s) q
          ∙ ap (λ (a : Option Next). found_before a (events_within f early t (onward early t s))) e
          ∙ ap (λ (list : List Next). n ∷ list) (enough f (events_left t (onward early t s)) (ahead t (onward early t s)) (onward early t s) refl (omega arith) (omega arith))

  -- none more
  pub course-end : (s : State) → ahead t s ≡ None → course early t s ≡ []
  unfolding course events_within
  course-end s e = go (events_left t s) refl
    where
      go : (f : ℕ) → events_left t s ≡ f → events_within (events_left t s) early t s ≡ []
      go zero q = rw q
      go (suc f) q = rw (q, e)

  -- ---- a turn of a loop that passes an event: the mark that the rest of the course makes of a state and of the greatest row so far
  abbrev pub mark_from : State → ℤ → Mark
  mark_from s most = record { state = state_after (length (course early t s)) early t s; row = greatest_row most (course early t s) }

  pub mark_on : (s : State) (most : ℤ) (n : Next) → ahead t s ≡ Some n → mark_from s most ≡ mark_from (onward early t s) (greater_row most n.row)
  unfolding state_after greatest_row
  mark_on s most n e =
      ap (λ (list : List Next). record { state = state_after (length list) early t s; row = greatest_row most list }) (course-on s n e)

  pub mark-end : (s : State) (most : ℤ) → ahead t s ≡ None → mark_from s most ≡ record { state = s; row = most }
  unfolding state_after greatest_row
  mark-end s most e = ap (λ (list : List Next). record { state = state_after (length list) early t s; row = greatest_row most list }) (course-end s e)
