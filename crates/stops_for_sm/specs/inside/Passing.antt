-- What one turn leaves of a list, and of the tempo in force. Definitions only.
use Rattle.std.specs.Prelude.{◌≡◌, ℕ, ◌+◌, List, slice_index_or, Float}
use Rattle.std.specs.Float.{nan}
use Rattle.stops_for_sm.specs.Merging.{meets, plus, forward, tempo_place, less, moved_on}
use Rattle.stops_for_sm.specs.inside.InHand.{head_at, seconds_at}
use Rattle.stops_for_sm.specs.declared.Passed.{Passed}
use Rattle.stops_for_sm.specs.declared.Pace.{Pace}
use Rattle.stops_for_sm.specs.declared.Warped.{Warped}

-- a list whose head is met moves on, and its value is added to the sum
pub record ListPassed (beats : List Float) (place by : ℕ) (beat sum value : Float) (after : Passed) : Type 0 where
  pub place_is : after.place ≡ moved_on (meets beats place beat) place by
  pub sum_is : after.sum ≡ plus (meets beats place beat) sum value
  pub head_is : after.head ≡ head_at beats after.place

-- the tempo in force at a beat, from a place on
pub record PaceReached (tempo_beats tempo_values : List Float) (tempo : ℕ) (beat : Float) (after : Pace) : Type 0 where
  pub tempo_is : after.tempo ≡ forward tempo_beats tempo beat
  pub next_is : after.next ≡ head_at tempo_beats (after.tempo + 1)
  pub seconds_is : after.seconds ≡ seconds_at tempo_values after.tempo

-- a warp that is met takes its time away, by the tempo in force at its beat
pub record WarpPassed (tempo_beats tempo_values warp_beats warp_lengths : List Float) (tempo place : ℕ) (beat sum : Float) (after : Warped) : Type 0 where
  pub tempo_is : after.tempo ≡ tempo_place (meets warp_beats place beat) tempo_beats tempo beat
  pub place_is : after.place ≡ moved_on (meets warp_beats place beat) place 1
  pub sum_is : after.sum ≡ less (meets warp_beats place beat) sum (slice_index_or tempo_values after.tempo nan) (slice_index_or warp_lengths place nan)
  pub next_is : after.next ≡ head_at tempo_beats (after.tempo + 1)
  pub seconds_is : after.seconds ≡ seconds_at tempo_values after.tempo
  pub head_is : after.head ≡ head_at warp_beats after.place
