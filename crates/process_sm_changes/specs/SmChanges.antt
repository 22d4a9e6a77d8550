-- A list of raw tempos or stops as SM's walk takes it: f32, without zeros, in order by beat. Definitions only.
use Rattle.std.specs.Prelude.{ℕ, Bool, false, not, List, ◌≡◌, length, Float}
use Rattle.std.specs.Float.{binary32}
use Rattle.std.specs.Float.Ieee.{eq}
use Rattle.std.specs.Float.Ieee.Scale.{finite}
use Rattle.ieee.specs.Constants.{plus_zero}
use Rattle.picks.specs.Pick.{pick}
use Rattle.ieee.specs.Narrowing.{narrow}
use Rattle.order.specs.Order.{ordered}
use Rattle.order.specs.Entries.{entries}
use Rattle.order.specs.FloatKey.{float_key}
use Rattle.columns.specs.declared.Outcome.{Outcome}
use Rattle.columns.specs.Kept.{kept}
use Rattle.columns.specs.Laying.{room_number, LaidList}
use Rattle.process_raw.specs.RawLists.{raw_number, room_for}

-- two finite numbers, and a value that is not 0
unfoldable pub stays_sm : Float × Float → Bool
stays_sm e = pick (finite e.0) (pick (finite e.1) (not (eq e.1 plus_zero)) false) false

abbrev pub narrowed : Float × Float → Float × Float
narrowed e = (narrow e.0, narrow e.1)

-- the entries that stay, narrowed, in the order given
abbrev pub stayed_sm : List Float → List Float → List (Float × Float)
stayed_sm beats values = kept stays_sm narrowed (entries beats values)

-- an f32 beat as a key: -0 and +0 are one beat
abbrev pub beat_key32 : Float × Float → ℕ
beat_key32 e = float_key binary32 e.0

-- and in the stable order by beat, as narrowing leaves it
abbrev pub sm_changes : List Float → List Float → List (Float × Float)
sm_changes beats values = ordered beat_key32 (stayed_sm beats values)

-- The one outcome: the number by the list's own tests, then 7 where there is no room for as many as are given; under it the changes.
pub record ChangesLaid (beats values : List Float) (outcome : Outcome) (beats_old beats_new values_old values_new : List Float) : Type 0 where
  pub number : outcome.number ≡ room_number (raw_number beats values) (length beats) (room_for beats_old values_old)
  pub changes : LaidList outcome.number (sm_changes beats values) outcome.count beats_old beats_new values_old values_new
