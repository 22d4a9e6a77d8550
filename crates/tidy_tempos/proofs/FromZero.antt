-- The first kept entry moved to beat 0: the other columns and the length stay, and there is a first one. Assumes nothing.
use Prim.Native.Nat.{◌<◌}
use mathlib.Core.Path.{◌≡◌, refl}
use mathlib.Core.Bool.{Bool, true, false}
use mathlib.Core.List.{List, [], ◌∷◌, map}
use native.Mathlib.Omega.{arith}
use lib.ListN.{length, set}
use lib.Ieee.{Float, nan, inf, fin, eq, ne}
use Rattle.ieee.specs.Constants.{plus_zero}
use Rattle.picks.specs.Pick.{pick}
use Rattle.order.specs.Order.{laid}
use Rattle.order.specs.Entries.{first, second}
use Rattle.tidy_tempos.specs.TempoTidying.{from_zero_else}
use Rattle.tidy_tempos.specs.inside.Keeping.{last_of_beat, kept_after}

pub from_zero_length : (list : List (Float × Float)) → length (from_zero_else list) ≡ length list
unfolding from_zero_else
from_zero_length [] = refl
from_zero_length (e ∷ list) = refl

pub from_zero_second : (list : List (Float × Float)) → map second (from_zero_else list) ≡ map second list
unfolding from_zero_else
from_zero_second [] = refl
from_zero_second (e ∷ list) = refl

pub from_zero_first : (list : List (Float × Float)) (old : List Float) → 0 < length list → set (laid (map first list) old) 0 plus_zero ≡ laid (map first (from_zero_else list)) old
unfolding from_zero_else laid
from_zero_first [] old h = absurd (omega arith)
from_zero_first (e ∷ list) old h = refl

other_than_nan : (x : Float) → ne x nan ≡ true
unfolding ne eq
other_than_nan nan = refl
other_than_nan (inf s) = refl
other_than_nan (fin s m e) = refl

-- there is a first one
pub some-kept : (list : List (Float × Float)) → 0 < length list → 0 < length (kept_after nan list)
unfolding kept_after last_of_beat
some-kept [] h = absurd (omega arith)
some-kept (e ∷ []) h = rw (other_than_nan e.1) (omega arith)
some-kept (e ∷ next ∷ list) h = go (last_of_beat e (next ∷ list)) (some-kept (next ∷ list) (omega arith))
  where
    go : (last : Bool) → 0 < length (kept_after nan (next ∷ list))
        → 0 < length (pick last (pick (ne e.1 nan) (e ∷ kept_after e.1 (next ∷ list)) (kept_after nan (next ∷ list))) (kept_after nan (next ∷ list)))
    go true p = rw (other_than_nan e.1) (omega arith)
    go false p = p

-- a list of one over the front of a room
pub set_first : (x : Float) (old : List Float) → 0 < length old → set old 0 x ≡ laid (x ∷ []) old
unfolding laid
set_first x [] h = absurd (omega arith)
set_first x (y ∷ old) h = refl
