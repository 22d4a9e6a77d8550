-- Tempo tidying. Definitions only.
use Rattle.std.specs.Prelude.{ℕ, List, [], ◌∷◌, map, Float}
use Rattle.std.specs.Float.{binary64}
use Rattle.std.specs.Float.Ieee.{eq}
use Rattle.ieee.specs.Constants.{plus_zero, sixty}
use Rattle.picks.specs.Pick.{pick}
use Rattle.order.specs.Order.{tidied}
use Rattle.order.specs.Entries.{entries, first, second}
use Rattle.order.specs.FloatKey.{float_key}

-- an entry's beat, as a key: -0 and +0 are one beat
abbrev pub beat_key_of : Float × Float → ℕ
beat_key_of e = float_key binary64 e.0

-- a list without a tempo counts as this one
abbrev pub no_tempo : List (Float × Float)
no_tempo = (plus_zero, sixty) ∷ []

-- the first entry moved to beat 0
unfoldable pub from_zero_else : List (Float × Float) → List (Float × Float)
from_zero_else [] = []
from_zero_else (e ∷ l) = (plus_zero, e.1) ∷ l

-- without each entry whose value equals that of the last kept one
unfoldable pub changes_after : Float → List (Float × Float) → List (Float × Float)
changes_after value [] = []
changes_after value (e ∷ l) = pick (eq e.1 value) (changes_after value l) (e ∷ changes_after e.1 l)

unfoldable pub changes : List (Float × Float) → List (Float × Float)
changes [] = []
changes (e ∷ l) = e ∷ changes_after e.1 l

-- stable order by beat, of equal beats the last, the first at 0, then only changes; (0, 60) where there is none
unfoldable pub tidy_tempos : List Float → List Float → List (Float × Float)
tidy_tempos [] values = no_tempo
tidy_tempos (b ∷ beats) values = changes (from_zero_else (tidied beat_key_of (entries (b ∷ beats) values)))

-- the same of entries
abbrev pub tidied_tempos : List (Float × Float) → List (Float × Float)
tidied_tempos list = tidy_tempos (map first list) (map second list)
