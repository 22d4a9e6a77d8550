-- What the merge holds in hand beside its places. Definitions only.
use Rattle.std.specs.Prelude.{ℕ, false, List, [], length, nat_lt, slice_index_or, Float}
use Rattle.std.specs.Float.{nan, inf, binary32}
use Rattle.std.specs.Float.Ieee.{div}
use Rattle.ieee.specs.Constants.{sixty}
use Rattle.picks.specs.Pick.{pick}
use Rattle.stops_for_sm.specs.Merging.{Sources, Heads, sources}

-- the beat of a list's head, and infinity where none is left
unfoldable pub head_at : List Float → ℕ → Float
head_at beats place = pick (nat_lt place (length beats)) (slice_index_or beats place nan) (inf false)

-- how long a beat lasts at a tempo
abbrev pub seconds_at : List Float → ℕ → Float
seconds_at tempo_values place = div binary32 sixty (slice_index_or tempo_values place nan)

-- stops alone, from a place on
abbrev pub stops_alone : List Float → Sources
stops_alone stops = sources [] [] stops [] [] [] []

abbrev pub at_stop : ℕ → Heads
at_stop place = record { tempo = 0; stop = place; delay = 0; warp = 0 }
