-- The changes of tempo among entries whose beats never fall, or never rise, by the tests that the code makes. Definitions only.
use Rattle.std.specs.Prelude.{ℕ, zero, suc, ◌+◌, Bool, true, false, not, List, [], ◌∷◌, ltb, length, get_or, Float}
use Rattle.std.specs.Float.{nan}
use Rattle.std.specs.Float.Ieee.{eq, ne, lt}
use Rattle.picks.specs.Pick.{pick}

-- whether an entry is the last of its beat, before the entries of a list
unfoldable pub last_of_beat : Float × Float → List (Float × Float) → Bool
last_of_beat e [] = true
last_of_beat e (next ∷ list) = not (eq e.0 next.0)

-- of each beat the last entry, where its value is not that of the last kept one. After a NaN every value is kept
unfoldable pub kept_after : Float → List (Float × Float) → List (Float × Float)
kept_after value [] = []
kept_after value (e ∷ list) = pick (last_of_beat e list) (pick (ne e.1 value) (e ∷ kept_after e.1 list) (kept_after value list)) (kept_after value list)

-- whether the entry at i is kept
unfoldable pub keeps : List Float → List Float → ℕ → Float → Bool
keeps beats tempos i value =
    pick (ltb (i + 1) (length beats))
    (pick (eq (get_or beats i nan) (get_or beats (i + 1) nan)) false (ne (get_or tempos i nan) value))
    (ne (get_or tempos i nan) value)

-- the same of entries whose beats never rise, the first n of them from the last to the first
unfoldable pub kept_back_to : List Float → List Float → ℕ → Float → List (Float × Float)
kept_back_to beats tempos zero value = []
kept_back_to beats tempos (suc i) value =
    pick (keeps beats tempos i value) ((get_or beats i nan, get_or tempos i nan) ∷ kept_back_to beats tempos i (get_or tempos i nan)) (kept_back_to beats tempos i value)

-- the next beat is neither below nor the same
unfoldable pub apart : Float → Float → Bool
apart beat next = pick (lt next beat) false (not (eq beat next))

-- the next beat is not above
abbrev pub no_rise_to : Float → Float → Bool
no_rise_to beat next = not (lt beat next)

-- the next tempo is another
abbrev pub changes_to : Float → Float → Bool
changes_to tempo next = ne next tempo
