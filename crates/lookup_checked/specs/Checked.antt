-- Lookups into lists that were tested before: what each answers, whatever the lists' order and lengths. Definitions only.
--
-- A search for the beat of the asked row finds a place in a list. The entries before that place count as those at or before the row, and so does
-- the next one where it is on the row as well, a little past its beat. The last that counts is tested; a number that a shorter column lacks is a NaN, which passes no test.
use Rattle.std.specs.Prelude.{ℕ, ◌+◌, Bool, false, not, List, ltb, eqb, ℤ, length, Float}
use Rattle.std.specs.Float.{binary32}
use Rattle.picks.specs.Pick.{pick}
use Rattle.rows.specs.Rows.{beat_of}
use Rattle.rows.specs.RowKey.{row_key}
use Rattle.order_search.specs.Search.{place_of}
use Rattle.lookup_tests.specs.LookupLists.{ListColumns, WarpLists, LookupLists, but_fakes}
use Rattle.lookup_tests.specs.Refused.{key_at}
use Rattle.lookup.specs.Lookups.{of_last, pauses_on, warp_covers, fake_covers}

-- whether there is an entry at a place and it is on a row
unfoldable pub is_on_row : List Float → ℕ → ℕ → Bool
is_on_row beats place key = pick (ltb place (length beats)) (eqb (key_at beats place) key) false

-- ---- the last that counts, by the place that is found and the row's key

-- a warp's or a fake's test of it: one that is past the row's beat covers nothing there
abbrev pub last_covers : (Float → Float → Bool) → ℕ → ℕ → List Float → List Float → Bool
last_covers test place key beats values = pick (is_on_row beats place key) false (of_last test false beats values place)

-- whether it pauses
abbrev pub last_pauses : ℕ → ℕ → List Float → List Float → Bool
last_pauses place key beats values = of_last (pauses_on key) false beats values (pick (is_on_row beats place key) (place + 1) place)

-- ---- the questions, of a row by its beat and its key

abbrev pub paused_by : Float → ℕ → List Float → List Float → Bool
paused_by at key beats values = last_pauses (place_of at beats) key beats values

unfoldable pub fake_by : (fakes : ListColumns) → Float → ℕ → Bool
fake_by fakes at key = last_covers (fake_covers at) (place_of at fakes.beats) key fakes.beats fakes.values

-- no stop and no delay above 0 is on the row
unfoldable pub unpaused_by : (stops delays : ListColumns) → Float → ℕ → Bool
unpaused_by stops delays at key = pick (paused_by at key stops.beats stops.values) false (not (paused_by at key delays.beats delays.values))

-- in the last warp, and not paused
unfoldable pub warped_by : WarpLists → Float → ℕ → Bool
warped_by lists at key =
    pick
    (last_covers (warp_covers at) (place_of at lists.warps.beats) key lists.warps.beats lists.warps.values)
    (unpaused_by lists.stops lists.delays at key)
    false

-- neither warped nor fake
unfoldable pub judgable_by : LookupLists → Float → ℕ → Bool
judgable_by lists at key = pick (warped_by (but_fakes lists) at key) false (not (fake_by lists.fakes at key))

-- a question, of a row
abbrev pub at_row : (Float → ℕ → Bool) → ℤ → Bool
at_row question asked = question (beat_of binary32 asked) (row_key asked)
