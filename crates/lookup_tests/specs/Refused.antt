-- The numbers that lookups are refused by. Rows are compared by their keys, which have the order of the rows. Definitions only.
use Rattle.std.specs.Prelude.{ℕ, Bool, true, false, List, [], ◌∷◌, ltb, eqb, get_or, Float}
use Rattle.std.specs.Float.{nan, binary32}
use Rattle.limits.specs.Table.{bad_beat, not_rising}
use Rattle.picks.specs.Pick.{pick}
use Rattle.rows.specs.Rows.{row}
use Rattle.limits.specs.declared.Kind.TheVariants.{Beat, Pause, Value}
use Rattle.limits.specs.declared.Range.{Range}
use Rattle.limits.specs.Numbers.{range_of}
use Rattle.limits.specs.Refusals.{lower, list_number}
use Rattle.rows.specs.RowKey.{row_key}
use Rattle.lookup_tests.specs.LookupLists.{ListColumns, WarpLists, LookupLists, but_fakes}

-- a beat's f32 row, as a key
abbrev pub key_of : Float → ℕ
key_of beat = row_key (row binary32 beat)

-- the key of the entry at a place
abbrev pub key_at : List Float → ℕ → ℕ
key_at beats place = key_of (get_or beats place nan)

-- each row is above the one before it
unfoldable pub is_below : Float → List Float → Bool
is_below beat [] = true
is_below beat (next ∷ beats) = ltb (key_of beat) (key_of next)

unfoldable pub rows_rise : List Float → Bool
rows_rise [] = true
rows_rise (beat ∷ beats) = pick (is_below beat beats) (rows_rise beats) false

-- a list by itself: 1 to 4, and 5 where its rows do not rise
unfoldable pub rising_number : Range → List Float → List Float → ℕ
rising_number value beats values =
    pick (eqb (list_number (range_of Beat) value beats values) 0) (pick (rows_rise beats) 0 not_rising) (list_number (range_of Beat) value beats values)

abbrev pub asked_number : Bool → ℕ
asked_number allowed = pick allowed 0 bad_beat

-- the lowest over the lists that a question takes, and what is asked
abbrev pub warp_number : WarpLists → Bool → ℕ
warp_number lists allowed =
    lower
    (lower
    (rising_number (range_of Pause) lists.stops.beats lists.stops.values)
    (rising_number (range_of Pause) lists.delays.beats lists.delays.values))
    (lower (rising_number (range_of Value) lists.warps.beats lists.warps.values) (asked_number allowed))

abbrev pub fake_number : (fakes : ListColumns) → Bool → ℕ
fake_number fakes allowed = lower (rising_number (range_of Value) fakes.beats fakes.values) (asked_number allowed)

abbrev pub judgable_number : LookupLists → Bool → ℕ
judgable_number lists allowed = lower (warp_number (but_fakes lists) allowed) (fake_number lists.fakes allowed)
