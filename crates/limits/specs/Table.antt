-- The table of refusals: the number that each reason is answered by; 0 is none. And how long a list may be. Definitions only.
use Rattle.std.specs.Prelude.{ℕ}

-- a list has more entries than a list may have
abbrev pub too_long_number : ℕ
too_long_number = 1

-- columns of one list differ in length, or a flat list is odd
abbrev pub uneven : ℕ
uneven = 2

-- a beat, or an asked beat or row, is beyond its limit
abbrev pub bad_beat : ℕ
bad_beat = 3

-- a value, a unit or an offset is beyond its limit
abbrev pub bad_value : ℕ
bad_value = 4

-- rows do not rise strictly, the tempos do not start at beat 0, the scrolls that a beat is drawn by fall, or a mark is not that of its timing
abbrev pub not_rising : ℕ
not_rising = 5

-- scrolls or speeds: an entry is still to be placed, and the kept list falls
abbrev pub kept_falls : ℕ
kept_falls = 6

-- a result is longer than its room
abbrev pub no_room : ℕ
no_room = 7

-- stops for SM: a warp and no tempo
abbrev pub no_tempo_given : ℕ
no_tempo_given = 8

-- a cursor that no question left behind
abbrev pub bad_cursor : ℕ
bad_cursor = 9

-- the report's input is not of its form
abbrev pub bad_text : ℕ
bad_text = 10

-- the most entries that a list may have
abbrev pub most_entries : ℕ
most_entries = 1024
