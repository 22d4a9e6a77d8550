-- Note data as bytes: its measures, and how many rows each has. Definitions only.
use Rattle.std.specs.Prelude.{ℕ, ◌+◌, Bool, not, ◌||◌, List, [], ◌∷◌, eqb}
use Rattle.picks.specs.Pick.{pick}
use Rattle.limits.specs.Numbers.{every}

-- ---- bytes in parts, with a stop between each two: one part more than there are stops

-- the bytes before the first stop, or all
unfoldable pub first_part : ℕ → List ℕ → List ℕ
first_part stop [] = []
first_part stop (byte ∷ bytes) = pick (eqb byte stop) [] (byte ∷ first_part stop bytes)

-- behind each stop another part begins
unfoldable pub later_parts : ℕ → List ℕ → List (List ℕ)
later_parts stop [] = []
later_parts stop (byte ∷ bytes) = pick (eqb byte stop) (first_part stop bytes ∷ later_parts stop bytes) (later_parts stop bytes)

unfoldable pub parts : ℕ → List ℕ → List (List ℕ)
parts stop bytes = first_part stop bytes ∷ later_parts stop bytes

-- ---- measures and rows

abbrev pub comma : ℕ
comma = 44

-- a comma stands between two measures
abbrev pub measures : List ℕ → List (List ℕ)
measures note_data = parts comma note_data

abbrev pub line_feed : ℕ
line_feed = 10

-- a tab, a line feed, a form feed, a carriage return or a space; a vertical tab, 11, is none
unfoldable pub is_blank : ℕ → Bool
is_blank byte = eqb byte 9 || eqb byte 10 || eqb byte 12 || eqb byte 13 || eqb byte 32

-- one byte is not blank
abbrev pub shows : List ℕ → Bool
shows row = not (every is_blank row)

abbrev pub one_if : Bool → ℕ
one_if test = pick test 1 0

unfoldable pub how_many_show : List (List ℕ) → ℕ
how_many_show [] = 0
how_many_show (row ∷ rest) = one_if (shows row) + how_many_show rest

-- a line feed stands between two rows of a measure, and a blank row is not counted
unfoldable pub rows_of : List ℕ → ℕ
rows_of measure = how_many_show (parts line_feed measure)

-- the rows of some measures
unfoldable pub all_rows : List (List ℕ) → ℕ
all_rows [] = 0
all_rows (measure ∷ rest) = rows_of measure + all_rows rest
