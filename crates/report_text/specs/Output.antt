-- What the report program writes. Definitions only.
use Rattle.std.specs.Prelude.{ℕ, ◌+◌, ◌%◌, List, [], ◌∷◌, ◌++◌, take, Float}
use Rattle.std.specs.Float.Ieee.{to_bits}
use Rattle.std.specs.Float.{binary32}
use Rattle.chart.specs.ChartColumns.{ListColumns, list_columns, SpeedColumns, speed_columns, ChartColumns, ChartRoom}
use Rattle.ieee_patterns.specs.Hex.{hex_text}
use Rattle.text_page.specs.Digits.{decimal_text}
use Rattle.report_form.specs.Text.{Pair, bpm, stop, delay, warp, scroll, fake, pair_word, speed_word}

-- an f32: the eight digits of its pattern
abbrev pub number : Float → List ℕ
number x = hex_text 8 (to_bits binary32 x)

-- answer=, and a line feed
unfoldable pub answer_line : ℕ → List ℕ
answer_line n = (97 ∷ 110 ∷ 115 ∷ 119 ∷ 101 ∷ 114 ∷ 61 ∷ []) ++ (decimal_text n ++ (10 ∷ []))

-- offset=
unfoldable pub offset_line : Float → List ℕ
offset_line offset = (111 ∷ 102 ∷ 102 ∷ 115 ∷ 101 ∷ 116 ∷ 61 ∷ []) ++ (number offset ++ (10 ∷ []))

-- the word of a list as in the input, and the equals sign
abbrev pub named : Pair → List ℕ
named list = pair_word list ++ (61 ∷ [])

-- a line of a list of two columns: its word with the equals sign, the beat, a comma, the value
unfoldable pub pair_line : List ℕ → Float → Float → List ℕ
pair_line word beat value = word ++ (number beat ++ ((44 ∷ []) ++ (number value ++ (10 ∷ []))))

unfoldable pub pair_lines : List ℕ → List Float → List Float → List ℕ
pair_lines word [] values = []
pair_lines word (beat ∷ beats) [] = []
pair_lines word (beat ∷ beats) (value ∷ values) = pair_line word beat value ++ pair_lines word beats values

-- a speed's line: beat, ratio, delay and the unit's one digit
unfoldable pub speed_line : Float → Float → Float → ℕ → List ℕ
speed_line beat ratio wait unit =
    (speed_word ++ (61 ∷ [])) ++
    (number beat ++ ((44 ∷ []) ++ (number ratio ++ ((44 ∷ []) ++ (number wait ++ ((44 ∷ []) ++ (((48 + unit % 10) ∷ []) ++ (10 ∷ []))))))))

unfoldable pub speed_lines : List Float → List Float → List Float → List ℕ → List ℕ
speed_lines [] ratios waits units = []
speed_lines (beat ∷ beats) [] waits units = []
speed_lines (beat ∷ beats) (ratio ∷ ratios) [] units = []
speed_lines (beat ∷ beats) (ratio ∷ ratios) (wait ∷ waits) [] = []
speed_lines (beat ∷ beats) (ratio ∷ ratios) (wait ∷ waits) (unit ∷ units) = speed_line beat ratio wait unit ++ speed_lines beats ratios waits units

-- a warp's line: beat, length and the one digit of its mark
unfoldable pub warp_line : Float → Float → ℕ → List ℕ
warp_line beat size mark = named warp ++ (number beat ++ ((44 ∷ []) ++ (number size ++ ((44 ∷ []) ++ (((48 + mark % 10) ∷ []) ++ (10 ∷ []))))))

unfoldable pub warp_lines : List Float → List Float → List ℕ → List ℕ
warp_lines [] sizes marks = []
warp_lines (beat ∷ beats) [] marks = []
warp_lines (beat ∷ beats) (size ∷ sizes) [] = []
warp_lines (beat ∷ beats) (size ∷ sizes) (mark ∷ marks) = warp_line beat size mark ++ warp_lines beats sizes marks

-- warped=, the rows that warps pass over
unfoldable pub warped_line : ℕ → List ℕ
warped_line rows = (119 ∷ 97 ∷ 114 ∷ 112 ∷ 101 ∷ 100 ∷ 61 ∷ []) ++ (decimal_text rows ++ (10 ∷ []))

-- moved=, the entries that were off the grid
unfoldable pub moved_line : ℕ → List ℕ
moved_line moved = (109 ∷ 111 ∷ 118 ∷ 101 ∷ 100 ∷ 61 ∷ []) ++ (decimal_text moved ++ (10 ∷ []))

-- the lines of a list of two columns, of the warps with their marks, and of the speeds
abbrev pub list_lines : Pair → ListColumns → List ℕ
list_lines kind list = pair_lines (named kind) list.beats list.values

abbrev pub all_warps : ListColumns → (marks : List ℕ) → List ℕ
all_warps warps marks = warp_lines warps.beats warps.values marks

abbrev pub all_speeds : SpeedColumns → List ℕ
all_speeds speeds = speed_lines speeds.beats speeds.ratios speeds.delays speeds.units

-- THE LISTS: offset, the seven lists in order, each warp with its mark, warped rows, entries off the grid
unfoldable pub lists_text : Float → (warped moved : ℕ) → (marks : List ℕ) → ChartColumns → List ℕ
lists_text offset warped moved marks lists =
    offset_line offset
    ++ (list_lines bpm lists.tempos
    ++ (list_lines stop lists.stops
    ++ (list_lines delay lists.delays
    ++ (all_warps lists.warps marks
    ++ (all_speeds lists.speeds
    ++ (list_lines scroll lists.scrolls
    ++ (list_lines fake lists.fakes
    ++ (warped_line warped
    ++ moved_line moved))))))))

-- ---- the first entries of a list, and of each list as many as are counted
abbrev pub front_list : ℕ → ListColumns → ListColumns
front_list count list = list_columns (take count list.beats) (take count list.values)

abbrev pub front_speeds : ℕ → SpeedColumns → SpeedColumns
front_speeds count list = speed_columns (take count list.beats) (take count list.ratios) (take count list.delays) (take count list.units)

abbrev pub front_lists : ChartRoom → ChartColumns → ChartColumns
front_lists counts lists = record {
  tempos = front_list counts.tempos lists.tempos;
  stops = front_list counts.stops lists.stops;
  delays = front_list counts.delays lists.delays;
  warps = front_list counts.warps lists.warps;
  speeds = front_speeds counts.speeds lists.speeds;
  scrolls = front_list counts.scrolls lists.scrolls;
  fakes = front_list counts.fakes lists.fakes;
}
