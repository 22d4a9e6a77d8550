-- The text of entries, as the form has it: what reading is held against. Definitions only.
use Rattle.std.specs.Prelude.{ℕ, ◌+◌, Bool, List, [], ◌∷◌, ◌++◌}
use Rattle.picks.specs.Pick.{pick}
use Rattle.ieee_patterns.specs.Hex.{hex_text}

-- the lists whose entries are a beat and a value
pub data Pair : Type 0 where
  bpm : Pair
  stop : Pair
  delay : Pair
  warp : Pair
  scroll : Pair
  fake : Pair

-- an entry, its numbers by their patterns; the last of a speed is its unit
pub data Entry : Type 0 where
  pair : Pair → ℕ → ℕ → Entry
  speed : ℕ → ℕ → ℕ → ℕ → Entry

abbrev pub pair_list : Pair → ℕ
pair_list bpm = 2
pair_list stop = 3
pair_list delay = 4
pair_list warp = 5
pair_list scroll = 7
pair_list fake = 8

abbrev pub entry_list : Entry → ℕ
entry_list (pair of beat value) = pair_list of
entry_list (speed beat ratio wait unit) = 6

-- the word that a line begins with, by its list
abbrev pub pair_word : Pair → List ℕ
pair_word bpm = 98 ∷ 112 ∷ 109 ∷ []
pair_word stop = 115 ∷ 116 ∷ 111 ∷ 112 ∷ []
pair_word delay = 100 ∷ 101 ∷ 108 ∷ 97 ∷ 121 ∷ []
pair_word warp = 119 ∷ 97 ∷ 114 ∷ 112 ∷ []
pair_word scroll = 115 ∷ 99 ∷ 114 ∷ 111 ∷ 108 ∷ 108 ∷ []
pair_word fake = 102 ∷ 97 ∷ 107 ∷ 101 ∷ []

abbrev pub speed_word : List ℕ
speed_word = 115 ∷ 112 ∷ 101 ∷ 101 ∷ 100 ∷ []

-- an entry's line: word, equals sign, numbers with commas between, line feed
unfoldable pub entry_line : Entry → List ℕ
entry_line (pair of beat value) = pair_word of ++ (61 ∷ (hex_text 16 beat ++ (44 ∷ (hex_text 16 value ++ (10 ∷ [])))))
entry_line (speed beat ratio wait unit) =
    speed_word ++ (61 ∷ (hex_text 16 beat ++ (44 ∷ (hex_text 16 ratio ++ (44 ∷ (hex_text 16 wait ++ (44 ∷ ((unit + 48) ∷ 10 ∷ []))))))))

unfoldable pub entry_lines : List Entry → List ℕ
entry_lines [] = []
entry_lines (entry ∷ entries) = entry_line entry ++ entry_lines entries

-- format=sm or format=ssc
abbrev pub format_line : Bool → List ℕ
format_line ssc = 102 ∷ 111 ∷ 114 ∷ 109 ∷ 97 ∷ 116 ∷ 61 ∷ pick ssc (115 ∷ 115 ∷ 99 ∷ 10 ∷ []) (115 ∷ 109 ∷ 10 ∷ [])

-- a whole input
abbrev pub text : Bool → List Entry → List ℕ
text ssc entries = format_line ssc ++ entry_lines entries
