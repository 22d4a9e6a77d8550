-- The tempo list as text: beat=tempo, commas between, each number with six decimals. Bytes are ASCII: 44 is the comma, 61 the equals sign. Definitions only.
use Rattle.std.specs.Prelude.{ℕ, List, [], ◌∷◌, ◌++◌, map, Float}
use Rattle.std.specs.Float.{binary32}
use Rattle.std.specs.Float.Ieee.{mul, div}
use Rattle.std.specs.Float.Ieee.Scale.{finite}
use Rattle.picks.specs.Pick.{pick}
use Rattle.ieee.specs.Constants.{plus_zero32, sixty32}
use Rattle.order.specs.Entries.{entries, first, second}
use Rattle.rows.specs.Rows.{quantized32}
use Rattle.text_decimal.specs.Dec6.{dec6}

-- a tempo as it comes back from beats a second, rounded to f32 on the way there and on the way back; 0 for what is not finite
unfoldable pub roundtrip : Float → Float
roundtrip tempo = pick (finite tempo) (mul binary32 (div binary32 tempo sixty32) sixty32) plus_zero32

-- the beat moved to its row, an equals sign, the tempo
unfoldable pub entry_text : Float × Float → List ℕ
entry_text entry = dec6 (quantized32 (first entry)) ++ ((61 ∷ []) ++ dec6 (roundtrip (second entry)))

-- each text behind a comma
unfoldable pub behind_commas : List (List ℕ) → List ℕ
behind_commas [] = []
behind_commas (text ∷ texts) = 44 ∷ (text ++ behind_commas texts)

unfoldable pub commas_between : List (List ℕ) → List ℕ
commas_between [] = []
commas_between (text ∷ texts) = text ++ behind_commas texts

-- THE TEXT of f32 columns: each entry, in the order given. An f64 list is narrowed, number by number.
unfoldable pub tempo_text : List Float → List Float → List ℕ
tempo_text beats tempos = commas_between (map entry_text (entries beats tempos))
