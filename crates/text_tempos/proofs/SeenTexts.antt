-- Texts that the original was seen to write, as theorems on the definition; and that an entry may have 32 bytes, 33 with its comma. Assumes nothing.
use Prim.Native.Nat.{ℕ}
use mathlib.Core.Path.{◌≡◌, refl}
use mathlib.Core.List.{List, [], ◌∷◌, map}
use lib.ListN.{length}
use lib.Ieee.{of_bits, binary64, mul, div, of_int, round}
use Rattle.ieee.specs.Narrowing.{narrow, convert}
use Rattle.ieee.specs.Rounding.{rint, hold}
use Rattle.order.specs.Entries.{entries}
use Rattle.text_page.specs.Digits.{decimal_digits}
use Rattle.text_decimal.specs.Dec6.{lowest_digits, millionths_text, dec6}
use Rattle.text_tempos.specs.TempoText.{roundtrip, entry_text, behind_commas, commas_between, tempo_text}

-- the text of numbers by their f64 patterns
abbrev text_of : List ℕ → List ℕ → List ℕ
text_of beats tempos = tempo_text (map narrow (map (of_bits binary64) beats)) (map narrow (map (of_bits binary64) tempos))

-- (0, 63): the tempo comes back one f32 below, 0.000000=62.999996
pub one_step_below : text_of (0x0000000000000000 ∷ []) (0x404F800000000000 ∷ [])
    ≡ 48 ∷ 46 ∷ 48 ∷ 48 ∷ 48 ∷ 48 ∷ 48 ∷ 48 ∷ 61 ∷ 54 ∷ 50 ∷ 46 ∷ 57 ∷ 57 ∷ 57 ∷ 57 ∷ 57 ∷ 54 ∷ []
unfolding tempo_text commas_between behind_commas entries entry_text roundtrip dec6 lowest_digits decimal_digits millionths_text of_bits narrow convert mul div round rint hold of_int
one_step_below = refl

-- (-0.001, 3/128), (4.01, 120): beats on their rows, half a millionth to the even digit, a comma between: 0.000000=0.023438,4.000000=120.000000
pub beats_on_rows : text_of (0xBF50624DD2F1A9FC ∷ 0x40100A3D70A3D70A ∷ []) (0x3F98000000000000 ∷ 0x405E000000000000 ∷ [])
    ≡ 48 ∷ 46 ∷ 48 ∷ 48 ∷ 48 ∷ 48 ∷ 48 ∷ 48 ∷ 61 ∷ 48 ∷ 46 ∷ 48 ∷ 50 ∷ 51 ∷ 52 ∷ 51 ∷ 56 ∷ 44 ∷ 52 ∷ 46 ∷ 48 ∷ 48 ∷ 48 ∷ 48 ∷ 48 ∷ 48 ∷ 61 ∷ 49 ∷ 50 ∷ 48 ∷ 46 ∷ 48 ∷ 48 ∷ 48 ∷ 48 ∷ 48 ∷ 48 ∷ []
unfolding tempo_text commas_between behind_commas entries entry_text roundtrip dec6 lowest_digits decimal_digits millionths_text of_bits narrow convert mul div round rint hold of_int
beats_on_rows = refl

-- (-0, -0): the sign stays at a tempo, and a beat has none, 0.000000=-0.000000
pub zeros : text_of (0x8000000000000000 ∷ []) (0x8000000000000000 ∷ [])
    ≡ 48 ∷ 46 ∷ 48 ∷ 48 ∷ 48 ∷ 48 ∷ 48 ∷ 48 ∷ 61 ∷ 45 ∷ 48 ∷ 46 ∷ 48 ∷ 48 ∷ 48 ∷ 48 ∷ 48 ∷ 48 ∷ []
unfolding tempo_text commas_between behind_commas entries entry_text roundtrip dec6 lowest_digits decimal_digits millionths_text of_bits narrow convert mul div round rint hold of_int
zeros = refl

-- (0, -inf), and so every tempo that is not finite, 0.000000=0.000000
pub not_finite : text_of (0x0000000000000000 ∷ []) (0xFFF0000000000000 ∷ [])
    ≡ 48 ∷ 46 ∷ 48 ∷ 48 ∷ 48 ∷ 48 ∷ 48 ∷ 48 ∷ 61 ∷ 48 ∷ 46 ∷ 48 ∷ 48 ∷ 48 ∷ 48 ∷ 48 ∷ 48 ∷ []
unfolding tempo_text commas_between behind_commas entries entry_text roundtrip dec6 lowest_digits decimal_digits millionths_text of_bits narrow convert mul div round rint hold of_int
not_finite = refl

-- (-65536, -2 ^ 30): as long as an entry of a list that is taken can be, -65536.000000=-1073741824.000000
pub longest-entry : length (text_of (0xC0F0000000000000 ∷ []) (0xC1D0000000000000 ∷ [])) ≡ 32
unfolding tempo_text commas_between behind_commas entries entry_text roundtrip dec6 lowest_digits decimal_digits millionths_text of_bits narrow convert mul div round rint hold of_int
longest-entry = refl
