-- How long the report's lines are, and its lists together: a page can be made large enough. Assumes nothing.
use Prim.Native.Nat.{ℕ, zero, suc, ◌+◌, ◌*◌, ◌≤◌}
use mathlib.Core.Path.{◌≡◌, refl, ap}
use mathlib.Core.List.{List, [], ◌∷◌, ◌++◌}
use native.Mathlib.Omega.{arith}
use lib.ListN.{length, length-append}
use lib.Ieee.{Float, to_bits, binary32}
use Rattle.ieee_patterns.specs.Hex.{hex_text}
use Rattle.chart.specs.ChartColumns.{ChartColumns}
use Rattle.report_form.specs.Text.{bpm, stop, delay, scroll, fake}
use Rattle.text_page.specs.Digits.{decimal_digits, decimal_text}
use Rattle.text_page.proofs.DigitSizes.{decimal_size}
use Rattle.report_text.specs.Output.{number, answer_line, offset_line, named, pair_line, pair_lines, speed_line, speed_lines, warp_line, warp_lines, warped_line, moved_line, lists_text}

-- at most 256 entries in each list
pub record FewEach (lists : ChartColumns) : Type 0 where
  pub tempos : length lists.tempos.beats ≤ 256
  pub stops : length lists.stops.beats ≤ 256
  pub delays : length lists.delays.beats ≤ 256
  pub warps : length lists.warps.beats ≤ 256
  pub speeds : length lists.speeds.beats ≤ 256
  pub scrolls : length lists.scrolls.beats ≤ 256
  pub fakes : length lists.fakes.beats ≤ 256

hex_size : (k n : ℕ) → length (hex_text k n) ≡ k
unfolding hex_text
hex_size zero n = refl
hex_size (suc k) n = ap suc (hex_size k n)

number_size : (x : Float) → length (number x) ≡ 8
number_size x = hex_size 8 (to_bits binary32 x)

-- a word, digits, a line feed
line_size : (word digits : List ℕ) → length (word ++ (digits ++ (10 ∷ []))) ≡ length word + length digits + 1
line_size word digits = simp length-append (omega arith)

pub answer-size : (n : ℕ) → length (answer_line n) ≤ 28
unfolding answer_line
answer-size n = omega (arith, line_size (97 ∷ 110 ∷ 115 ∷ 119 ∷ 101 ∷ 114 ∷ 61 ∷ []) (decimal_text n), decimal_size 20 n)

-- of a chart that is taken it says answer=0
pub taken_answer_size : length (answer_line 0) ≡ 9
unfolding answer_line decimal_digits
taken_answer_size = refl

offset-size : (offset : Float) → length (offset_line offset) ≡ 16
unfolding offset_line
offset-size offset = omega (arith, line_size (111 ∷ 102 ∷ 102 ∷ 115 ∷ 101 ∷ 116 ∷ 61 ∷ []) (number offset), number_size offset)

warped-size : (rows : ℕ) → length (warped_line rows) ≤ 28
unfolding warped_line
warped-size rows = omega (arith, line_size (119 ∷ 97 ∷ 114 ∷ 112 ∷ 101 ∷ 100 ∷ 61 ∷ []) (decimal_text rows), decimal_size 20 rows)

moved-size : (moved : ℕ) → length (moved_line moved) ≤ 27
unfolding moved_line
moved-size moved = omega (arith, line_size (109 ∷ 111 ∷ 118 ∷ 101 ∷ 100 ∷ 61 ∷ []) (decimal_text moved), decimal_size 20 moved)

pair_size : (word : List ℕ) (beat value : Float) → length (pair_line word beat value) ≡ length word + 18
unfolding pair_line
pair_size word beat value = simp length-append (omega (arith, number_size beat, number_size value))

pairs-size : (word : List ℕ) (beats values : List Float) → length (pair_lines word beats values) ≤ (length word + 18) * length beats
unfolding pair_lines
pairs-size word [] values = omega arith
pairs-size word (beat ∷ beats) [] = omega arith
pairs-size word (beat ∷ beats) (value ∷ values) =
    simp length-append (omega (arith, pair_size word beat value, pairs-size word beats values))

speed-size : (beat ratio wait : Float) (unit : ℕ) → length (speed_line beat ratio wait unit) ≡ 35
unfolding speed_line
speed-size beat ratio wait unit = simp length-append (omega (arith, number_size beat, number_size ratio, number_size wait))

speeds-size : (beats ratios waits : List Float) (units : List ℕ) → length (speed_lines beats ratios waits units) ≤ 35 * length beats
unfolding speed_lines
speeds-size [] ratios waits units = omega arith
speeds-size (beat ∷ beats) [] waits units = omega arith
speeds-size (beat ∷ beats) (ratio ∷ ratios) [] units = omega arith
speeds-size (beat ∷ beats) (ratio ∷ ratios) (wait ∷ waits) [] = omega arith
speeds-size (beat ∷ beats) (ratio ∷ ratios) (wait ∷ waits) (unit ∷ units) =
    simp length-append (omega (arith, speed-size beat ratio wait unit, speeds-size beats ratios waits units))

warp-size : (beat size : Float) (mark : ℕ) → length (warp_line beat size mark) ≡ 25
unfolding warp_line
warp-size beat size mark = simp length-append (omega (arith, number_size beat, number_size size))

warps-size : (beats sizes : List Float) (marks : List ℕ) → length (warp_lines beats sizes marks) ≤ 25 * length beats
unfolding warp_lines
warps-size [] sizes marks = omega arith
warps-size (beat ∷ beats) [] marks = omega arith
warps-size (beat ∷ beats) (size ∷ sizes) [] = omega arith
warps-size (beat ∷ beats) (size ∷ sizes) (mark ∷ marks) = simp length-append (omega (arith, warp-size beat size mark, warps-size beats sizes marks))

-- lists of 256 entries at most
pub lists-size : (offset : Float) (warped moved : ℕ) (marks : List ℕ) (lists : ChartColumns) → FewEach lists → length (lists_text offset warped moved marks lists) ≤ 45383
unfolding lists_text
lists-size offset warped moved marks lists few =
    simp length-append
    (omega (
      arith,
      few.tempos,
      few.stops,
      few.delays,
      few.warps,
      few.speeds,
      few.scrolls,
      few.fakes,
      offset-size offset,
      pairs-size (named bpm) lists.tempos.beats lists.tempos.values,
      pairs-size (named stop) lists.stops.beats lists.stops.values,
      pairs-size (named delay) lists.delays.beats lists.delays.values,
      warps-size lists.warps.beats lists.warps.values marks,
      speeds-size lists.speeds.beats lists.speeds.ratios lists.speeds.delays lists.speeds.units,
      pairs-size (named scroll) lists.scrolls.beats lists.scrolls.values,
      pairs-size (named fake) lists.fakes.beats lists.fakes.values,
      warped-size warped,
      moved-size moved,
    ))
