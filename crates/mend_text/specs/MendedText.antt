-- What the program mend writes: the answer line, and behind it for scrolls and then for speeds the written list and a line for each raw entry. Definitions only.
use Rattle.std.specs.Prelude.{ℕ, suc, ◌%◌, ◌≤◌, List, [], ◌∷◌, ◌++◌, map, eqb, length, Float}
use Rattle.std.specs.Float.Ieee.{to_bits}
use Rattle.std.specs.Float.{binary64}
use Rattle.picks.specs.Pick.{pick}
use Rattle.limits.specs.Refusals.{lower}
use Rattle.chart.specs.ChartColumns.{ListColumns, SpeedColumns}
use Rattle.text_page.specs.Digits.{decimal_text}
use Rattle.text_page.specs.Page.{Wrote, WroteWhole}
use Rattle.tidy_speeds_entries.specs.Speed.{SpeedEntry}
use Rattle.tidy_speeds_entries.specs.LaidSpeeds.{ratio_of, delay_of, unit_of}
use Rattle.report_form.specs.declared.Reading.{Reading}
use Rattle.report_form.specs.Form.{start, read_on, answer_of}
use Rattle.report_form.specs.Text.{Entry, pair, speed, scroll, entry_lines}
use Rattle.report_form.specs.ReadColumns.{entries_counted, counts_read, chart_read}
use Rattle.report_text.specs.Output.{answer_line, front_list, front_speeds}
use Rattle.mend_scrolls.specs.MendedScrolls.{mended_scrolls, scroll_fates, scroll_tests}
use Rattle.mend_speeds.specs.MendedSpeeds.{mended_speeds, speed_fates, speed_tests}

-- ---- lines

-- an entry as the input's form has it, its numbers by their patterns; a unit that is taken is its own digit
abbrev pub form_scroll : Float × Float → Entry
form_scroll e = pair scroll (to_bits binary64 e.0) (to_bits binary64 e.1)

abbrev pub form_speed : SpeedEntry → Entry
form_speed e = speed (to_bits binary64 e.0) (to_bits binary64 (ratio_of e)) (to_bits binary64 (delay_of e)) (unit_of e % 10)

-- kept=, replaced= or merged=, by a fate's byte
abbrev pub fate_word : ℕ → List ℕ
fate_word fate =
    pick (eqb fate 0) (107 ∷ 101 ∷ 112 ∷ 116 ∷ 61 ∷ [])
    (pick (eqb fate 1) (114 ∷ 101 ∷ 112 ∷ 108 ∷ 97 ∷ 99 ∷ 101 ∷ 100 ∷ 61 ∷ []) (109 ∷ 101 ∷ 114 ∷ 103 ∷ 101 ∷ 100 ∷ 61 ∷ []))

-- a fate, and the position of its entry
unfoldable pub fate_line : (position fate : ℕ) → List ℕ
fate_line position fate = fate_word fate ++ (decimal_text position ++ (10 ∷ []))

-- a line for each, positions from one on
unfoldable pub fate_lines : (position : ℕ) → List ℕ → List ℕ
fate_lines position [] = []
fate_lines position (fate ∷ fates) = fate_line position fate ++ fate_lines (suc position) fates

-- ---- lists

abbrev pub scrolls_text : ListColumns → List ℕ
scrolls_text scrolls = entry_lines (map form_scroll (mended_scrolls scrolls)) ++ fate_lines 0 (scroll_fates scrolls)

abbrev pub speeds_text : SpeedColumns → List ℕ
speeds_text speeds = entry_lines (map form_speed (mended_speeds speeds)) ++ fate_lines 0 (speed_fates speeds)

-- the lower of both lists' numbers, 1 to 4
abbrev pub mend_number : ListColumns → SpeedColumns → ℕ
mend_number scrolls speeds = lower (scroll_tests scrolls) (speed_tests speeds)

-- THE ANSWER to both lists: a refusal is its number only
unfoldable pub mended_text : ListColumns → SpeedColumns → List ℕ
mended_text scrolls speeds = answer_line (mend_number scrolls speeds) ++ pick (eqb (mend_number scrolls speeds) 0) (scrolls_text scrolls ++ speeds_text speeds) []

-- of what was read: the input's own number first; every other list is passed over
unfoldable pub mend_text : Reading → (counts : List ℕ) → ListColumns → SpeedColumns → List ℕ
mend_text reading counts scrolls speeds =
    pick (eqb (answer_of reading counts) 0)
    (mended_text (front_list (entries_counted counts 7) scrolls) (front_speeds (entries_counted counts 6) speeds))
    (answer_line (answer_of reading counts))

-- of an input's bytes
unfoldable pub mend_of : List ℕ → List ℕ
mend_of input = mend_text (read_on start input) (counts_read input) (chart_read input).scrolls (chart_read input).speeds

-- The one outcome of writing an answer from a page's first byte on; a page of 41,000 bytes holds every one whole.
pub record MendTold (text : List ℕ) (end : ℕ) (old new : List ℕ) : Type 0 where
  pub wrote : Wrote text 0 end old new
  pub whole : 41000 ≤ length old → WroteWhole text end old new
