-- How long an answer is: a page can be made large enough. Assumes nothing.
use Prim.Native.Nat.{ℕ, suc, ◌*◌, ◌≤◌}
use mathlib.Core.Path.{◌≡◌, refl}
use mathlib.Core.Bool.{Bool, true, false}
use mathlib.Core.List.{List, [], ◌∷◌, ◌++◌, map}
use native.Mathlib.Omega.{arith}
use lib.Dec.{eqb}
use lib.ListN.{length, length-append}
use lib.Ieee.{Float, to_bits, binary64}
use Rattle.picks.specs.Pick.{pick}
use Rattle.ieee_patterns.specs.Hex.{hex_text}
use Rattle.chart.specs.ChartColumns.{ListColumns, SpeedColumns}
use Rattle.text_page.proofs.DigitSizes.{decimal_size}
use Rattle.tidy_kept.specs.Near.{near_to}
use Rattle.tidy_kept.proofs.ShortestColumn.{many-entries}
use Rattle.tidy_speeds_entries.specs.Speed.{SpeedEntry, near_speed, speeds_in}
use Rattle.tidy_speeds_entries.specs.LaidSpeeds.{ratio_of, delay_of}
use Rattle.tidy_speeds_entries.proofs.SpeedColumns.{many-speeds}
use Rattle.report_form.specs.Text.{Entry, entry_line, entry_lines}
use Rattle.report_text.proofs.TextSizes.{answer-size}
use Rattle.mend_scrolls.specs.MendedScrolls.{scroll_entries, mended_scrolls, scroll_fates}
use Rattle.mend_speeds.specs.MendedSpeeds.{mended_speeds, speed_fates}
use Rattle.mend_text.specs.MendedText.{form_scroll, form_speed, fate_word, fate_line, fate_lines, scrolls_text, speeds_text, mend_number, mended_text}
use Rattle.mend_text.proofs.ListSizes.{few-written, as_many_fates}

-- ---- lines
hex_size : (n : ℕ) → length (hex_text 16 n) ≡ 16
unfolding hex_text
hex_size n = refl

scroll-size : (e : Float × Float) → length (entry_line (form_scroll e)) ≡ 41
unfolding entry_line
scroll-size e = simp length-append (omega (arith, hex_size (to_bits binary64 e.0), hex_size (to_bits binary64 e.1)))

speed-size : (e : SpeedEntry) → length (entry_line (form_speed e)) ≡ 59
unfolding entry_line
speed-size e = simp length-append (omega (arith, hex_size (to_bits binary64 e.0), hex_size (to_bits binary64 (ratio_of e)), hex_size (to_bits binary64 (delay_of e))))

lines-size : {A : Type 0} (form : A → Entry) (n : ℕ) → ((e : A) → length (entry_line (form e)) ≡ n) → (list : List A) → length (entry_lines (map form list)) ≡ n * length list
unfolding entry_lines
lines-size form n so [] = omega arith
lines-size form n so (e ∷ list) = simp length-append (omega (arith, so e, lines-size form n so list))

word_size : (fate : ℕ) → length (fate_word fate) ≤ 9
word_size fate = by (eqb fate 0) (eqb fate 1)
  where
    by : (a b : Bool) → length {A = ℕ} (pick a (107 ∷ 101 ∷ 112 ∷ 116 ∷ 61 ∷ []) (pick b (114 ∷ 101 ∷ 112 ∷ 108 ∷ 97 ∷ 99 ∷ 101 ∷ 100 ∷ 61 ∷ []) (109 ∷ 101 ∷ 114 ∷ 103 ∷ 101 ∷ 100 ∷ 61 ∷ []))) ≤ 9
    by true b = omega arith
    by false true = omega arith
    by false false = omega arith

fate_size : (position fate : ℕ) → length (fate_line position fate) ≤ 30
unfolding fate_line
fate_size position fate = simp length-append (omega (arith, word_size fate, decimal_size 20 position))

fates-size : (at : ℕ) (fates : List ℕ) → length (fate_lines at fates) ≤ 30 * length fates
unfolding fate_lines
fates-size at [] = omega arith
fates-size at (fate ∷ fates) = simp length-append (omega (arith, fate_size at fate, fates-size (suc at) fates))

-- ---- lists of 256 entries at most
scrolls-size : (scrolls : ListColumns) → length scrolls.beats ≤ 256 → length (scrolls_text scrolls) ≤ 18176
scrolls-size scrolls few =
    simp length-append
    (omega (
      arith,
      lines-size form_scroll 41 scroll-size (mended_scrolls scrolls),
      fates-size 0 (scroll_fates scrolls),
      few-written near_to (scroll_entries scrolls),
      as_many_fates near_to (scroll_entries scrolls),
      many-entries scrolls.beats scrolls.values,
    ))

speeds-size : (speeds : SpeedColumns) → length speeds.beats ≤ 256 → length (speeds_text speeds) ≤ 22784
speeds-size speeds few =
    simp length-append
    (omega (
      arith,
      lines-size form_speed 59 speed-size (mended_speeds speeds),
      fates-size 0 (speed_fates speeds),
      few-written near_speed (speeds_in speeds),
      as_many_fates near_speed (speeds_in speeds),
      many-speeds speeds.ratios speeds.delays speeds.units speeds.beats,
    ))

pub text-size : (scrolls : ListColumns) (speeds : SpeedColumns) → length scrolls.beats ≤ 256 → length speeds.beats ≤ 256 → length (mended_text scrolls speeds) ≤ 41000
unfolding mended_text
text-size scrolls speeds a b = simp length-append (omega (arith, answer-size (mend_number scrolls speeds), by (eqb (mend_number scrolls speeds) 0)))
  where
    by : (t : Bool) → length (pick t (scrolls_text scrolls ++ speeds_text speeds) []) ≤ 40960
    by true = omega (arith, length-append (scrolls_text scrolls) (speeds_text speeds), scrolls-size scrolls a, speeds-size speeds b)
    by false = omega arith
