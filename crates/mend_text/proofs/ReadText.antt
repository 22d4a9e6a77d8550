-- The answer to what was read: by the input's own number, or by its lists, which are short; on a page that is large enough it is whole. Assumes nothing.
use Prim.Native.Nat.{ℕ, zero, suc, ◌≤◌}
use mathlib.Core.Path.{◌≡◌, refl, sym, ap, subst, ◌∙◌}
use mathlib.Core.Bool.{Bool, true, false}
use mathlib.Core.List.{List, [], ◌∷◌}
use native.Mathlib.Omega.{arith}
use borrow.Author.Tests.{eq-eqb, ne_eqb, ltb-false}
use lib.Dec.{ltb}
use lib.ListN.{length, take, get_or, length-take}
use lib.Ieee.{Float}
use Rattle.picks.specs.Pick.{pick}
use Rattle.chart.specs.ChartColumns.{ListColumns, list_columns, SpeedColumns, speed_columns}
use Rattle.text_page.specs.Page.{Wrote}
use Rattle.text_page.proofs.Joined.{wrote_as}
use Rattle.text_page.proofs.WholePage.{wrote-whole}
use Rattle.report_form.specs.declared.Reading.{Reading}
use Rattle.report_form.specs.Form.{start, read_on, whole, over, answer_of}
use Rattle.report_form.specs.ReadColumns.{entries_counted, numbers_read, units_read, counts_read}
use Rattle.report_text.specs.Output.{answer_line, front_list, front_speeds}
use Rattle.report_text.proofs.TextSizes.{answer-size}
use Rattle.mend_text.specs.MendedText.{mended_text, mend_text, mend_of, MendTold}
use Rattle.mend_text.proofs.TextSizes.{text-size}

-- ---- an input that is taken counts at most 256 entries a list
head_few : (count : ℕ) (rest : Bool) → pick (ltb 256 count) true rest ≡ false → (count ≤ 256) × (rest ≡ false)
head_few count rest h = by (ltb 256 count) refl h
  where
    by : (t : Bool) → ltb 256 count ≡ t → pick t true rest ≡ false → (count ≤ 256) × (rest ≡ false)
    by true e k = absurd (let z : ◌≡◌ {A = ℕ} 0 1 = cc in omega arith)
    by false e k = (ltb-false 256 count e, k)

not_over : (counts : List ℕ) (i : ℕ) → over counts ≡ false → get_or counts i 0 ≤ 256
unfolding over
not_over [] i h = omega arith
not_over (count ∷ counts) zero h = (head_few count (over counts) h).0
not_over (count ∷ counts) (suc i) h = not_over counts i (head_few count (over counts) h).1

none_over : (w o : Bool) → ◌≡◌ {A = ℕ} (pick w (pick o 1 0) 10) 0 → o ≡ false
none_over true false h = refl
none_over true true h = absurd (omega arith)
none_over false o h = absurd (omega arith)

module _ (reading : Reading) (counts : List ℕ) (h : answer_of reading counts ≡ 0) where
  pub few-counted : (list : ℕ) → entries_counted counts list ≤ 256
  unfolding answer_of
  few-counted list = not_over counts list (none_over (whole reading) (over counts) h)

pub counted-few : {A : Type 0} {front : List A} (n : ℕ) (column : List A) {m : ℕ} → front ≡ take n column → n ≡ m → m ≤ 256 → length front ≤ 256
counted-few n column e c h = omega (arith, ap length e, length-take n column)

front-few : {A : Type 0} (n : ℕ) (column : List A) → n ≤ 256 → length (take n column) ≤ 256
front-few n column h = omega (arith, length-take n column)

-- ---- the text
module _ (reading : Reading) (counts : List ℕ) (scrolls : ListColumns) (speeds : SpeedColumns) where
  refused-text : (answer_of reading counts ≡ 0 → ⊥) → mend_text reading counts scrolls speeds ≡ answer_line (answer_of reading counts)
  unfolding mend_text
  refused-text h = rw (ne_eqb (answer_of reading counts) 0 h)

  taken-text : answer_of reading counts ≡ 0 → mend_text reading counts scrolls speeds ≡ mended_text (front_list (entries_counted counts 7) scrolls) (front_speeds (entries_counted counts 6) speeds)
  unfolding mend_text
  taken-text h = rw (eq-eqb (answer_of reading counts) 0 h)

  -- the fronts of the columns, as they were read
  pub fronts-are : {scroll_count speed_count : ℕ} {front_scroll_beats front_scroll_values front_speed_beats front_speed_ratios front_speed_delays : List Float} {front_speed_units : List ℕ}
      → scroll_count ≡ entries_counted counts 7 → speed_count ≡ entries_counted counts 6
      → front_scroll_beats ≡ take scroll_count scrolls.beats → front_scroll_values ≡ take scroll_count scrolls.values
      → front_speed_beats ≡ take speed_count speeds.beats → front_speed_ratios ≡ take speed_count speeds.ratios
      → front_speed_delays ≡ take speed_count speeds.delays → front_speed_units ≡ take speed_count speeds.units
      → mended_text (list_columns front_scroll_beats front_scroll_values) (speed_columns front_speed_beats front_speed_ratios front_speed_delays front_speed_units)
      ≡ mended_text (front_list (entries_counted counts 7) scrolls) (front_speeds (entries_counted counts 6) speeds)
  fronts-are a b c d e f g h = cc

  module _ {end : ℕ} {old new : List ℕ} where
    pub refused-told : {number : ℕ} → number ≡ answer_of reading counts → (number ≡ 0 → ⊥) → Wrote (answer_line number) 0 end old new → MendTold (mend_text reading counts scrolls speeds) end old new
    refused-told {number} e h w =
        let is = sym (refused-text (λ z. h (e ∙ z)) ∙ ap answer_line (sym e)) in
        let small = answer-size number in
        record { wrote = wrote_as is w; whole = λ room. wrote-whole (omega (arith, ap length is)) (wrote_as is w) }

    pub taken-told : answer_of reading counts ≡ 0 → Wrote (mended_text (front_list (entries_counted counts 7) scrolls) (front_speeds (entries_counted counts 6) speeds)) 0 end old new
        → MendTold (mend_text reading counts scrolls speeds) end old new
    taken-told h w =
        let is = sym (taken-text h) in
        let small = text-size (front_list (entries_counted counts 7) scrolls) (front_speeds (entries_counted counts 6) speeds)
        (front-few (entries_counted counts 7) scrolls.beats (few-counted reading counts h 7)) (front-few (entries_counted counts 6) speeds.beats (few-counted reading counts h 6)) in
        record { wrote = wrote_as is w; whole = λ room. wrote-whole (omega (arith, small, ap length is)) (wrote_as is w) }

-- ---- of bytes, which were read into columns of 256 zeros
pub read-text : (bytes : List ℕ) {reading : Reading} {counts : List ℕ} {scroll_beats scroll_values speed_beats speed_ratios speed_delays : List Float} {speed_units : List ℕ}
    → reading ≡ read_on start bytes → counts ≡ counts_read bytes
    → scroll_beats ≡ numbers_read 7 1 bytes → scroll_values ≡ numbers_read 7 2 bytes
    → speed_beats ≡ numbers_read 6 1 bytes → speed_ratios ≡ numbers_read 6 2 bytes → speed_delays ≡ numbers_read 6 3 bytes → speed_units ≡ units_read bytes
    → mend_text reading counts (list_columns scroll_beats scroll_values) (speed_columns speed_beats speed_ratios speed_delays speed_units) ≡ mend_of bytes
unfolding mend_of
read-text bytes a b c d e f g h = cc

pub told_as : {text other : List ℕ} {end : ℕ} {old new : List ℕ} → text ≡ other → MendTold text end old new → MendTold other end old new
told_as {end = end} {old = old} {new = new} e m = subst (λ (text : List ℕ). MendTold text end old new) e m
