-- THE REPORT OF A TEXT is the report of its entries, and every input is told by its report: the text of entries in order, or 10. Assumes nothing.
use Prim.Native.Nat.{ℕ, zero, suc, ◌%◌, ◌≤◌, ◌<◌}
use mathlib.Core.Path.{◌≡◌, refl, sym, ap, ap₂, ◌∙◌}
use mathlib.Core.Bool.{Bool, true, false}
use mathlib.Core.List.{List, [], ◌∷◌, map}
use native.Mathlib.Omega.{arith}
use native.Mathlib.Nat.{mod-eq_of_lt}
use borrow.Author.Tests.{le-ltb, ltb-false, ne_eqb}
use lib.Dec.{ltb, eqb}
use lib.ListN.{length, get_or, take, replicate, length-replicate, length-map, get_or-replicate}
use lib.Seq.{take_at, ext_get_or}
use lib.Ieee.{Float, of_bits, binary64}
use Rattle.ieee.specs.Constants.{plus_zero}
use Rattle.picks.specs.Pick.{pick}
use Rattle.order.specs.Order.{laid}
use Rattle.columns.specs.Each.{laid_each}
use Rattle.columns.proofs.EachOverFront.{each_over_front}
use Rattle.chart.specs.declared.TimingFormat.{TimingFormat}
use Rattle.chart.specs.ChartColumns.{ChartColumns}
use Rattle.report_form.specs.Form.{start, read_on, width_of, whole, over, answer_of}
use Rattle.report_form.specs.Stores.{stored_in, column_after}
use Rattle.report_form.specs.Text.{Pair, bpm, stop, delay, warp, scroll, fake, Entry, pair, speed, pair_list, entry_list, text}
use Rattle.report_form.specs.Orderly.{Fits, speed-fits, Orderly, none, one, TextOf, part_of, numbers_of, entries_of, held, too_many}
use Rattle.report_form.proofs.RoundTrip.{text-whole, text_format, text-column, list-named}
use Rattle.report_form.proofs.WholeIsText.{whole_is_text}
use Rattle.report_form.proofs.TextCounts.{text-counts, format_counts, counts-length}
use Rattle.report_text.specs.Output.{answer_line, front_lists}
use Rattle.report_whole.specs.Taken.{taken_text}
use Rattle.report_form.specs.ReadColumns.{entries_counted, numbers_read, counts_read, chart_read}
use Rattle.report_whole.specs.Whole.{format_read, lists_counted, report_text, report_of}
use Rattle.report_whole.specs.OfText.{floats_of, entries_chart, entries_report, Told, of_text, of_no_text}
use Rattle.report_whole.proofs.SameColumns.{SameColumns, same-chart}

-- ---- a list's numbers
-- each entry of a list has one number in each part
as_many : (list part : ℕ) (entries : List Entry) → length (numbers_of list part entries) ≡ entries_of list entries
unfolding numbers_of
as_many list part [] = refl
as_many list part (entry ∷ entries) = by_case (numbers_of list part entries) (numbers_of list 1 entries) (as_many list part entries) (eqb (entry_list entry) list)
  where
    by_case : (xs ys : List ℕ) → length xs ≡ length ys → (t : Bool) → length (pick t (part_of entry part ∷ xs) xs) ≡ length (pick t (part_of entry 1 ∷ ys) ys)
    by_case xs ys e true = ap suc e
    by_case xs ys e false = e

-- no list has the number 0
none_at_0 : (entries : List Entry) → numbers_of 0 1 entries ≡ []
unfolding numbers_of
none_at_0 [] = refl
none_at_0 (entry ∷ entries) = rw (list-named entry) (none_at_0 entries)

-- a unit is a byte as it stands
abbrev byte : ℕ → ℕ
byte n = n % 256

no_pair_is_speed : (of : Pair) → eqb (pair_list of) 6 ≡ false
no_pair_is_speed bpm = refl
no_pair_is_speed stop = refl
no_pair_is_speed delay = refl
no_pair_is_speed warp = refl
no_pair_is_speed scroll = refl
no_pair_is_speed fake = refl

unit-before : (entry : Entry) (units : List ℕ) → Fits entry → map byte units ≡ units
    → map byte (pick (eqb (entry_list entry) 6) (part_of entry 4 ∷ units) units) ≡ pick (eqb (entry_list entry) 6) (part_of entry 4 ∷ units) units
unit-before (pair of beat value) units fits e = rw (no_pair_is_speed of) e
unit-before (speed beat ratio wait unit) units (speed-fits hb hr hw hu) e =
    let stands : byte unit ≡ unit = mod-eq_of_lt (omega arith) in
    rw stands (ap (λ (l : List ℕ). unit ∷ l) e)

units-stand : {last : ℕ} {entries : List Entry} → Orderly last entries → map byte (numbers_of 6 4 entries) ≡ numbers_of 6 4 entries
unfolding numbers_of
units-stand none = refl
units-stand (one {entry = entry} {entries = entries} f b r) = unit-before entry (numbers_of 6 4 entries) b (units-stand r)

-- ---- the counts
held-over : (n : ℕ) → ltb 256 (held n) ≡ ltb 256 n
held-over n = by_case (ltb 256 n) refl
  where
    by_case : (t : Bool) → ltb 256 n ≡ t → ltb 256 (held n) ≡ ltb 256 n
    by_case true e = rw e
    by_case false e = rw e e

front-each : {A B : Type 0} (value : A → B) (from : List A) (old : List B) → length from ≤ length old → take (length from) (laid_each value from old) ≡ map value from
unfolding laid
front-each value from old h = rw (each_over_front value from old h) (take_at (map value from) _ (length from) (length-map from value))

not_over : (n : ℕ) {rest : Bool} → pick (ltb 256 n) true rest ≡ false → (n ≤ 256) × (rest ≡ false)
not_over n {rest} h = by_case (ltb 256 n) refl h
  where
    by_case : (t : Bool) → ltb 256 n ≡ t → pick t true rest ≡ false → (n ≤ 256) × (rest ≡ false)
    by_case false e g = (ltb-false 256 n e, g)
    by_case true e g = let z : ◌≡◌ {A = ℕ} 0 1 = cc in absurd (omega arith)

-- equal columns have one text
same_taken : {f g : TimingFormat} {a b : ChartColumns} → f ≡ g → SameColumns a b → taken_text f a ≡ taken_text g b
same_taken e s = ap₂ taken_text e (same-chart s)

module _ (ssc : Bool) (entries : List Entry) (o : Orderly 1 entries) where
  abbrev input : List ℕ
  input = text ssc entries

  counted : (list : ℕ) → 2 ≤ list → list < 9 → entries_counted (counts_read input) list ≡ held (entries_of list entries)
  counted list low high =
      text-counts list ssc entries (replicate 9 0) o (λ (e : list ≡ 1). omega arith) high ∙ rw (get_or-replicate {A = ℕ} 9 list 0 0 high) (by_case (entries_of list entries))
    where
      by_case : (n : ℕ) → ◌≡◌ {A = ℕ} (pick (eqb n 0) 0 (held n)) (held n)
      by_case zero = refl
      by_case (suc n) = rw (ne_eqb (suc n) 0 (λ (e : suc n ≡ 0). omega arith))

  column : {A : Type 0} (value : ℕ → A) (list part : ℕ) (blank : A) → 2 ≤ list → list < 9 → 1 ≤ part → part ≤ width_of list → entries_of list entries ≤ 256
      → take (entries_counted (counts_read input) list) (column_after (stored_in value list part) start input (replicate 256 blank)) ≡ map value (numbers_of list part entries)
  column {A} value list part blank low high first last few =
      let numbers = numbers_of list part entries in
      let all : length numbers ≤ length (replicate 256 blank) = rw (length-replicate 256 blank) (omega (arith, as_many list part entries)) in
      let count : entries_counted (counts_read input) list ≡ length numbers = counted list low high ∙ rw (le-ltb 256 (entries_of list entries) few) (sym (as_many list part entries)) in
      rw (count, text-column value list part ssc entries (replicate 256 blank) o low first last (rw (length-replicate 256 blank) (omega arith))) (front-each value numbers (replicate 256 blank) all)

  abbrev counts : List ℕ
  counts =
      0 ∷ 0 ∷ held (entries_of 2 entries) ∷ held (entries_of 3 entries) ∷ held (entries_of 4 entries) ∷ held (entries_of 5 entries) ∷ held (entries_of 6 entries) ∷ held (entries_of 7 entries) ∷ held (entries_of 8 entries) ∷ []

  counts-are : counts_read input ≡ counts
  counts-are = ext_get_or 0 (counts_read input) counts (counts-length start input (replicate 9 0)) (λ (i : ℕ) (h : i < length (counts_read input)). at_each i (rw (counts-length start input (replicate 9 0)) at h))
    where
      at_each : (i : ℕ) → i < 9 → get_or (counts_read input) i 0 ≡ get_or counts i 0
      at_each zero h = text-counts 0 ssc entries (replicate 9 0) o (λ (e : 0 ≡ 1). omega arith) (omega arith) ∙ rw (none_at_0 entries)
      at_each (suc zero) h = format_counts ssc entries (replicate 9 0) o (omega arith)
      at_each (suc (suc zero)) h = counted 2 (omega arith) (omega arith)
      at_each (suc (suc (suc zero))) h = counted 3 (omega arith) (omega arith)
      at_each (suc (suc (suc (suc zero)))) h = counted 4 (omega arith) (omega arith)
      at_each (suc (suc (suc (suc (suc zero))))) h = counted 5 (omega arith) (omega arith)
      at_each (suc (suc (suc (suc (suc (suc zero)))))) h = counted 6 (omega arith) (omega arith)
      at_each (suc (suc (suc (suc (suc (suc (suc zero))))))) h = counted 7 (omega arith) (omega arith)
      at_each (suc (suc (suc (suc (suc (suc (suc (suc zero)))))))) h = counted 8 (omega arith) (omega arith)
      at_each (suc (suc (suc (suc (suc (suc (suc (suc (suc i))))))))) h = absurd (omega arith)

  over-is : over (counts_read input) ≡ too_many entries
  unfolding over
  over-is = ap over counts-are ∙ rw (held-over (entries_of 2 entries), held-over (entries_of 3 entries), held-over (entries_of 4 entries), held-over (entries_of 5 entries), held-over (entries_of 6 entries), held-over (entries_of 7 entries), held-over (entries_of 8 entries))

  -- no list is too long
  record Few : Type 0 where
    tempos : entries_of 2 entries ≤ 256
    stops : entries_of 3 entries ≤ 256
    delays : entries_of 4 entries ≤ 256
    warps : entries_of 5 entries ≤ 256
    speeds : entries_of 6 entries ≤ 256
    scrolls : entries_of 7 entries ≤ 256
    fakes : entries_of 8 entries ≤ 256

  few : too_many entries ≡ false → Few
  unfolding over
  few h =
      let t = not_over (entries_of 2 entries) h in
      let s = not_over (entries_of 3 entries) t.1 in
      let d = not_over (entries_of 4 entries) s.1 in
      let w = not_over (entries_of 5 entries) d.1 in
      let v = not_over (entries_of 6 entries) w.1 in
      let c = not_over (entries_of 7 entries) v.1 in
      let f = not_over (entries_of 8 entries) c.1 in
      record { tempos = t.0; stops = s.0; delays = d.0; warps = w.0; speeds = v.0; scrolls = c.0; fakes = f.0 }

  floats : (list part : ℕ) → 2 ≤ list → list < 9 → 1 ≤ part → part ≤ width_of list → entries_of list entries ≤ 256 → take (entries_counted (counts_read input) list) (numbers_read list part input) ≡ floats_of list part entries
  floats list part low high first last few = column (of_bits binary64) list part plus_zero low high first last few

  taken : Few → taken_text (format_read (read_on start input).ssc) (front_lists (lists_counted (counts_read input)) (chart_read input)) ≡ taken_text (format_read ssc) (entries_chart entries)
  unfolding width_of
  taken f =
      same_taken (ap format_read (text_format ssc entries o))
      (record {
        tempo_beats = floats 2 1 (omega arith) (omega arith) (omega arith) (omega arith) f.tempos;
        tempo_values = floats 2 2 (omega arith) (omega arith) (omega arith) (omega arith) f.tempos;
        stop_beats = floats 3 1 (omega arith) (omega arith) (omega arith) (omega arith) f.stops;
        stop_values = floats 3 2 (omega arith) (omega arith) (omega arith) (omega arith) f.stops;
        delay_beats = floats 4 1 (omega arith) (omega arith) (omega arith) (omega arith) f.delays;
        delay_values = floats 4 2 (omega arith) (omega arith) (omega arith) (omega arith) f.delays;
        warp_beats = floats 5 1 (omega arith) (omega arith) (omega arith) (omega arith) f.warps;
        warp_lengths = floats 5 2 (omega arith) (omega arith) (omega arith) (omega arith) f.warps;
        speed_beats = floats 6 1 (omega arith) (omega arith) (omega arith) (omega arith) f.speeds;
        speed_ratios = floats 6 2 (omega arith) (omega arith) (omega arith) (omega arith) f.speeds;
        speed_delays = floats 6 3 (omega arith) (omega arith) (omega arith) (omega arith) f.speeds;
        speed_units = column byte 6 4 0 (omega arith) (omega arith) (omega arith) (omega arith) f.speeds ∙ units-stand o;
        scroll_beats = floats 7 1 (omega arith) (omega arith) (omega arith) (omega arith) f.scrolls;
        scroll_values = floats 7 2 (omega arith) (omega arith) (omega arith) (omega arith) f.scrolls;
        fake_beats = floats 8 1 (omega arith) (omega arith) (omega arith) (omega arith) f.fakes;
        fake_lengths = floats 8 2 (omega arith) (omega arith) (omega arith) (omega arith) f.fakes;
      })

  answer-is : answer_of (read_on start input) (counts_read input) ≡ pick (too_many entries) 1 0
  unfolding answer_of
  answer-is = rw (text-whole ssc entries o, over-is)

  pub report_of_text : report_of input ≡ entries_report ssc entries
  unfolding report_of report_text entries_report
  report_of_text = by_case (too_many entries) refl
    where
      by_case : (t : Bool) → too_many entries ≡ t → report_of input ≡ entries_report ssc entries
      by_case true e = rw (answer-is, e)
      by_case false e = rw (answer-is, e) (taken (few e))

-- what is no text is refused with 10
no_text : (bytes : List ℕ) → whole (read_on start bytes) ≡ false → report_of bytes ≡ answer_line 10
unfolding report_of report_text answer_of
no_text bytes e = rw e

pub every_report : (bytes : List ℕ) → Told bytes
every_report bytes = by_case (whole (read_on start bytes)) refl
  where
    by_case : (t : Bool) → whole (read_on start bytes) ≡ t → Told bytes
    by_case true e = let t = whole_is_text bytes e in of_text t (ap report_of t.is ∙ report_of_text t.ssc t.entries t.orderly)
    by_case false e = of_no_text (λ (t : TextOf bytes). let is : whole (read_on start bytes) ≡ true = ap (λ (b : List ℕ). whole (read_on start b)) t.is ∙ text-whole t.ssc t.entries t.orderly in let z : ◌≡◌ {A = ℕ} 0 1 = cc in omega arith) (no_text bytes e)
