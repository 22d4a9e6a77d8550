-- WHOLE IS TEXT: whatever bytes are read as a whole input are the text of a format and of entries in order; nothing else is of the form.
-- What was read so far is told by the state: the lines before, and what the line has up to here. Assumes nothing.
use Prim.Native.Nat.{ℕ, ◌+◌, ◌-◌, ◌*◌, ◌^◌, ◌%◌, ◌≤◌, ◌<◌}
use mathlib.Core.Path.{◌≡◌, refl, sym, ap, subst, ◌∙◌}
use mathlib.Core.Bool.{Bool, true, false}
use mathlib.Core.List.{List, [], ◌∷◌, ◌++◌, append_assoc, append-nil}
use native.Mathlib.Omega.{arith}
use native.Mathlib.Nat.{pow-le-pow_right, mod-eq_of_lt}
use borrow.Author.Tests.{lt-ltb, ltb-true, ltb-false, leb-true, eqb-true, le-ltb}
use lib.Dec.{ltb, leb, eqb}
use Rattle.picks.specs.Pick.{pick}
use Rattle.ieee_patterns.specs.Hex.{hex_value, hex_digit, hex_text}
use Rattle.report_form.specs.declared.Reading.{Reading}
use Rattle.report_form.specs.Form.{start, grown, letter_of, hex_of, unit_read, character_of, list_named, follows, named_of, width_of, last_digits_of, comma_of, more, format_ended, entry_ended, ended_of, step_of, read_on, whole}
use Rattle.report_form.specs.Text.{Pair, bpm, stop, delay, warp, scroll, fake, Entry, pair, speed, pair_list, entry_list, pair_word, speed_word, entry_line, entry_lines, format_line, text}
use Rattle.report_form.specs.Orderly.{Fits, pair_fits, speed-fits, Orderly, none, one, TextOf}
use Rattle.report_form.proofs.Spelling.{Letters, no-letters, letter, few-letters, letters-below, same-letters, letters_in, number_is, spelt, test, by-test, Named, a_pair, a-speed, named_by, Digits, no-digits, digit, digits-below, digits-text}
use Rattle.report_form.proofs.LineRead.{Plain, At, open_is, pair_hex, speed_hex, pair_width}
use Rattle.report_form.proofs.RoundTrip.{list-named, no_format}

-- ---- the lines before
last_of : ℕ → List Entry → ℕ
last_of last [] = last
last_of last (entry ∷ entries) = last_of (entry_list entry) entries

data Before : List ℕ → Bool → ℕ → Type 0 where
  no_line : Before [] false 0
  lines : (ssc : Bool) (entries : List Entry) → Orderly 1 entries → Before (text ssc entries) ssc (last_of 1 entries)

last_more : (last : ℕ) (entries : List Entry) (entry : Entry) → last_of last (entries ++ (entry ∷ [])) ≡ entry_list entry
unfolding last_of
last_more last [] entry = refl
last_more last (other ∷ entries) entry = last_more (entry_list other) entries entry

orderly-more : {last : ℕ} {entries : List Entry} (entry : Entry) → Orderly last entries → follows (last_of last entries) (entry_list entry) ≡ true → Fits entry → Orderly last (entries ++ (entry ∷ []))
unfolding last_of
orderly-more entry none f b = one f b none
orderly-more entry (one g c r) f b = one g c (orderly-more entry r f b)

lines_more : (entries : List Entry) (entry : Entry) → entry_lines (entries ++ (entry ∷ [])) ≡ entry_lines entries ++ entry_line entry
unfolding entry_lines
lines_more [] entry = append-nil (entry_line entry)
lines_more (other ∷ entries) entry = ap (λ (l : List ℕ). entry_line other ++ l) (lines_more entries entry) ∙ sym (append_assoc (entry_line other) (entry_lines entries) (entry_line entry))

before_as : {xs ys : List ℕ} {ssc : Bool} {m n : ℕ} → xs ≡ ys → m ≡ n → Before xs ssc m → Before ys ssc n
before_as {xs} {ys} {ssc} {m} {n} e f b = subst (λ (l : List ℕ). Before l ssc n) e (subst (λ (k : ℕ). Before xs ssc k) f b)

-- one line more
line_more : {done : List ℕ} {ssc : Bool} {last : ℕ} (entry : Entry) → Before done ssc last → follows last (entry_list entry) ≡ true → Fits entry → Before (done ++ entry_line entry) ssc (entry_list entry)
unfolding follows
line_more entry no_line f b = let z : ◌≡◌ {A = ℕ} 0 1 = cc (no_format entry) in absurd (omega arith)
line_more entry (lines ssc entries o) f b =
    before_as (ap (λ (l : List ℕ). format_line ssc ++ l) (lines_more entries entry) ∙ sym (append_assoc (format_line ssc) (entry_lines entries) (entry_line entry))) (last_more 1 entries entry)
    (lines ssc (entries ++ (entry ∷ [])) (orderly-more entry o f b))

-- ---- what the line has up to the number that is being read: word, equals sign, numbers with their commas
data Part : ℕ → ℕ → List ℕ → Type 0 where
  pair-beat : (of : Pair) → Part (pair_list of) 1 (pair_word of ++ (61 ∷ []))
  pair-value : (of : Pair) {beat : ℕ} → beat < 2 ^ 64 → Part (pair_list of) 2 (pair_word of ++ (61 ∷ (hex_text 16 beat ++ (44 ∷ []))))
  speed-beat : Part 6 1 (speed_word ++ (61 ∷ []))
  speed-ratio : {beat : ℕ} → beat < 2 ^ 64 → Part 6 2 (speed_word ++ (61 ∷ (hex_text 16 beat ++ (44 ∷ []))))
  speed_wait : {beat ratio : ℕ} → beat < 2 ^ 64 → ratio < 2 ^ 64 → Part 6 3 (speed_word ++ (61 ∷ (hex_text 16 beat ++ (44 ∷ (hex_text 16 ratio ++ (44 ∷ []))))))

abbrev to_unit : ℕ → ℕ → ℕ → List ℕ
to_unit beat ratio wait = speed_word ++ (61 ∷ (hex_text 16 beat ++ (44 ∷ (hex_text 16 ratio ++ (44 ∷ (hex_text 16 wait ++ (44 ∷ [])))))))

data Unit_read : List ℕ → ℕ → ℕ → Type 0 where
  no-unit : Unit_read [] 0 0
  a_unit : {unit : ℕ} → unit < 10 → Unit_read ((unit + 48) ∷ []) 1 unit

abbrev format_word : List ℕ
format_word = 102 ∷ 111 ∷ 114 ∷ 109 ∷ 97 ∷ 116 ∷ 61 ∷ []

-- WHAT WAS READ, by where the reading stands
data Read : List ℕ → Reading → Type 0 where
  in_word : {done word : List ℕ} {ssc : Bool} {last count size number : ℕ} → Before done ssc last → Letters word size number → Read (done ++ word) (At ssc last 0 count size number)
  in_format : {word : List ℕ} {count size number : ℕ} → Letters word size number → Read (format_word ++ word) (At false 1 1 count size number)
  in_number : {done line word : List ℕ} {ssc : Bool} {last list part count size number : ℕ} → Before done ssc last → follows last list ≡ true → Part list part line → Digits word size number
      → Read (done ++ (line ++ word)) (At ssc list part count size number)
  in_unit : {done word : List ℕ} {ssc : Bool} {last beat ratio wait count size number : ℕ} → Before done ssc last → follows last 6 ≡ true → beat < 2 ^ 64 → ratio < 2 ^ 64 → wait < 2 ^ 64 → Unit_read word size number
      → Read (done ++ (to_unit beat ratio wait ++ word)) (At ssc 6 4 count size number)

read_as : {xs ys : List ℕ} {a b : Reading} → xs ≡ ys → a ≡ b → Read xs a → Read ys b
read_as {xs} {ys} {a} {b} e f r = subst (λ (l : List ℕ). Read l b) e (subst (λ (s : Reading). Read xs s) f r)

-- a test that what is still of the form has met, or has not
met : (t : Bool) (a b : Reading) → (pick t a b).fine ≡ true → b.fine ≡ false → t ≡ true
met true a b f g = refl
met false a b f g = let z : ◌≡◌ {A = ℕ} 0 1 = cc in absurd (omega arith)

unmet : (t : Bool) (a b : Reading) → (pick t a b).fine ≡ true → a.fine ≡ false → t ≡ false
unmet false a b f g = refl
unmet true a b f g = let z : ◌≡◌ {A = ℕ} 0 1 = cc in absurd (omega arith)

-- ---- a letter more
record Lettered (reading : Reading) (byte : ℕ) : Type 0 where
  low : 97 ≤ byte
  high : byte ≤ 122
  few : reading.digits < 6
  is : letter_of reading byte ≡ grown reading (reading.number % 0x100_0000_0000_0000 * 256 + byte)

lettered : (reading : Reading) (byte : ℕ) → (letter_of reading byte).fine ≡ true → Lettered reading byte
unfolding letter_of
lettered reading byte f =
    let low = unmet (ltb byte 97) _ _ f refl in
    let high = unmet (ltb 122 byte) _ _ (rw low at f) refl in
    let few = met (ltb reading.digits 6) _ _ (rw (low, high) at f) refl in
    record { low = ltb-false byte 97 low; high = ltb-false 122 byte high; few = ltb-true reading.digits 6 few; is = rw (low, high, few) }

behind : (done line word more : List ℕ) → done ++ (line ++ (word ++ more)) ≡ (done ++ (line ++ word)) ++ more
behind done line word more = simp append_assoc

small : {n bound most : ℕ} → n < bound → bound ≤ most → n % most ≡ n
small {n} {bound} {most} h l = mod-eq_of_lt (omega arith)

-- a word's letters are few, so the number is kept whole
word_kept : {word : List ℕ} {size number : ℕ} → Letters word size number → size < 6 → number % 0x100_0000_0000_0000 ≡ number
word_kept {size = size} r few = small (letters-below r) (omega (arith, pow-le-pow_right {n = 256} (omega arith) {i = size} {j = 6} (omega arith)))

-- ---- a digit more
digit-back : (byte : ℕ) → hex_value byte < 16 → hex_digit (hex_value byte) ≡ byte
unfolding hex_value hex_digit
digit-back byte =
    let P : ℕ → Type 0 = λ (v : ℕ). v < 16 → hex_digit v ≡ byte in
    by-test P (ltb byte 48) (λ e h. absurd (omega arith))
    (λ low. by-test P (leb byte 57) (λ e h. let over = ltb-false byte 48 low in let under = leb-true byte 57 e in rw (lt-ltb (byte - 48) 10 (omega arith)) (omega arith))
    (λ e. by-test P (ltb byte 65) (λ e h. absurd (omega arith))
    (λ low. by-test P (leb byte 70) (λ e h. let over = ltb-false byte 65 low in rw (le-ltb (byte - 55) 10 (omega arith)) (omega arith))
    (λ e h. absurd (omega arith)))))

record Hexed (reading : Reading) (byte : ℕ) : Type 0 where
  few : reading.digits < 16
  value : hex_value byte < 16
  is : hex_of reading byte ≡ grown reading (reading.number % 0x1000_0000_0000_0000 * 16 + hex_value byte)

hexed : (reading : Reading) (byte : ℕ) → (hex_of reading byte).fine ≡ true → Hexed reading byte
unfolding hex_of
hexed reading byte f =
    let few = met (ltb reading.digits 16) _ _ f refl in
    let value = met (ltb (hex_value byte) 16) _ _ (rw few at f) refl in
    record { few = ltb-true reading.digits 16 few; value = ltb-true (hex_value byte) 16 value; is = rw (few, value) }

number-kept : {word : List ℕ} {size number : ℕ} → Digits word size number → size < 16 → number % 0x1000_0000_0000_0000 ≡ number
number-kept {size = size} r few = small (digits-below r) (omega (arith, pow-le-pow_right {n = 16} (omega arith) {i = size} {j = 15} (omega arith)))

part_hex : {list part : ℕ} {line : List ℕ} → Part list part line → (ssc : Bool) (count j m byte : ℕ) → character_of (At ssc list part count j m) byte ≡ hex_of (At ssc list part count j m) byte
part_hex (pair-beat of) ssc count j m byte = pair_hex of ssc 1 count (omega arith) j m byte
part_hex (pair-value of b) ssc count j m byte = pair_hex of ssc 2 count (omega arith) j m byte
part_hex speed-beat ssc count j m byte = speed_hex ssc 1 count (omega arith) (omega arith) j m byte
part_hex (speed-ratio b) ssc count j m byte = speed_hex ssc 2 count (omega arith) (omega arith) j m byte
part_hex (speed_wait b r) ssc count j m byte = speed_hex ssc 3 count (omega arith) (omega arith) j m byte

-- ---- a unit
record United (reading : Reading) (byte : ℕ) : Type 0 where
  low : 48 ≤ byte
  high : byte ≤ 57
  few : reading.digits < 1
  is : unit_read reading byte ≡ grown reading (byte - 48)

united : (reading : Reading) (byte : ℕ) → (unit_read reading byte).fine ≡ true → United reading byte
unfolding unit_read
united reading byte f =
    let low = unmet (ltb byte 48) _ _ f refl in
    let high = unmet (ltb 57 byte) _ _ (rw low at f) refl in
    let few = met (ltb reading.digits 1) _ _ (rw (low, high) at f) refl in
    record { low = ltb-false byte 48 low; high = ltb-false 57 byte high; few = ltb-true reading.digits 1 few; is = rw (low, high, few) }

-- ---- any byte but a separator
character-read : {bytes : List ℕ} {reading : Reading} (byte : ℕ) → Read bytes reading → (character_of reading byte).fine ≡ true → Read (bytes ++ (byte ∷ [])) (character_of reading byte)
unfolding character_of
character-read byte (in_word {done} {word} {ssc} {last} {count} {size} {number} b r) f =
    let l = lettered (At ssc last 0 count size number) byte f in
    read_as (sym (append_assoc done word (byte ∷ []))) (ap (λ (n : ℕ). At ssc last 0 count (size + 1) (n * 256 + byte)) (sym (word_kept r l.few)) ∙ sym l.is)
    (in_word b (letter r l.low l.high l.few))
character-read byte (in_format {word} {count} {size} {number} r) f =
    let l = lettered (At false 1 1 count size number) byte f in
    read_as (sym (append_assoc format_word word (byte ∷ []))) (ap (λ (n : ℕ). At false 1 1 count (size + 1) (n * 256 + byte)) (sym (word_kept r l.few)) ∙ sym l.is)
    (in_format (letter r l.low l.high l.few))
character-read byte (in_number {done} {line} {word} {ssc} {last} {list} {part} {count} {size} {number} b o p r) f =
    let as-hex = part_hex p ssc count size number byte in
    let d = hexed (At ssc list part count size number) byte (rw as-hex at f) in
    read_as (ap (λ (x : ℕ). done ++ (line ++ (word ++ (x ∷ [])))) (digit-back byte d.value) ∙ behind done line word (byte ∷ []))
    (ap (λ (n : ℕ). At ssc list part count (size + 1) (n * 16 + hex_value byte)) (sym (number-kept r d.few)) ∙ sym d.is ∙ sym as-hex)
    (in_number b o p (digit r d.value))
character-read byte (in_unit {done} {word} {ssc} {last} {beat} {ratio} {wait} {count} {size} {number} b o hb hr hw no-unit) f =
    let u = united (At ssc 6 4 count 0 0) byte f in
    let low = u.low in
    let high = u.high in
    let back : byte - 48 + 48 ≡ byte = omega arith in
    read_as (ap (λ (x : ℕ). done ++ (to_unit beat ratio wait ++ (x ∷ []))) back ∙ behind done (to_unit beat ratio wait) [] (byte ∷ [])) (sym u.is)
    (in_unit b o hb hr hw (a_unit {unit = byte - 48} (omega arith)))
character-read byte (in_unit {ssc = ssc} {count = count} b o hb hr hw (a_unit {unit} h)) f =
    let u = united (At ssc 6 4 count 1 unit) byte f in
    let few = u.few in
    absurd (omega arith)

-- ---- an equals sign
record Opened (reading : Reading) : Type 0 where
  part : reading.part ≡ 0
  order : follows reading.list (list_named reading.number) ≡ true
  count : ℕ
  is : named_of reading ≡ At reading.ssc (list_named reading.number) 1 count 0 0

opened-by : (reading : Reading) → (named_of reading).fine ≡ true → Opened reading
unfolding named_of
opened-by reading f =
    let part = met (eqb reading.part 0) _ _ f refl in
    let order = met (follows reading.list (list_named reading.number)) _ _ (rw part at f) refl in
    record { part = eqb-true reading.part 0 part; order = order; count = pick (eqb (list_named reading.number) reading.list) reading.count 0; is = rw (part, order) (open_is reading (list_named reading.number)) }

-- the one word that names the format line
the_format : (number : ℕ) → list_named number ≡ 1 → number ≡ 0x666F_726D_6174
unfolding list_named
the_format number =
    let P : ℕ → Type 0 = λ (k : ℕ). k ≡ 1 → number ≡ 0x666F_726D_6174 in
    by-test P (eqb number 0x666F_726D_6174) (λ e h. eqb-true number 0x666F_726D_6174 e)
    (λ _. by-test P (eqb number 0x62_706D) (λ e h. absurd (omega arith))
    (λ _. by-test P (eqb number 0x7374_6F70) (λ e h. absurd (omega arith))
    (λ _. by-test P (eqb number 0x64_656C_6179) (λ e h. absurd (omega arith))
    (λ _. by-test P (eqb number 0x7761_7270) (λ e h. absurd (omega arith))
    (λ _. by-test P (eqb number 0x73_7065_6564) (λ e h. absurd (omega arith))
    (λ _. by-test P (eqb number 0x7363_726F_6C6C) (λ e h. absurd (omega arith))
    (λ _. by-test P (eqb number 0x6661_6B65) (λ e h. absurd (omega arith))
    (λ _ h. absurd (omega arith)))))))))

part-later : {list part : ℕ} {line : List ℕ} → Part list part line → 1 ≤ part
part-later (pair-beat of) = omega arith
part-later (pair-value of b) = omega arith
part-later speed-beat = omega arith
part-later (speed-ratio b) = omega arith
part-later (speed_wait b r) = omega arith

-- after the format line only a list may come
list-follows : (last next : ℕ) → eqb last 0 ≡ false → follows last next ≡ true → 1 < next
unfolding follows
list-follows last next h f = ltb-true 1 next (first_of (ltb 1 next) (rw h at f))
  where
    first_of : (t : Bool) → pick t (leb last next) false ≡ true → t ≡ true
    first_of true e = refl
    first_of false e = e

has_line : (last : ℕ) (entries : List Entry) → eqb last 0 ≡ false → eqb (last_of last entries) 0 ≡ false
unfolding last_of
has_line last [] h = h
has_line last (entry ∷ entries) h = has_line (entry_list entry) entries (list-named entry)

first_part : {done word : List ℕ} {ssc : Bool} {last list count : ℕ} → Before done ssc last → follows last list ≡ true → Named list word → Read (done ++ (word ++ (61 ∷ []))) (At ssc list 1 count 0 0)
first_part {done} b o (a_pair of) = read_as (ap (λ (l : List ℕ). done ++ l) (append-nil (pair_word of ++ (61 ∷ [])))) refl (in_number b o (pair-beat of) no-digits)
first_part b o a-speed = in_number b o speed-beat no-digits

named-read : {bytes : List ℕ} {reading : Reading} → Read bytes reading → (named_of reading).fine ≡ true → Read (bytes ++ (61 ∷ [])) (named_of reading)
unfolding follows letters_in number_is
named-read (in_word {word = word} {count = count} {size = size} {number = number} no_line r) f =
    let o = opened-by (At false 0 0 count size number) f in
    let first : list_named number ≡ 1 = eqb-true (list_named number) 1 o.order in
    read_as (ap (λ (l : List ℕ). l ++ (61 ∷ [])) (same-letters (spelt (102 ∷ 111 ∷ 114 ∷ 109 ∷ 97 ∷ 116 ∷ []) refl) r (sym (the_format number first))))
    (ap (λ (k : ℕ). At false k 1 o.count 0 0) (sym first) ∙ sym o.is) (in_format no-letters)
named-read (in_word {word = word} {count = count} {size = size} {number = number} (lines ssc entries e) r) f =
    let b = lines ssc entries e in
    let o = opened-by (At ssc (last_of 1 entries) 0 count size number) f in
    let listed = list-follows (last_of 1 entries) (list_named number) (has_line 1 entries refl) o.order in
    read_as (sym (append_assoc (text ssc entries) word (61 ∷ []))) (sym o.is) (first_part b o.order (named_by r listed))
named-read (in_format {count = count} {size = size} {number = number} r) f = let part = (opened-by (At false 1 1 count size number) f).part in absurd (omega arith)
named-read (in_number {ssc = ssc} {list = list} {part = part} {count = count} {size = size} {number = number} b o p r) f =
    let first = (opened-by (At ssc list part count size number) f).part in
    let later = part-later p in
    absurd (omega arith)
named-read (in_unit {ssc = ssc} {count = count} {size = size} {number = number} b o hb hr hw r) f = let part = (opened-by (At ssc 6 4 count size number) f).part in absurd (omega arith)

-- ---- a comma
record Parted (reading : Reading) : Type 0 where
  digits : reading.digits ≡ 16
  more_come : reading.part < width_of reading.list
  is : comma_of reading ≡ At reading.ssc reading.list (reading.part + 1) reading.count 0 0

parted : (reading : Reading) → (comma_of reading).fine ≡ true → Parted reading
unfolding comma_of
parted reading f =
    let digits = met (eqb reading.digits 16) _ _ f refl in
    let inside = met (ltb reading.part (width_of reading.list)) _ _ (rw digits at f) refl in
    record { digits = eqb-true reading.digits 16 digits; more_come = ltb-true reading.part (width_of reading.list) inside; is = rw (digits, inside) }

-- sixteen digits are the text of a number of 64 bits
record Number (word : List ℕ) (number : ℕ) : Type 0 where
  is : word ≡ hex_text 16 number
  below : number < 2 ^ 64

number_of : {word : List ℕ} {size number : ℕ} → Digits word size number → size ≡ 16 → Number word number
number_of {word} {size} {number} r e = record { is = digits-text r ∙ ap (λ (k : ℕ). hex_text k number) e; below = rw e at (digits-below r) }

comma-step : {done line word : List ℕ} {ssc : Bool} {last list part count size number : ℕ} → Before done ssc last → follows last list ≡ true → Part list part line → Digits word size number → size ≡ 16 → part < width_of list
    → Read ((done ++ (line ++ word)) ++ (44 ∷ [])) (At ssc list (part + 1) count 0 0)
unfolding width_of
comma-step {done} {word = word} {number = number} b o (pair-beat of) r e l =
    let n = number_of r e in
    read_as (ap (λ (w : List ℕ). done ++ (pair_word of ++ (61 ∷ (w ++ (44 ∷ []))) ++ [])) (sym n.is) ∙ simp (append_assoc, append-nil)) refl (in_number b o (pair-value of n.below) no-digits)
comma-step b o (pair-value of h) r e l = absurd (omega (arith, rw (pair_width of) at l))
comma-step {done} b o speed-beat r e l =
    let n = number_of r e in
    read_as (ap (λ (w : List ℕ). done ++ (speed_word ++ (61 ∷ (w ++ (44 ∷ []))) ++ [])) (sym n.is) ∙ simp (append_assoc, append-nil)) refl (in_number b o (speed-ratio n.below) no-digits)
comma-step {done} b o (speed-ratio {beat} h) r e l =
    let n = number_of r e in
    read_as (ap (λ (w : List ℕ). done ++ (speed_word ++ (61 ∷ (hex_text 16 beat ++ (44 ∷ (w ++ (44 ∷ []))))) ++ [])) (sym n.is) ∙ simp (append_assoc, append-nil)) refl (in_number b o (speed_wait h n.below) no-digits)
comma-step {done} b o (speed_wait {beat} {ratio} h k) r e l =
    let n = number_of r e in
    read_as (ap (λ (w : List ℕ). done ++ (speed_word ++ (61 ∷ (hex_text 16 beat ++ (44 ∷ (hex_text 16 ratio ++ (44 ∷ (w ++ (44 ∷ []))))))) ++ [])) (sym n.is) ∙ simp (append_assoc, append-nil)) refl
    (in_unit b o h k n.below no-unit)

few-units : {word : List ℕ} {size number : ℕ} → Unit_read word size number → size ≤ 1
few-units no-unit = omega arith
few-units (a_unit h) = omega arith

comma-read : {bytes : List ℕ} {reading : Reading} → Read bytes reading → (comma_of reading).fine ≡ true → Read (bytes ++ (44 ∷ [])) (comma_of reading)
comma-read (in_word {ssc = ssc} {last = last} {count = count} {size = size} {number = number} b r) f =
    let all = (parted (At ssc last 0 count size number) f).digits in
    let few = few-letters r in
    absurd (omega arith)
comma-read (in_format {count = count} {size = size} {number = number} r) f =
    let all = (parted (At false 1 1 count size number) f).digits in
    let few = few-letters r in
    absurd (omega arith)
comma-read (in_number {ssc = ssc} {list = list} {part = part} {count = count} {size = size} {number = number} b o p r) f =
    let c = parted (At ssc list part count size number) f in
    read_as refl (sym c.is) (comma-step b o p r c.digits c.more_come)
comma-read (in_unit {ssc = ssc} {count = count} {size = size} {number = number} b o hb hr hw r) f =
    let all = (parted (At ssc 6 4 count size number) f).digits in
    let few = few-units r in
    absurd (omega arith)

-- ---- a line feed
record Entered (reading : Reading) : Type 0 where
  last : reading.part ≡ width_of reading.list
  digits : reading.digits ≡ last_digits_of reading.list
  is : entry_ended reading ≡ At reading.ssc reading.list 0 (more reading.count) 0 0

entered : (reading : Reading) → (entry_ended reading).fine ≡ true → Entered reading
unfolding entry_ended
entered reading f =
    let last = met (eqb reading.part (width_of reading.list)) _ _ f refl in
    let digits = met (eqb reading.digits (last_digits_of reading.list)) _ _ (rw last at f) refl in
    record { last = eqb-true reading.part (width_of reading.list) last; digits = eqb-true reading.digits (last_digits_of reading.list) digits; is = rw (last, digits) }

wide : (list : ℕ) → 2 ≤ width_of list
unfolding width_of
wide list = by-test (λ (k : ℕ). 2 ≤ k) (eqb list 6) (λ e. omega arith) (λ e. omega arith)

pair-digits : (of : Pair) → last_digits_of (pair_list of) ≡ 16
unfolding last_digits_of
pair-digits bpm = refl
pair-digits stop = refl
pair-digits delay = refl
pair-digits warp = refl
pair-digits scroll = refl
pair-digits fake = refl

format_part : (reading : Reading) → (format_ended reading).fine ≡ true → reading.part ≡ 1
unfolding format_ended
format_part reading f = eqb-true reading.part 1 (met (eqb reading.part 1) _ _ f refl)

-- between the lines again
line_ended : {done line : List ℕ} {ssc : Bool} {last count : ℕ} (entry : Entry) → Before done ssc last → follows last (entry_list entry) ≡ true → Fits entry → entry_line entry ≡ line → Read (done ++ line) (At ssc (entry_list entry) 0 count 0 0)
line_ended {done = done} {line} entry b o fits e = read_as (ap (λ (l : List ℕ). (done ++ l) ++ []) e ∙ append-nil (done ++ line)) refl (in_word (line_more entry b o fits) no-letters)

entry-step : {done line word : List ℕ} {ssc : Bool} {last list part count size number : ℕ} → Before done ssc last → follows last list ≡ true → Part list part line → Digits word size number → part ≡ width_of list → size ≡ last_digits_of list
    → Read ((done ++ (line ++ word)) ++ (10 ∷ [])) (At ssc list 0 count 0 0)
unfolding width_of last_digits_of entry_line
entry-step b o (pair-beat of) r p e = absurd (omega (arith, pair_width of))
entry-step {done} {number = number} b o (pair-value of {beat} h) r p e =
    let n = number_of r (e ∙ pair-digits of) in
    read_as (simp append_assoc) refl
    (line_ended {done = done} (pair of beat number) b o (pair_fits h n.below) (ap (λ (w : List ℕ). pair_word of ++ (61 ∷ (hex_text 16 beat ++ (44 ∷ (w ++ (10 ∷ [])))))) (sym n.is)))
entry-step b o speed-beat r p e = absurd (omega arith)
entry-step b o (speed-ratio h) r p e = absurd (omega arith)
entry-step b o (speed_wait h k) r p e = absurd (omega arith)

part-list : {list part : ℕ} {line : List ℕ} → Part list part line → eqb list 1 ≡ false
part-list (pair-beat of) = no_format (pair of 0 0)
part-list (pair-value of b) = no_format (pair of 0 0)
part-list speed-beat = refl
part-list (speed-ratio b) = refl
part-list (speed_wait b r) = refl

ended-read : {bytes : List ℕ} {reading : Reading} → Read bytes reading → (ended_of reading).fine ≡ true → Read (bytes ++ (10 ∷ [])) (ended_of reading)
unfolding ended_of format_ended letters_in number_is entry_lines entry_line last_of last_digits_of
ended-read (in_word {ssc = ssc} {last = last} {count = count} {size = size} {number = number} b r) f = absurd (by_case (eqb last 1) f)
  where
    by_case : (t : Bool) → (pick t (format_ended (At ssc last 0 count size number)) (entry_ended (At ssc last 0 count size number))).fine ≡ true → ⊥
    by_case true g = let part = format_part (At ssc last 0 count size number) g in omega arith
    by_case false g = let part = (entered (At ssc last 0 count size number) g).last in let more = wide last in omega arith
ended-read (in_format {word} {count} {size} {number} r) f = by_name (eqb number 0x736D) refl
  where
    by_name : (t : Bool) → eqb number 0x736D ≡ t → Read ((format_word ++ word) ++ (10 ∷ [])) (ended_of (At false 1 1 count size number))
    by_name true e =
        read_as (ap (λ (w : List ℕ). format_word ++ (w ++ (10 ∷ []))) (same-letters (spelt (115 ∷ 109 ∷ []) refl) r (sym (eqb-true number 0x736D e)))) (rw e) (in_word {count = count} (lines false [] none) no-letters)
    by_name false e =
        let is-ssc = met (eqb number 0x73_7363) _ _ (rw e at f) refl in
        read_as (ap (λ (w : List ℕ). format_word ++ (w ++ (10 ∷ []))) (same-letters (spelt (115 ∷ 115 ∷ 99 ∷ []) refl) r (sym (eqb-true number 0x73_7363 is-ssc)))) (rw (e, is-ssc)) (in_word {count = count} (lines true [] none) no-letters)
ended-read (in_number {ssc = ssc} {list = list} {part = part} {count = count} {size = size} {number = number} b o p r) f =
    let plain = part-list p in
    let e = entered (At ssc list part count size number) (rw plain at f) in
    rw plain (read_as refl (sym e.is) (entry-step b o p r e.last e.digits))
ended-read (in_unit {ssc = ssc} {count = count} b o hb hr hw no-unit) f = let none = (entered (At ssc 6 4 count 0 0) f).digits in absurd (omega arith)
ended-read (in_unit {done} {ssc = ssc} {beat = beat} {ratio = ratio} {wait = wait} {count = count} b o hb hr hw (a_unit {unit} h)) f =
    let e = entered (At ssc 6 4 count 1 unit) f in
    read_as (simp append_assoc) (sym e.is) (line_ended {done = done} (speed beat ratio wait unit) b o (speed-fits hb hr hw h) refl)

-- ---- every byte
data Kind : ℕ → Type 0 where
  feed : Kind 10
  equals : Kind 61
  comma : Kind 44
  character : {byte : ℕ} → Plain byte → Kind byte

kind : (byte : ℕ) → Kind byte
kind byte = first (eqb byte 10) refl
  where
    third : (t : Bool) → eqb byte 44 ≡ t → eqb byte 10 ≡ false → eqb byte 61 ≡ false → Kind byte
    third true e no_end no_equals = subst Kind (sym (eqb-true byte 44 e)) comma
    third false e no_end no_equals = character (record { no_end = no_end; no_equals = no_equals; no_comma = e })

    second : (t : Bool) → eqb byte 61 ≡ t → eqb byte 10 ≡ false → Kind byte
    second true e no_end = subst Kind (sym (eqb-true byte 61 e)) equals
    second false e no_end = third (eqb byte 44) refl no_end e

    first : (t : Bool) → eqb byte 10 ≡ t → Kind byte
    first true e = subst Kind (sym (eqb-true byte 10 e)) feed
    first false e = second (eqb byte 61) refl e

fine-read : {bytes : List ℕ} {reading : Reading} → Read bytes reading → reading.fine ≡ true
fine-read (in_word b r) = refl
fine-read (in_format r) = refl
fine-read (in_number b o p r) = refl
fine-read (in_unit b o hb hr hw r) = refl

fine-step : (reading next : Reading) → reading.fine ≡ true → pick reading.fine next reading ≡ next
fine-step reading next e = ap (λ (t : Bool). pick t next reading) e

byte-read : {bytes : List ℕ} {reading : Reading} (byte : ℕ) → Kind byte → Read bytes reading → (step_of reading byte).fine ≡ true → Read (bytes ++ (byte ∷ [])) (step_of reading byte)
unfolding step_of
byte-read {reading = reading} byte feed r f =
    let is = fine-step reading (ended_of reading) (fine-read r) in
    read_as refl (sym is) (ended-read r (sym (ap (λ (s : Reading). s.fine) is) ∙ f))
byte-read {reading = reading} byte equals r f =
    let is = fine-step reading (named_of reading) (fine-read r) in
    read_as refl (sym is) (named-read r (sym (ap (λ (s : Reading). s.fine) is) ∙ f))
byte-read {reading = reading} byte comma r f =
    let is = fine-step reading (comma_of reading) (fine-read r) in
    read_as refl (sym is) (comma-read r (sym (ap (λ (s : Reading). s.fine) is) ∙ f))
byte-read {reading = reading} byte (character p) r f =
    let is : step_of reading byte ≡ character_of reading byte = rw (p.no_end, p.no_equals, p.no_comma) (fine-step reading (character_of reading byte) (fine-read r)) in
    read_as refl (sym is) (character-read byte r (sym (ap (λ (s : Reading). s.fine) is) ∙ f))

-- what is broken stays so
no_step : (reading next : Reading) → reading.fine ≡ false → pick reading.fine next reading ≡ reading
no_step reading next e = ap (λ (t : Bool). pick t next reading) e

broken-step : (reading : Reading) (byte : ℕ) → reading.fine ≡ false → step_of reading byte ≡ reading
unfolding step_of
broken-step reading byte e = no_step reading _ e

broken-stays : (reading : Reading) (bytes : List ℕ) → reading.fine ≡ false → (read_on reading bytes).fine ≡ false
unfolding read_on
broken-stays reading [] e = e
broken-stays reading (byte ∷ bytes) e = broken-stays (step_of reading byte) bytes (ap (λ (s : Reading). s.fine) (broken-step reading byte e) ∙ e)

still-fine : (reading : Reading) (bytes : List ℕ) → (read_on reading bytes).fine ≡ true → reading.fine ≡ true
still-fine reading bytes f = by_case reading.fine refl
  where
    by_case : (t : Bool) → reading.fine ≡ t → reading.fine ≡ true
    by_case true e = e
    by_case false e = let z : ◌≡◌ {A = ℕ} 0 1 = cc (broken-stays reading bytes e) in absurd (omega arith)

bytes_read : {done : List ℕ} {reading : Reading} (bytes : List ℕ) → Read done reading → (read_on reading bytes).fine ≡ true → Read (done ++ bytes) (read_on reading bytes)
unfolding read_on
bytes_read {done = done} [] r f = read_as (sym (append-nil done)) refl r
bytes_read {done = done} {reading = reading} (byte ∷ bytes) r f =
    read_as (append_assoc done (byte ∷ []) bytes) refl (bytes_read {done = done ++ byte ∷ []} {reading = step_of reading byte} bytes (byte-read byte (kind byte) r (still-fine (step_of reading byte) bytes f)) f)

-- ---- a whole input
record IsWhole (reading : Reading) : Type 0 where
  fine : reading.fine ≡ true
  lined : eqb reading.list 0 ≡ false
  between : reading.part ≡ 0
  nothing_begun : reading.digits ≡ 0

is_whole : (reading : Reading) → whole reading ≡ true → IsWhole reading
unfolding whole
is_whole reading w =
    let fine = test reading.fine w in
    let lined = left (eqb reading.list 0) fine.1 in
    let between = left (ltb 0 reading.part) lined.1 in
    let no_part = between.0 in
    let no_digit = between.1 in
    record { fine = fine.0; lined = lined.0; between = omega (arith, ltb-false); nothing_begun = omega (arith, eqb-true, leb-true) }
  where
    left : (t : Bool) {u : Bool} → pick t false u ≡ true → (t ≡ false) × (u ≡ true)
    left false e = (refl, e)
    left true e = let z : ◌≡◌ {A = ℕ} 0 1 = cc in absurd (omega arith)

text_of : {bytes : List ℕ} {reading : Reading} → Read bytes reading → IsWhole reading → TextOf bytes
text_of (in_word no_line r) w = let z : ◌≡◌ {A = ℕ} 0 1 = cc w.lined in absurd (omega arith)
text_of (in_word (lines ssc entries o) no-letters) w = record { ssc = ssc; entries = entries; orderly = o; is = append-nil (text ssc entries) }
text_of (in_word (lines ssc entries o) (letter r low high few)) w = absurd (omega (arith, w.nothing_begun))
text_of (in_format r) w = absurd (omega (arith, w.between))
text_of (in_number b o p r) w = absurd (omega (arith, w.between, part-later p))
text_of (in_unit b o hb hr hw r) w = absurd (omega (arith, w.between))

pub whole_is_text : (bytes : List ℕ) → whole (read_on start bytes) ≡ true → TextOf bytes
whole_is_text bytes w = let is = is_whole (read_on start bytes) w in text_of (bytes_read bytes (in_word no_line no-letters) is.fine) is
