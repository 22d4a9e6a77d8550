-- An entry's line is read whole: it leads to the state between two lines with one entry more, and stores the entry's numbers. Assumes nothing.
use Prim.Native.Nat.{ℕ, zero, suc, ◌+◌, ◌-◌, ◌*◌, ◌^◌, ◌/◌, ◌%◌, ◌≤◌, ◌<◌}
use mathlib.Core.Path.{◌≡◌, refl, sym, ap, ◌∙◌}
use mathlib.Core.Bool.{Bool, true, false}
use mathlib.Core.List.{List, [], ◌∷◌, ◌++◌}
use native.Mathlib.Omega.{arith}
use native.Mathlib.Nat.{div-add-mod', div-div-eq-div-mul, div-le_self, div-one, pow-suc, mod-eq_of_lt}
use borrow.Author.Tests.{lt-ltb, le-ltb, le-leb, lt-leb, ne_eqb, ltb-true, ltb-false}
use lib.Dec.{ltb, eqb}
use Rattle.picks.specs.Pick.{pick}
use Rattle.ieee_patterns.specs.Hex.{hex_value, hex_digit, hex_text}
use Rattle.report_form.specs.declared.Reading.{Reading}
use Rattle.report_form.specs.declared.Store.{Store}
use Rattle.report_form.specs.Form.{hex_of, unit_read, letter_of, character_of, list_named, follows, begun, opened, named_of, width_of, last_digits_of, comma_of, more, entry_ended, ended_of, step_of, read_on}
use Rattle.report_form.specs.Stores.{nothing, store_of, stores_with, stores_of}
use Rattle.report_form.specs.Text.{Pair, bpm, stop, delay, warp, scroll, fake, Entry, pair, speed, pair_list, entry_list, pair_word, speed_word, entry_line}
use Rattle.report_form.specs.Orderly.{Fits, pair_fits, speed-fits}
use Rattle.report_form.proofs.Pieces.{Reads, reads_none, reads-join, reads_byte, reads-store}

-- a byte that is no separator
pub record Plain (byte : ℕ) : Type 0 where
  pub no_end : eqb byte 10 ≡ false
  pub no_equals : eqb byte 61 ≡ false
  pub no_comma : eqb byte 44 ≡ false

digit-plain : (v : ℕ) → v < 10 → Plain (v + 48)
digit-plain v h =
    record {
      no_end = ne_eqb (v + 48) 10 (λ (e : v + 48 ≡ 10). omega arith);
      no_equals = ne_eqb (v + 48) 61 (λ (e : v + 48 ≡ 61). omega arith);
      no_comma = ne_eqb (v + 48) 44 (λ (e : v + 48 ≡ 44). omega arith);
    }

letter-plain : (v : ℕ) → 10 ≤ v → Plain (v + 55)
letter-plain v h =
    record {
      no_end = ne_eqb (v + 55) 10 (λ (e : v + 55 ≡ 10). omega arith);
      no_equals = ne_eqb (v + 55) 61 (λ (e : v + 55 ≡ 61). omega arith);
      no_comma = ne_eqb (v + 55) 44 (λ (e : v + 55 ≡ 44). omega arith);
    }

plain-store : (from to : Reading) (byte : ℕ) → Plain byte → store_of from byte to ≡ nothing
unfolding store_of
plain-store from to byte p = rw (p.no_end, p.no_comma) (either to.fine)
  where
    either : (t : Bool) → pick t nothing nothing ≡ nothing
    either true = refl
    either false = refl

-- a hexadecimal digit is no separator, and has its value
record Digit (v : ℕ) : Type 0 where
  plain : Plain (hex_digit v)
  value : hex_value (hex_digit v) ≡ v

digit : (v : ℕ) → v < 16 → Digit v
unfolding hex_digit hex_value
digit v h = by_case (ltb v 10) refl
  where
    by_case : (t : Bool) → ltb v 10 ≡ t → Digit v
    by_case true e =
        let low = ltb-true v 10 e in
        record { plain = rw e (digit-plain v low); value = rw (e, le-ltb (v + 48) 48 (omega arith), le-leb (v + 48) 57 (omega arith)) (omega arith) }
    by_case false e =
        let high = ltb-false v 10 e in
        record {
          plain = rw e (letter-plain v high);
          value = rw (e, le-ltb (v + 55) 48 (omega arith), lt-leb (v + 55) 57 (omega arith), le-ltb (v + 55) 65 (omega arith), le-leb (v + 55) 70 (omega arith)) (omega arith);
        }

-- inside part `part` of a line: so many characters read, which make a number
abbrev pub At : Bool → ℕ → ℕ → ℕ → ℕ → ℕ → Reading
At ssc list part count digits number = record { fine = true; ssc = ssc; list = list; part = part; digits = digits; number = number; count = count }

-- between lines
abbrev pub Between : Bool → ℕ → ℕ → Reading
Between ssc list count = At ssc list 0 count 0 0

abbrev pub Stored : ℕ → ℕ → ℕ → ℕ → ℕ → Store
Stored list part at number count = record { list = list; part = part; at = at; number = number; count = count }

-- ---- a number: the first digits of N are N / 16 ^ k where k are still to come
next-digit : (N k : ℕ) → N / 16 ^ suc k * 16 + N / 16 ^ k % 16 ≡ N / 16 ^ k
next-digit N k =
    let split : N / 16 ^ suc k ≡ N / 16 ^ k / 16 = ap (λ (x : ℕ). N / x) (pow-suc 16 k) ∙ sym (div-div-eq-div-mul N (16 ^ k) 16) in
    rw split (div-add-mod' (N / 16 ^ k) 16)

places : (k : ℕ) → suc k ≤ 16 → 16 - suc k + 1 ≡ 16 - k
places k l = omega arith

lead : (N k : ℕ) → N < 2 ^ 64 → N / 16 ^ suc k < 2 ^ 60
lead N k h =
    let split : N / 16 ^ suc k ≡ N / 16 ^ k / 16 = ap (λ (x : ℕ). N / x) (pow-suc 16 k) ∙ sym (div-div-eq-div-mul N (16 ^ k) 16) in
    let most = div-le_self N (16 ^ k) in
    rw split (omega arith)

zero-lead : (N : ℕ) → N < 2 ^ 64 → N / 16 ^ 16 ≡ 0
zero-lead N h = omega arith

module _ (ssc : Bool) (list part count : ℕ) (hex : (j m byte : ℕ) → character_of (At ssc list part count j m) byte ≡ hex_of (At ssc list part count j m) byte) where
  step-digit : (j m v : ℕ) → v < 16 → j < 16 → m < 2 ^ 60 → step_of (At ssc list part count j m) (hex_digit v) ≡ At ssc list part count (j + 1) (m * 16 + v)
  unfolding step_of hex_of
  step-digit j m v hv hj hm =
      let d = digit v hv in
      rw (d.plain.no_end, d.plain.no_equals, d.plain.no_comma, hex j m (hex_digit v), lt-ltb j 16 hj, d.value, lt-ltb v 16 hv, mod-eq_of_lt hm)

  same : {i j m n : ℕ} → i ≡ j → m ≡ n → At ssc list part count i m ≡ At ssc list part count j n
  same a b = cc

  digits-read : (k N : ℕ) → N < 2 ^ 64 → k ≤ 16 → Reads (At ssc list part count (16 - k) (N / 16 ^ k)) (hex_text k N) (At ssc list part count 16 N) []
  unfolding hex_text
  digits-read zero N h l = rw (div-one N) (reads_none _)
  digits-read (suc k) N h l =
      let from = At ssc list part count (16 - suc k) (N / 16 ^ suc k) in
      let to = At ssc list part count (16 - k) (N / 16 ^ k) in
      let v = N / 16 ^ k % 16 in
      let low : v < 16 = omega arith in
      let grows : step_of from (hex_digit v) ≡ to = step-digit (16 - suc k) (N / 16 ^ suc k) v low (omega arith) (lead N k h) ∙ same (places k l) (next-digit N k) in
      reads-join (reads_byte from to (hex_digit v) grows (plain-store from to (hex_digit v) (digit v low).plain)) (digits-read k N h (omega arith))

  -- sixteen digits are read as the number whose digits they are, and nothing is stored on the way
  pub number_read : (N : ℕ) → N < 2 ^ 64 → Reads (At ssc list part count 0 0) (hex_text 16 N) (At ssc list part count 16 N) []
  number_read N h = rw (zero-lead N h) at (digits-read 16 N h (omega arith))

-- ---- a word
-- how many entries of the line's list stand before it
abbrev pub before : ℕ → ℕ → ℕ → ℕ
before next list count = pick (eqb next list) count 0

record Word (next : ℕ) (word : List ℕ) : Type 0 where
  worded : Bool → ℕ → ℕ → Reading
  letters : (ssc : Bool) (list count : ℕ) → Reads (Between ssc list count) word (worded ssc list count) []
  equals : (ssc : Bool) (list count : ℕ) → follows list next ≡ true → step_of (worded ssc list count) 61 ≡ At ssc next 1 (before next list count) 0 0

pub open_is : (reading : Reading) (next : ℕ) → opened reading next ≡ begun reading next (pick (eqb next reading.list) reading.count 0)
unfolding opened
open_is reading next = by_case (eqb next reading.list)
  where
    by_case : (t : Bool) → pick t (begun reading next reading.count) (begun reading next 0) ≡ begun reading next (pick t reading.count 0)
    by_case true = refl
    by_case false = refl

-- the state at the equals sign: its letters, and the number that they make
abbrev Worded : ℕ → ℕ → Bool → ℕ → ℕ → Reading
Worded size number ssc list count = At ssc list 0 count size number

pair-word : (of : Pair) → Word (pair_list of) (pair_word of)
unfolding read_on step_of character_of letter_of stores_of store_of stores_with named_of list_named
pair-word bpm =
    record {
      worded = Worded 3 0x62_706D;
      letters = λ ssc list count. record { state = λ rest. refl; made = λ rest. refl };
      equals = λ ssc list count h. rw h (open_is (Worded 3 0x62_706D ssc list count) 2);
    }
pair-word stop =
    record {
      worded = Worded 4 0x7374_6F70;
      letters = λ ssc list count. record { state = λ rest. refl; made = λ rest. refl };
      equals = λ ssc list count h. rw h (open_is (Worded 4 0x7374_6F70 ssc list count) 3);
    }
pair-word delay =
    record {
      worded = Worded 5 0x64_656C_6179;
      letters = λ ssc list count. record { state = λ rest. refl; made = λ rest. refl };
      equals = λ ssc list count h. rw h (open_is (Worded 5 0x64_656C_6179 ssc list count) 4);
    }
pair-word warp =
    record {
      worded = Worded 4 0x7761_7270;
      letters = λ ssc list count. record { state = λ rest. refl; made = λ rest. refl };
      equals = λ ssc list count h. rw h (open_is (Worded 4 0x7761_7270 ssc list count) 5);
    }
pair-word scroll =
    record {
      worded = Worded 6 0x7363_726F_6C6C;
      letters = λ ssc list count. record { state = λ rest. refl; made = λ rest. refl };
      equals = λ ssc list count h. rw h (open_is (Worded 6 0x7363_726F_6C6C ssc list count) 7);
    }
pair-word fake =
    record {
      worded = Worded 4 0x6661_6B65;
      letters = λ ssc list count. record { state = λ rest. refl; made = λ rest. refl };
      equals = λ ssc list count h. rw h (open_is (Worded 4 0x6661_6B65 ssc list count) 8);
    }

speed-word : Word 6 speed_word
unfolding read_on step_of character_of letter_of stores_of store_of stores_with named_of list_named
speed-word =
    record {
      worded = Worded 5 0x73_7065_6564;
      letters = λ ssc list count. record { state = λ rest. refl; made = λ rest. refl };
      equals = λ ssc list count h. rw h (open_is (Worded 5 0x73_7065_6564 ssc list count) 6);
    }

-- ---- which digits a part has, and what ends it
pub pair_hex : (of : Pair) (ssc : Bool) (part count : ℕ) → 1 ≤ part → (j m byte : ℕ) → character_of (At ssc (pair_list of) part count j m) byte ≡ hex_of (At ssc (pair_list of) part count j m) byte
unfolding character_of
pair_hex bpm ssc part count h j m byte = rw (ne_eqb part 0 (λ (e : part ≡ 0). omega arith))
pair_hex stop ssc part count h j m byte = rw (ne_eqb part 0 (λ (e : part ≡ 0). omega arith))
pair_hex delay ssc part count h j m byte = rw (ne_eqb part 0 (λ (e : part ≡ 0). omega arith))
pair_hex warp ssc part count h j m byte = rw (ne_eqb part 0 (λ (e : part ≡ 0). omega arith))
pair_hex scroll ssc part count h j m byte = rw (ne_eqb part 0 (λ (e : part ≡ 0). omega arith))
pair_hex fake ssc part count h j m byte = rw (ne_eqb part 0 (λ (e : part ≡ 0). omega arith))

pub speed_hex : (ssc : Bool) (part count : ℕ) → 1 ≤ part → part ≤ 3 → (j m byte : ℕ) → character_of (At ssc 6 part count j m) byte ≡ hex_of (At ssc 6 part count j m) byte
unfolding character_of
speed_hex ssc part count low high j m byte = rw (ne_eqb part 0 (λ (e : part ≡ 0). omega arith), ne_eqb part 4 (λ (e : part ≡ 4). omega arith))

pub pair-named : (of : Pair) → eqb (pair_list of) 0 ≡ false
pair-named bpm = refl
pair-named stop = refl
pair-named delay = refl
pair-named warp = refl
pair-named scroll = refl
pair-named fake = refl

comma-read : (ssc : Bool) (list part count N : ℕ) → part < width_of list → eqb list 0 ≡ false
    → Reads (At ssc list part count 16 N) (44 ∷ []) (At ssc list (part + 1) count 0 0) (Stored list part count N count ∷ [])
unfolding step_of comma_of store_of
comma-read ssc list part count N h k =
    reads-store (At ssc list part count 16 N) (At ssc list (part + 1) count 0 0) 44 (Stored list part count N count) (rw (lt-ltb part (width_of list) h)) refl k

pub pair_width : (of : Pair) → width_of (pair_list of) ≡ 2
unfolding width_of
pair_width bpm = refl
pair_width stop = refl
pair_width delay = refl
pair_width warp = refl
pair_width scroll = refl
pair_width fake = refl

pair_end : (of : Pair) (ssc : Bool) (count N : ℕ) → Reads (At ssc (pair_list of) 2 count 16 N) (10 ∷ []) (Between ssc (pair_list of) (more count)) (Stored (pair_list of) 2 count N (more count) ∷ [])
unfolding step_of ended_of entry_ended width_of last_digits_of store_of
pair_end of ssc count N = reads-store _ _ 10 _ (ends of) stores (pair-named of)
  where
    ends : (of : Pair) → step_of (At ssc (pair_list of) 2 count 16 N) 10 ≡ Between ssc (pair_list of) (more count)
    ends bpm = refl
    ends stop = refl
    ends delay = refl
    ends warp = refl
    ends scroll = refl
    ends fake = refl

    stores : store_of (At ssc (pair_list of) 2 count 16 N) 10 (Between ssc (pair_list of) (more count)) ≡ Stored (pair_list of) 2 count N (more count)
    stores = refl

unit-read : (ssc : Bool) (count unit : ℕ) → unit < 10 → Reads (At ssc 6 4 count 0 0) ((unit + 48) ∷ []) (At ssc 6 4 count 1 unit) []
unfolding step_of character_of unit_read
unit-read ssc count unit h =
    let p = digit-plain unit h in
    let back : unit + 48 - 48 ≡ unit = omega arith in
    reads_byte (At ssc 6 4 count 0 0) (At ssc 6 4 count 1 unit) (unit + 48)
    (rw (p.no_end, p.no_equals, p.no_comma, le-ltb (unit + 48) 48 (omega arith), le-ltb 57 (unit + 48) (omega arith), back)) (plain-store _ _ (unit + 48) p)

speed-end : (ssc : Bool) (count unit : ℕ) → Reads (At ssc 6 4 count 1 unit) (10 ∷ []) (Between ssc 6 (more count)) (Stored 6 4 count unit (more count) ∷ [])
unfolding step_of ended_of entry_ended width_of last_digits_of store_of
speed-end ssc count unit = reads-store (At ssc 6 4 count 1 unit) (Between ssc 6 (more count)) 10 (Stored 6 4 count unit (more count)) refl refl refl

-- ---- the line
-- what the line of an entry stores, at the entry's place in its list
abbrev pub entry_stores : Entry → ℕ → List Store
entry_stores (pair of beat value) at = Stored (pair_list of) 1 at beat at ∷ Stored (pair_list of) 2 at value (more at) ∷ []
entry_stores (speed beat ratio wait unit) at = Stored 6 1 at beat at ∷ Stored 6 2 at ratio at ∷ Stored 6 3 at wait at ∷ Stored 6 4 at unit (more at) ∷ []

word_read : (next : ℕ) (word : List ℕ) → Word next word → (ssc : Bool) (list count : ℕ) → follows list next ≡ true → (rest : List ℕ) (to : Reading) (stores : List Store)
    → Reads (At ssc next 1 (before next list count) 0 0) rest to stores → Reads (Between ssc list count) (word ++ (61 ∷ rest)) to stores
unfolding store_of
word_read next word w ssc list count h rest to stores r =
    reads-join (w.letters ssc list count) (reads-join (reads_byte (w.worded ssc list count) _ 61 (w.equals ssc list count h) refl) r)

pub line_read : (entry : Entry) → Fits entry → (ssc : Bool) (list count : ℕ) → follows list (entry_list entry) ≡ true
    → Reads (Between ssc list count) (entry_line entry) (Between ssc (entry_list entry) (more (before (entry_list entry) list count))) (entry_stores entry (before (entry_list entry) list count))
unfolding entry_line width_of
line_read (pair of beat value) (pair_fits b v) ssc list count h =
    let k = pair_list of in
    let at = before k list count in
    word_read k (pair_word of) (pair-word of) ssc list count h _ _ _
    (reads-join (number_read ssc k 1 at (pair_hex of ssc 1 at (omega arith)) beat b)
    (reads-join (comma-read ssc k 1 at beat (rw (pair_width of) (omega arith)) (pair-named of))
    (reads-join (number_read ssc k 2 at (pair_hex of ssc 2 at (omega arith)) value v)
    (pair_end of ssc at value))))
line_read (speed beat ratio wait unit) (speed-fits b r w u) ssc list count h =
    let at = before 6 list count in
    word_read 6 speed_word speed-word ssc list count h _ _ _
    (reads-join (number_read ssc 6 1 at (speed_hex ssc 1 at (omega arith) (omega arith)) beat b)
    (reads-join (comma-read ssc 6 1 at beat (wide 1 (omega arith)) refl)
    (reads-join (number_read ssc 6 2 at (speed_hex ssc 2 at (omega arith) (omega arith)) ratio r)
    (reads-join (comma-read ssc 6 2 at ratio (wide 2 (omega arith)) refl)
    (reads-join (number_read ssc 6 3 at (speed_hex ssc 3 at (omega arith) (omega arith)) wait w)
    (reads-join (comma-read ssc 6 3 at wait (wide 3 (omega arith)) refl)
    (reads-join (unit-read ssc at unit u)
    (speed-end ssc at unit))))))))
  where
    wide : (part : ℕ) → part < 4 → part < width_of 6
    wide part l = l
