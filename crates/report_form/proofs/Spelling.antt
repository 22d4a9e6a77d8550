-- The letters of a word and the digits of a number, as the number tells them that they make: no other word names a list, and no other digits are a number's.
-- Assumes nothing.
use Prim.Native.Nat.{ℕ, zero, suc, ◌+◌, ◌*◌, ◌^◌, ◌/◌, ◌%◌, ◌≤◌, ◌<◌}
use mathlib.Core.Path.{◌≡◌, refl, sym, ap, subst, ◌∙◌}
use mathlib.Core.Bool.{Bool, true, false}
use mathlib.Core.List.{List, [], ◌∷◌, ◌++◌, append_assoc, append-nil}
use native.Mathlib.Numerals.{add-one}
use native.Mathlib.Omega.{arith}
use native.Mathlib.Nat.{div-div-eq-div-mul, div-one, pow-suc, pow-succ'}
use borrow.Author.Tests.{ltb-true, leb-true, eqb-true}
use lib.Dec.{ltb, leb, eqb}
use Rattle.picks.specs.Pick.{pick}
use Rattle.ieee_patterns.specs.Hex.{hex_digit, hex_text}
use Rattle.report_form.specs.Form.{list_named}
use Rattle.report_form.specs.Text.{Pair, bpm, stop, delay, warp, scroll, fake, pair_list, pair_word, speed_word}

-- ---- the letters of a word, and the number that they make
pub data Letters : List ℕ → ℕ → ℕ → Type 0 where
  no-letters : Letters [] 0 0
  letter : {word : List ℕ} {size number byte : ℕ} → Letters word size number → 97 ≤ byte → byte ≤ 122 → size < 6 → Letters (word ++ (byte ∷ [])) (size + 1) (number * 256 + byte)

pub few-letters : {word : List ℕ} {size number : ℕ} → Letters word size number → size ≤ 6
few-letters no-letters = omega arith
few-letters (letter r low high few) = omega arith

pub letters-below : {word : List ℕ} {size number : ℕ} → Letters word size number → number < 256 ^ size
letters-below no-letters = omega arith
letters-below (letter {size = k} {number = n} r low high few) = let below = letters-below r in rw (add-one k, pow-suc 256 k) (omega arith)

-- the number tells the letters
pub same-letters : {v w : List ℕ} {i j m n : ℕ} → Letters v i m → Letters w j n → m ≡ n → v ≡ w
same-letters no-letters no-letters e = refl
same-letters no-letters (letter r low high few) e = absurd (omega arith)
same-letters (letter q low high few) no-letters e = absurd (omega arith)
same-letters (letter {word = v} {number = m} {byte = x} q low high few) (letter {word = w} {number = n} {byte = y} r low' high' few') e =
    let last : x ≡ y = omega arith in
    let rest : m ≡ n = omega arith in
    let front : v ≡ w = same-letters q r rest in
    cc

-- the letters of a word that is written out
unfoldable pub letters_in : ℕ → List ℕ → Bool
letters_in size [] = true
letters_in size (byte ∷ bytes) = pick (leb 97 byte) (pick (leb byte 122) (pick (ltb size 6) (letters_in (size + 1) bytes) false) false) false

unfoldable pub number_is : ℕ → List ℕ → ℕ
number_is number [] = number
number_is number (byte ∷ bytes) = number_is (number * 256 + byte) bytes

unfoldable pub size_is : ℕ → List ℕ → ℕ
size_is size [] = size
size_is size (byte ∷ bytes) = size_is (size + 1) bytes

pub test : (t : Bool) {u : Bool} → pick t u false ≡ true → (t ≡ true) × (u ≡ true)
test true e = (refl, e)
test false e = let z : ◌≡◌ {A = ℕ} 0 1 = cc in absurd (omega arith)

spelt-on : {word : List ℕ} {size number : ℕ} → Letters word size number → (bytes : List ℕ) → letters_in size bytes ≡ true → Letters (word ++ bytes) (size_is size bytes) (number_is number bytes)
unfolding letters_in number_is size_is
spelt-on {word = word} r [] e = rw append-nil r
spelt-on {word = word} {size = size} r (byte ∷ bytes) e =
    let low = test (leb 97 byte) e in
    let high = test (leb byte 122) low.1 in
    let few = test (ltb size 6) high.1 in
    rw append_assoc at (spelt-on {word = word ++ byte ∷ []} (letter r (leb-true 97 byte low.0) (leb-true byte 122 high.0) (ltb-true size 6 few.0)) bytes few.1)

pub spelt : (word : List ℕ) → letters_in 0 word ≡ true → Letters word (size_is 0 word) (number_is 0 word)
spelt word e = spelt-on no-letters word e

-- the list that a word names has that word
pub data Named : ℕ → List ℕ → Type 0 where
  a_pair : (of : Pair) → Named (pair_list of) (pair_word of)
  a-speed : Named 6 speed_word

pub by-test : (P : ℕ → Type 0) (t : Bool) {k rest : ℕ} → (t ≡ true → P k) → (t ≡ false → P rest) → P (pick t k rest)
by-test P true met unmet = met refl
by-test P false met unmet = unmet refl

pub named_by : {word : List ℕ} {size number : ℕ} → Letters word size number → 1 < list_named number → Named (list_named number) word
unfolding list_named letters_in number_is
named_by {word} {size} {number} r =
    let P : ℕ → Type 0 = λ (k : ℕ). 1 < k → Named k word in
    by-test P (eqb number 0x666F_726D_6174) (λ e h. absurd (omega arith))
    (λ _. by-test P (eqb number 0x62_706D) (λ e h. worded (a_pair bpm) (spelt (pair_word bpm) refl) e)
    (λ _. by-test P (eqb number 0x7374_6F70) (λ e h. worded (a_pair stop) (spelt (pair_word stop) refl) e)
    (λ _. by-test P (eqb number 0x64_656C_6179) (λ e h. worded (a_pair delay) (spelt (pair_word delay) refl) e)
    (λ _. by-test P (eqb number 0x7761_7270) (λ e h. worded (a_pair warp) (spelt (pair_word warp) refl) e)
    (λ _. by-test P (eqb number 0x73_7065_6564) (λ e h. worded a-speed (spelt speed_word refl) e)
    (λ _. by-test P (eqb number 0x7363_726F_6C6C) (λ e h. worded (a_pair scroll) (spelt (pair_word scroll) refl) e)
    (λ _. by-test P (eqb number 0x6661_6B65) (λ e h. worded (a_pair fake) (spelt (pair_word fake) refl) e)
    (λ _ h. absurd (omega arith)))))))))
  where
    worded : {k i n : ℕ} {known : List ℕ} → Named k known → Letters known i n → eqb number n ≡ true → Named k word
    worded {k} {i} {n} named l e = subst (λ (w : List ℕ). Named k w) (same-letters l r (sym (eqb-true number n e))) named

-- ---- the digits of a number
pub data Digits : List ℕ → ℕ → ℕ → Type 0 where
  no-digits : Digits [] 0 0
  digit : {word : List ℕ} {size number value : ℕ} → Digits word size number → value < 16 → Digits (word ++ (hex_digit value ∷ [])) (size + 1) (number * 16 + value)

pub digits-below : {word : List ℕ} {size number : ℕ} → Digits word size number → number < 16 ^ size
digits-below no-digits = omega arith
digits-below (digit {size = k} r l) = let below = digits-below r in rw (add-one k, pow-suc 16 k) (omega arith)

digit-behind : (k n v : ℕ) → v < 16 → hex_text (suc k) (n * 16 + v) ≡ hex_text k n ++ (hex_digit v ∷ [])
unfolding hex_text
digit-behind zero n v l = let only : (n * 16 + v) % 16 ≡ v = omega arith in rw (div-one, only)
digit-behind (suc k) n v l =
    let front : (n * 16 + v) / 16 ≡ n = omega arith in
    let lead : (n * 16 + v) / 16 ^ suc k ≡ n / 16 ^ k = ap (λ (d : ℕ). (n * 16 + v) / d) (pow-succ' 16 k) ∙ sym (div-div-eq-div-mul (n * 16 + v) 16 (16 ^ k)) ∙ ap (λ (m : ℕ). m / 16 ^ k) front in
    rw lead (ap (λ (l : List ℕ). hex_digit (n / 16 ^ k % 16) ∷ l) (digit-behind k n v l))

pub digits-text : {word : List ℕ} {size number : ℕ} → Digits word size number → word ≡ hex_text size number
unfolding hex_text
digits-text no-digits = refl
digits-text (digit {word = w} {size = k} {number = n} {value = v} r l) =
    ap (λ (t : List ℕ). t ++ (hex_digit v ∷ [])) (digits-text r) ∙ sym (digit-behind k n v l) ∙ ap (λ (i : ℕ). hex_text i (n * 16 + v)) (sym (add-one k))
