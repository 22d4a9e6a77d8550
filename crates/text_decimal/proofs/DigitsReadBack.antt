-- Digits read back: what is written of a number reads as that number, and digits are what is written of the number that they read as. Assumes nothing.
use Prim.Native.Nat.{ℕ, zero, suc, ◌+◌, ◌-◌, ◌*◌, ◌/◌, ◌%◌, ◌^◌, ◌≤◌, ◌<◌}
use mathlib.Core.Path.{◌≡◌, refl, sym, ap, ◌∙◌}
use mathlib.Core.Logic.{inl, inr, ◌≢◌}
use mathlib.Core.List.{List, [], ◌∷◌, ◌++◌}
use native.Mathlib.Omega.{arith}
use native.Mathlib.Nat.{pow-suc, mul_assoc, mul-le-mul_right, mul_comm, add-mul, mul_right_comm, pow-le-pow_right}
use borrow.Author.Tests.{lt-ltb, le-ltb}
use lib.Arith.{digits_div}
use lib.ListN.{length, get_or, length-append}
use Rattle.ieee.proofs.Closest.{lt_or_ge}
use Rattle.text_page.specs.Digits.{decimal_digits}
use Rattle.text_decimal.specs.Dec6.{lowest_digits}
use Rattle.text_decimal.specs.Reading.{AllDigits, read_digits}
use Rattle.text_decimal.proofs.DigitParts.{last-join, decimal_join}

-- ---- reading
pub read_join : (a : ℕ) (bytes more : List ℕ) → read_digits a (bytes ++ more) ≡ read_digits (read_digits a bytes) more
unfolding read_digits
read_join a [] more = refl
read_join a (byte ∷ bytes) more = read_join (a * 10 + (byte - 48)) bytes more

pub read_behind : (a : ℕ) (bytes : List ℕ) → read_digits a bytes ≡ a * 10 ^ length bytes + read_digits 0 bytes
unfolding read_digits
read_behind a [] = omega arith
read_behind a (byte ∷ bytes) =
    let n = length bytes in
    let p = 10 ^ n in
    let up : 10 ^ suc n ≡ p * 10 = pow-suc 10 n in
    let one = read_behind (a * 10 + (byte - 48)) bytes in
    let none = read_behind (0 * 10 + (byte - 48)) bytes in
    let parts : (a * 10 + (byte - 48)) * p ≡ a * 10 * p + (byte - 48) * p = add-mul (a * 10) (byte - 48) p in
    let parts' : (0 * 10 + (byte - 48)) * p ≡ 0 * 10 * p + (byte - 48) * p = add-mul (0 * 10) (byte - 48) p in
    let moved : a * 10 * p ≡ a * 10 ^ suc n = mul_assoc a 10 p ∙ ap (λ (x : ℕ). a * x) (mul_comm 10 p ∙ sym up) in
    let nothing : 0 * 10 * p ≡ 0 = omega arith in
    omega arith

pub read_below : (bytes : List ℕ) → AllDigits bytes → read_digits 0 bytes < 10 ^ length bytes
unfolding read_digits AllDigits
read_below [] d = omega arith
read_below (byte ∷ bytes) d =
    let n = length bytes in
    let up : 10 ^ suc n ≡ 10 ^ n * 10 = pow-suc 10 n in
    let rest = read_below bytes d.2 in
    let none = read_behind (0 * 10 + (byte - 48)) bytes in
    let most : (0 * 10 + (byte - 48)) * 10 ^ n ≤ 9 * 10 ^ n = mul-le-mul_right (10 ^ n) (omega (arith, d.1)) in
    omega arith

-- ---- what is written, read
-- the last k digits
pub reads-last : (k q r a : ℕ) → r < 10 ^ k → read_digits a (lowest_digits k (q * 10 ^ k + r)) ≡ a * 10 ^ k + r
unfolding lowest_digits read_digits
reads-last zero q r a R = omega arith
reads-last (suc k) q r a R =
    let up : 10 ^ suc k ≡ 10 ^ k * 10 = pow-suc 10 k in
    let moved : q * 10 ^ suc k ≡ q * 10 ^ k * 10 = ap (λ (x : ℕ). q * x) up ∙ sym (mul_assoc q (10 ^ k) 10) in
    let moved' : a * 10 ^ suc k ≡ a * 10 ^ k * 10 = ap (λ (x : ℕ). a * x) up ∙ sym (mul_assoc a (10 ^ k) 10) in
    let upper : (q * 10 ^ suc k + r) / 10 ≡ q * 10 ^ k + r / 10 = omega arith in
    let lower : (q * 10 ^ suc k + r) % 10 ≡ r % 10 = omega arith in
    let step = reads-last k q (r / 10) a (omega arith) in
    rw (read_join a (lowest_digits k ((q * 10 ^ suc k + r) / 10)) ((48 + (q * 10 ^ suc k + r) % 10) ∷ []), upper, lower, step) (omega arith)

-- a number
pub reads_decimal : (k n : ℕ) → 0 < k → n < 10 ^ k → read_digits 0 (decimal_digits k n) ≡ n
unfolding decimal_digits read_digits
reads_decimal zero n K h = absurd (omega arith)
reads_decimal (suc k) n K h =
    let up : 10 ^ suc k ≡ 10 ^ k * 10 = pow-suc 10 k in
    elim (lt_or_ge n 10) [
      | inl l ↦ rw (lt-ltb n 10 l) (omega arith)
      | inr g ↦
          rw (le-ltb n 10 g, read_join 0 (decimal_digits k (n / 10)) ((48 + n % 10) ∷ []), reads_decimal k (n / 10) (above k n g h) (omega arith)) (omega arith)
    ]
  where
    above : (k n : ℕ) → 10 ≤ n → n < 10 ^ suc k → 0 < k
    above zero n g h = absurd (omega arith)
    above (suc k) n g h = omega arith

-- ---- what is written is digits
digits-join : (bytes more : List ℕ) → AllDigits bytes → AllDigits more → AllDigits (bytes ++ more)
unfolding AllDigits
digits-join [] more d e = e
digits-join (byte ∷ bytes) more d e = (d.0, d.1, digits-join bytes more d.2 e)

one-digit : (n : ℕ) → n < 10 → AllDigits ((48 + n) ∷ [])
unfolding AllDigits
one-digit n h = (omega arith, omega arith, tt)

pub last_digits : (k n : ℕ) → AllDigits (lowest_digits k n)
unfolding AllDigits lowest_digits
last_digits zero n = tt
last_digits (suc k) n = digits-join (lowest_digits k (n / 10)) ((48 + n % 10) ∷ []) (last_digits k (n / 10)) (one-digit (n % 10) (omega arith))

pub decimal_digits_lem : (k n : ℕ) → AllDigits (decimal_digits k n)
unfolding AllDigits decimal_digits
decimal_digits_lem zero n = tt
decimal_digits_lem (suc k) n =
    elim (lt_or_ge n 10) [
      | inl l ↦ rw (lt-ltb n 10 l) (one-digit n l)
      | inr g ↦ rw (le-ltb n 10 g) (digits-join (decimal_digits k (n / 10)) ((48 + n % 10) ∷ []) (decimal_digits_lem k (n / 10)) (one-digit (n % 10) (omega arith)))
    ]

-- ---- no zero in front
first_of : (bytes more : List ℕ) → 0 < length bytes → get_or (bytes ++ more) 0 0 ≡ get_or bytes 0 0
first_of [] more h = absurd (omega arith)
first_of (byte ∷ bytes) more h = refl

-- a first digit that is no zero
pub record Leads (bytes : List ℕ) : Type 0 where
  pub some : 0 < length bytes
  pub no_zero : get_or bytes 0 0 ≢ 48

pub leads : (k n : ℕ) → 0 < n → n < 10 ^ k → Leads (decimal_digits k n)
unfolding decimal_digits
leads zero n N h = absurd (omega arith)
leads (suc k) n N h =
    let up : 10 ^ suc k ≡ 10 ^ k * 10 = pow-suc 10 k in
    elim (lt_or_ge n 10) [
      | inl l ↦ rw (lt-ltb n 10 l) (record { some = omega arith; no_zero = λ e. omega arith })
      | inr g ↦
          let rest = leads k (n / 10) (omega arith) (omega arith) in
          rw (le-ltb n 10 g)
          (record {
            some = omega (arith, rest.some, length-append (decimal_digits k (n / 10)) ((48 + n % 10) ∷ []));
            no_zero = λ e. rest.no_zero (sym (first_of (decimal_digits k (n / 10)) ((48 + n % 10) ∷ []) rest.some) ∙ e);
          })
    ]

-- ---- digits are what is written of the number that they read as
pub last_of : (bytes : List ℕ) (q : ℕ) → AllDigits bytes → lowest_digits (length bytes) (q * 10 ^ length bytes + read_digits 0 bytes) ≡ bytes
unfolding AllDigits lowest_digits read_digits
last_of [] q d = refl
last_of (byte ∷ bytes) q d =
    let n = length bytes in
    let p = 10 ^ n in
    let rest = read_digits 0 bytes in
    let digit = byte - 48 in
    let up : 10 ^ suc n ≡ p * 10 = pow-suc 10 n in
    let behind : read_digits (0 * 10 + digit) bytes ≡ (0 * 10 + digit) * p + rest = read_behind (0 * 10 + digit) bytes in
    let same : 0 * 10 + digit ≡ digit = omega arith in
    let moved : q * 10 ^ suc n ≡ q * 10 * p = ap (λ (x : ℕ). q * x) up ∙ sym (mul_assoc q p 10) ∙ mul_right_comm q p 10 in
    let parts : (q * 10 + digit) * p ≡ q * 10 * p + digit * p = add-mul (q * 10) digit p in
    let none : (0 * 10 + digit) * p ≡ digit * p = ap (λ (x : ℕ). x * p) same in
    let all : q * 10 ^ suc n + read_digits (0 * 10 + digit) bytes ≡ (q * 10 + digit) * p + rest = omega arith in
    let one_more : suc n ≡ 1 + n = omega arith in
    let first : ((q * 10 + digit) * p + rest) / p ≡ q * 10 + digit = digits_div (q * 10 + digit) (read_below bytes d.2) in
    let byte-is : 48 + (q * 10 + digit) % 10 ≡ byte = omega (arith, d.0, d.1) in
    ap (lowest_digits (suc n)) all
    ∙ ap (λ (k : ℕ). lowest_digits k ((q * 10 + digit) * p + rest)) one_more
    ∙ last-join 1 n ((q * 10 + digit) * p + rest)
    ∙ ap (λ (x : ℕ). lowest_digits 1 x ++ lowest_digits n ((q * 10 + digit) * p + rest)) first
    ∙ ap (λ (l : List ℕ). lowest_digits 1 (q * 10 + digit) ++ l) (last_of bytes (q * 10 + digit) d.2)
    ∙ ap (λ (x : ℕ). x ∷ bytes) byte-is

-- one digit
single : (k byte : ℕ) → 0 < k → 48 ≤ byte → byte ≤ 57 → decimal_digits k (0 * 10 + (byte - 48)) ≡ byte ∷ []
unfolding decimal_digits
single zero byte K l h = absurd (omega arith)
single (suc k) byte K l h =
    let same : 48 + (0 * 10 + (byte - 48)) ≡ byte = omega arith in
    rw (lt-ltb (0 * 10 + (byte - 48)) 10 (omega arith)) (ap (λ (x : ℕ). x ∷ []) same)

-- a number without a zero in front
pub decimal_of : (bytes : List ℕ) (k : ℕ) → AllDigits bytes → 0 < length bytes → length bytes ≤ k → (1 < length bytes → get_or bytes 0 0 ≢ 48) → decimal_digits k (read_digits 0 bytes) ≡ bytes
unfolding AllDigits read_digits
decimal_of [] k d some few z = absurd (omega arith)
decimal_of (byte ∷ []) k d some few z = single k byte (omega arith) d.0 d.1
decimal_of (byte ∷ next ∷ bytes) k d some few z =
    let rest = next ∷ bytes in
    let n = length rest in
    let digit = 0 * 10 + (byte - 48) in
    let other : byte ≢ 48 = z (omega arith) in
    let behind : read_digits digit rest ≡ digit * 10 ^ n + read_digits 0 rest = read_behind digit rest in
    let above : 0 < digit = lt_of_ne byte d.0 other in
    let fuel : k ≡ (k - n) + n = omega arith in
    ap (decimal_digits k) behind
    ∙ ap (λ (x : ℕ). decimal_digits x (digit * 10 ^ n + read_digits 0 rest)) fuel
    ∙ decimal_join (k - n) n digit (read_digits 0 rest) above (read_below rest d.2)
    ∙ ap (λ (l : List ℕ). l ++ lowest_digits n (read_digits 0 rest)) (single (k - n) byte (omega arith) d.0 d.1)
    ∙ ap (λ (x : ℕ). byte ∷ lowest_digits n x) (omega_zero (read_digits 0 rest) (10 ^ n))
    ∙ ap (λ (l : List ℕ). byte ∷ l) (last_of rest 0 d.2)
  where
    lt_of_ne : (byte : ℕ) → 48 ≤ byte → byte ≢ 48 → 0 < 0 * 10 + (byte - 48)
    lt_of_ne byte l o = elim (lt_or_ge 48 byte) [
      | inl g ↦ omega arith
      | inr g ↦ absurd (o (omega arith))
    ]

    omega_zero : (x p : ℕ) → x ≡ 0 * p + x
    omega_zero x p = omega arith

-- how many digits a number without a zero in front has
pub few-digits : (bytes : List ℕ) (k : ℕ) → AllDigits bytes → 0 < k → (1 < length bytes → get_or bytes 0 0 ≢ 48) → read_digits 0 bytes < 10 ^ k → length bytes ≤ k
unfolding AllDigits read_digits
few-digits [] k d K z h = omega arith
few-digits (byte ∷ []) k d K z h = omega arith
few-digits (byte ∷ next ∷ bytes) k d K z h = elim (lt_or_ge (length (next ∷ bytes)) k) [
  | inl l ↦ omega arith
  | inr g ↦
      let rest = next ∷ bytes in
      let n = length rest in
      let digit = 0 * 10 + (byte - 48) in
      let behind : read_digits digit rest ≡ digit * 10 ^ n + read_digits 0 rest = read_behind digit rest in
      let above : 1 ≤ digit = lt_of_ne byte d.0 (z (omega arith)) in
      let most : 1 * 10 ^ n ≤ digit * 10 ^ n = mul-le-mul_right (10 ^ n) above in
      let up : 10 ^ k ≤ 10 ^ n = pow-le-pow_right {n = 10} (omega arith) {i = k} {j = n} g in
      absurd (omega arith)
]
  where
    lt_of_ne : (byte : ℕ) → 48 ≤ byte → byte ≢ 48 → 1 ≤ 0 * 10 + (byte - 48)
    lt_of_ne byte l o = elim (lt_or_ge 48 byte) [
      | inl g ↦ omega arith
      | inr g ↦ absurd (o (omega arith))
    ]
