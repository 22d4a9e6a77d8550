-- The bit pattern of what `round` makes, over the format: with k digits dropped and the number q kept, it is k * hid + q, and no more than an infinity's, with the sign above.
-- A carry out of q, a subnormal result and an overflow need no case of their own. Assumes nothing.
use mathlib.Core.Path.{◌≡◌, refl, sym, ap, ◌∙◌, subst}
use mathlib.Core.Logic.{inl, inr}
use Prim.Native.Nat.{ℕ, zero, suc, ◌+◌, ◌-◌, ◌*◌, ◌/◌, ◌%◌, ◌^◌, ◌≤◌, ◌<◌, min, compare}
use native.Mathlib.Nat.{le_refl, le_trans, le_of_eq, lt_of_lt_of_le, lt_of_le_of_lt, lt_of_not-le, not-le_of_lt, eq-or-lt_of_le, add_assoc, mul-one, mul-le-mul_right, mul-lt-mul_of_pos_right, mul-div_cancel, zero-lt-suc, le-div_iff_mul-le, div-lt_iff_lt-mul, div-div-eq-div-mul, suc-mul, add-mul, two-pow-succ, le_of_suc-le-suc, le_of_mul-le-mul_right, eq-zero-or-pos, min-eq_left, min-eq_right}
use native.Mathlib.Omega.{arith}
use mathlib.Core.Bool.{Bool, cond}
use lib.Pow.{pow-add, pow_pos, pow_mono, pow-lt}
use lib.Ieee.{Float, nan, inf, fin, Format, prec, emax, low, hid, ones, top, up, down, size, odd, units, round, to_bits}
use lib.Ieee.Digits.{size-lt, size-le, size_reaches}
use lib.Ieee.Fits.{round_is, two, reach, kept-lt, nearest-le, down_pos}
use lib.Ieee.Exact.{HasValue, units_val}
use lib.Ieee.Nearest.{nearest-ge}
use lib.Ieee.Order.{drop, kept}
use borrow.Author.Tests.{le-ltb}
use Rattle.ieee.proofs.Closest.{lt_or_ge}

-- ---- how many digits: from 2 ^ j up and below 2 ^ (j + 1)
pub size_gt : (n j : ℕ) → 2 ^ j ≤ n → j < size n
size_gt n j h = lt_of_not-le (λ (g : size n ≤ j). not-le_of_lt (lt_of_lt_of_le (size-lt n) (pow_mono g)) h)

pub size-between : (n j : ℕ) → 2 ^ j ≤ n → n < 2 ^ suc j → size n ≡ suc j
size-between n j lo hi = let a = size_gt n j lo in let b = size-le n (suc j) hi in omega arith

-- the same of a quotient
pub size_quot : (N D j : ℕ) → 0 < D → 2 ^ j * D ≤ N → N < 2 ^ suc j * D → size (N / D) ≡ suc j
size_quot N D j P lo hi = size-between (N / D) j ((le-div_iff_mul-le P).1 lo) ((div-lt_iff_lt-mul P).1 hi)

-- ---- the pattern of a value of n units
pub to_bits_of : (f : Format) (x : Float) (s : Bool) (n : ℕ) → HasValue x s n (2 ^ low f) → to_bits f x ≡ cond s (top f) 0 + ((size n - prec f) * hid f + n / 2 ^ (size n - prec f))
unfolding to_bits
to_bits_of f nan s n v = absurd v
to_bits_of f (inf t) s n v = absurd v
to_bits_of f (fin t m e) s n v =
    let i : m * up e * 2 ^ low f / down e ≡ n = ap (λ (x : ℕ). x / down e) v.1 ∙ mul-div_cancel n (down_pos e) in
    ap (λ (x : ℕ). cond t (top f) 0 + (size x - prec f) * hid f + x / 2 ^ (size x - prec f)) i
    ∙ ap (λ (b : Bool). cond b (top f) 0 + (size n - prec f) * hid f + n / 2 ^ (size n - prec f)) v.0
    ∙ add_assoc (cond s (top f) 0) ((size n - prec f) * hid f) (n / 2 ^ (size n - prec f))

-- ---- its digits, of q * 2 ^ k units: with all p digits, P + 1 of them; with one more, from a carry; and with fewer, where none is dropped
abbrev shape : ℕ → ℕ → ℕ
shape p n = (size n - p) * 2 ^ (p - 1) + n / 2 ^ (size n - p)

at_drop : (p n k q : ℕ) → size n - p ≡ k → n ≡ q * 2 ^ k → shape p n ≡ k * 2 ^ (p - 1) + q
at_drop p n k q e h =
    ap (λ (x : ℕ). x * 2 ^ (p - 1) + n / 2 ^ x) e
    ∙ ap (λ (x : ℕ). k * 2 ^ (p - 1) + x) (ap (λ (x : ℕ). x / 2 ^ k) h ∙ mul-div_cancel q (pow_pos k))

full : (P k q : ℕ) → 2 ^ P ≤ q → q < 2 ^ suc P → shape (suc P) (q * 2 ^ k) ≡ k * 2 ^ (suc P - 1) + q
full P k q lo hi =
    let a : 2 ^ (P + k) ≤ q * 2 ^ k = le_trans (le_of_eq (pow-add 2 P k)) (mul-le-mul_right (2 ^ k) lo) in
    let b : q * 2 ^ k < 2 ^ suc (P + k) = lt_of_lt_of_le (mul-lt-mul_of_pos_right hi (pow_pos k)) (le_of_eq (sym (pow-add 2 (suc P) k) ∙ ap (λ (x : ℕ). 2 ^ x) (omega arith))) in
    let z = size-between (q * 2 ^ k) (P + k) a b in
    at_drop (suc P) (q * 2 ^ k) k q (omega arith) refl

carry : (P k : ℕ) → shape (suc P) (2 ^ suc P * 2 ^ k) ≡ k * 2 ^ (suc P - 1) + 2 ^ suc P
carry P k =
    let n : 2 ^ suc P * 2 ^ k ≡ 2 ^ P * 2 ^ suc k = sym (pow-add 2 (suc P) k) ∙ ap (λ (x : ℕ). 2 ^ x) (omega arith) ∙ pow-add 2 P (suc k) in
    let h : suc P - 1 ≡ P = omega arith in
    let t = two-pow-succ P in
    let m = suc-mul k (2 ^ P) in
    ap (shape (suc P)) n
    ∙ full P (suc k) (2 ^ P) (le_refl (2 ^ P)) (pow-lt (omega arith))
    ∙ subst (λ (x : ℕ). suc k * 2 ^ x + 2 ^ P ≡ k * 2 ^ x + 2 ^ suc P) (sym h) (omega arith)

few : (P q : ℕ) → q < 2 ^ P → shape (suc P) (q * 2 ^ 0) ≡ 0 * 2 ^ (suc P - 1) + q
few P q h =
    let z = size-le (q * 1) P (subst (λ (x : ℕ). x < 2 ^ P) (sym (mul-one q)) h) in
    at_drop (suc P) (q * 1) 0 q (omega arith) refl

shape_is : (P k q : ℕ) → q ≤ 2 ^ suc P → (0 < k → 2 ^ P ≤ q) → shape (suc P) (q * 2 ^ k) ≡ k * 2 ^ (suc P - 1) + q
shape_is P k q hi lo = elim (lt_or_ge q (2 ^ P)) [
  | inl l ↦ short k lo l
  | inr r ↦
      elim (eq-or-lt_of_le hi) [
        | inl e ↦ subst (λ (x : ℕ). shape (suc P) (x * 2 ^ k) ≡ k * 2 ^ (suc P - 1) + x) (sym e) (carry P k)
        | inr l ↦ full P k q r l
      ]
]
  where
    short : (k : ℕ) → (0 < k → 2 ^ P ≤ q) → q < 2 ^ P → shape (suc P) (q * 2 ^ k) ≡ k * 2 ^ (suc P - 1) + q
    short zero lo l = few P q l
    short (suc k) lo l = absurd (not-le_of_lt l (lo (zero-lt-suc k)))

shape_at : (p k q : ℕ) → 0 < p → q ≤ 2 ^ p → (0 < k → 2 ^ (p - 1) ≤ q) → shape p (q * 2 ^ k) ≡ k * 2 ^ (p - 1) + q
shape_at zero k q Z hi lo = absurd (omega arith)
shape_at (suc P) k q Z hi lo = shape_is P k q hi (λ z. subst (λ (x : ℕ). 2 ^ x ≤ q) (omega arith) (lo z))

-- so the pattern of q * 2 ^ k units
pub pattern_of : (f : Format) (y : Float) (s : Bool) (q k : ℕ) → HasValue y s (q * 2 ^ k) (2 ^ low f) → q ≤ 2 ^ prec f → (0 < k → 2 ^ (prec f - 1) ≤ q) → to_bits f y ≡ cond s (top f) 0 + (k * hid f + q)
pattern_of f y s q k v hi lo = to_bits_of f y s (q * 2 ^ k) v ∙ ap (λ (x : ℕ). cond s (top f) 0 + x) (shape_at (prec f) k q (omega (arith, two f)) hi lo)

-- ---- the range's end, m the largest exponent: below 2 ^ (m + 1) the pattern is at most an infinity's, and from there on at least
lt_back : (a b : ℕ) → 2 ^ a < 2 ^ b → a < b
lt_back a b h = lt_of_not-le (λ (g : b ≤ a). not-le_of_lt h (pow_mono g))

pub le_back : (a b : ℕ) → 2 ^ a ≤ 2 ^ b → a ≤ b
le_back a b h = le_of_suc-le-suc (lt_of_not-le (λ (g : suc b ≤ a). not-le_of_lt (pow-lt g) h))

module _ (p m k q : ℕ) (P : 2 ≤ p) (M : 1 ≤ m) (hi : q ≤ 2 ^ p) (lo : 0 < k → 2 ^ (p - 1) ≤ q) where
  twice : 2 ^ p ≡ 2 ^ (p - 1) + 2 ^ (p - 1)
  twice = ap (λ (x : ℕ). 2 ^ x) (omega arith) ∙ two-pow-succ (p - 1)

  in_range_lem : q * 2 ^ k < 2 ^ (m + p - 2 + suc m) → k * 2 ^ (p - 1) + q ≤ (2 * m + 1) * 2 ^ (p - 1)
  in_range_lem h =
      let h2 = twice in
      let below : k + 2 ≤ 2 * m + 1 = elim (eq-zero-or-pos k) [
        | inl z ↦ omega arith
        | inr z ↦
            let l = lt_back (p - 1 + k) (m + p - 2 + suc m) (lt_of_le_of_lt (le_trans (le_of_eq (pow-add 2 (p - 1) k)) (mul-le-mul_right (2 ^ k) (lo z))) h) in
            omega arith
      ] in
      let g = mul-le-mul_right (2 ^ (p - 1)) below in
      let a = add-mul k 2 (2 ^ (p - 1)) in
      omega arith

  past_range : 2 ^ (m + p - 2 + suc m) ≤ q * 2 ^ k → (2 * m + 1) * 2 ^ (p - 1) ≤ k * 2 ^ (p - 1) + q
  past_range h =
      let h2 = twice in
      let l = le_back (m + p - 2 + suc m) (p + k) (le_trans h (le_trans (mul-le-mul_right (2 ^ k) hi) (le_of_eq (sym (pow-add 2 p k))))) in
      let lo' = lo (omega arith) in
      elim (lt_or_ge k (2 * m)) [
        | inl u ↦
            let e : m + p - 2 + suc m ≡ p + k = omega arith in
            let q-ge : 2 ^ p ≤ q = le_of_mul-le-mul_right (le_trans (le_of_eq (sym (pow-add 2 p k) ∙ ap (λ (x : ℕ). 2 ^ x) (sym e))) h) (pow_pos k) in
            let i : 2 * m + 1 ≡ k + 2 = omega arith in
            le_trans (le_of_eq (ap (λ (x : ℕ). x * 2 ^ (p - 1)) i ∙ add-mul k 2 (2 ^ (p - 1)))) (omega arith)
        | inr k-ge ↦
            let g = mul-le-mul_right (2 ^ (p - 1)) k-ge in
            let a = add-mul (2 * m) 1 (2 ^ (p - 1)) in
            omega arith
      ]

-- ---- what `round` drops and keeps
module _ (f : Format) (num den : ℕ) where
  abbrev pub dropped : ℕ
  dropped = drop (prec f) (num * 2 ^ low f) den

  abbrev pub held : ℕ
  held = kept (prec f) (num * 2 ^ low f) den

  pub held_le : held ≤ 2 ^ prec f
  held_le =
      let n = num * 2 ^ low f in
      let u = den * 2 ^ dropped in
      le_trans (nearest-le (n / u) (compare (n % u * 2) u)) (subst (λ (x : ℕ). x < 2 ^ prec f) (div-div-eq-div-mul n den (2 ^ dropped)) (kept-lt (prec f) (n / den)))

  pub held-ge : 0 < dropped → 2 ^ (prec f - 1) ≤ held
  held-ge K =
      let n = num * 2 ^ low f in
      let u = den * 2 ^ dropped in
      let w = n / den in
      let t = two f in
      let a : 2 ^ (prec f - 1) * 2 ^ dropped ≤ w = le_trans (le_of_eq (sym (pow-add 2 (prec f - 1) dropped))) (size_reaches w (prec f - 1 + dropped) (omega arith)) in
      le_trans (subst (λ (x : ℕ). 2 ^ (prec f - 1) ≤ x) (div-div-eq-div-mul n den (2 ^ dropped)) ((le-div_iff_mul-le (pow_pos dropped)).1 a)) (nearest-ge (n / u) (compare (n % u * 2) u))

  pub pattern : (s : Bool) → to_bits f (round f s num den) ≡ cond s (top f) 0 + min (dropped * hid f + held) (ones f * hid f)
  unfolding units to_bits
  pattern s = elim (lt_or_ge (held * 2 ^ dropped) (2 ^ (low f + suc (emax f)))) [
    | inl l ↦
        ap (to_bits f) (round_is f s num den)
        ∙ pattern_of f (units f s held dropped) s held dropped (units_val f s held dropped l) held_le held-ge
        ∙ ap (λ (x : ℕ). cond s (top f) 0 + x) (sym (min-eq_left (in_range_lem (prec f) (emax f) dropped held (two f) (omega (arith, two f, reach f)) held_le held-ge l)))
    | inr past ↦
        ap (to_bits f) (round_is f s num den)
        ∙ ap (λ (b : Bool). to_bits f (cond b (odd (suc (prec f)) s held dropped (low f)) (inf s))) (le-ltb (held * 2 ^ dropped) (2 ^ (low f + suc (emax f))) past)
        ∙ ap (λ (x : ℕ). cond s (top f) 0 + x) (sym (min-eq_right (past_range (prec f) (emax f) dropped held (two f) (omega (arith, two f, reach f)) held_le held-ge past)))
  ]
