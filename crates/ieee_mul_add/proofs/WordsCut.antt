-- Two words cut short by so many places: what the code makes of them is their odd cut. Assumes nothing.
use Rattle.std.proofs.Common.{◌≡◌, ℕ, ◌+◌, ◌-◌, ◌*◌, ◌/◌, ◌%◌, ◌^◌, ◌<◌, ◌≤◌, sym, refl, ap, ◌∙◌, subst, ap₂, inl, inr, lt_of_lt_of_le, mul-le-mul_right, mod-lt, mod-eq_of_lt, mul_comm, div-lt_iff_lt-mul, eq-zero-or-pos, mul-lt-mul_of_pos_right, one-mul, div-add-mod', mul-one, arith, pow_pos, pow_mono, pow-add}
use native.Mathlib.Nat.{div-eq_of_lt}
use lib.Arith.{digits_mod}
use lib.Pow.{pow-lt, high, low}
use Rattle.ieee.proofs.Closest.{lt_or_ge}
use Rattle.ieee_mul_add.specs.inside.Words.{two_words}
use Rattle.ieee_odd_cut.proofs.OneOddCut.{made-lost, IsOddCut, only_odd_cut, cut_twice}
use Rattle.ieee_odd_cut.specs.OddCut.{made_odd, odd_cut}

-- `1 << d` at 64 bits
pub one_shl : (d : ℕ) → d < 64 → 1 * 2 ^ d % 2 ^ 64 ≡ 2 ^ d
one_shl d h = ap (λ (x : ℕ). x % 2 ^ 64) (one-mul (2 ^ d)) ∙ mod-eq_of_lt (pow-lt h)

made-exact : (q : ℕ) → made_odd q 0 ≡ q
unfolding made_odd
made-exact q = refl

module _ (h l d : ℕ) (D : 0 < d) (E : d < 64) where
  abbrev A : ℕ
  A = 2 ^ d

  abbrev B : ℕ
  B = 2 ^ (64 - d)

  whole : A * B ≡ 2 ^ 64
  whole = let e : d + (64 - d) ≡ 64 = omega arith in sym (pow-add 2 d (64 - d)) ∙ ap (λ (x : ℕ). 2 ^ x) e

  -- the first word's low digits, moved up
  pub moved : h * B % 2 ^ 64 ≡ h % A * B
  moved =
      let e = div-add-mod' h A in
      let i : h * B ≡ h / A * 2 ^ 64 + h % A * B = let j = ap (λ (x : ℕ). x * B) e in let k = ap (λ (x : ℕ). h / A * x) whole in omega arith in
      let lt : h % A * B < 2 ^ 64 = subst (λ (x : ℕ). h % A * B < x) whole (mul-lt-mul_of_pos_right (mod-lt h (pow_pos d)) (pow_pos (64 - d))) in
      ap (λ (x : ℕ). x % 2 ^ 64) i ∙ digits_mod (h / A) lt

  -- beside what is left of the second word, they make a word
  pub fits_word : l < 2 ^ 64 → h * B % 2 ^ 64 + l / A < 2 ^ 64
  fits_word L =
      let m = moved in
      let r = mod-lt h (pow_pos d) in
      let k : (h % A + 1) * B ≤ A * B = mul-le-mul_right B (omega arith) in
      let w = whole in
      let q : l / A < B = (div-lt_iff_lt-mul (pow_pos d)).1 (subst (λ (x : ℕ). l < x) (sym whole ∙ mul_comm A B) L) in
      omega arith

  parts : two_words h l ≡ (h / A * 2 ^ 64 + (h % A * B + l / A)) * A + l % A
  parts =
      let e = div-add-mod' h A in
      let g = div-add-mod' l A in
      let i = ap (λ (x : ℕ). h * x) whole in
      let j = ap (λ (x : ℕ). x * (A * B)) e in
      let k = ap (λ (x : ℕ). h / A * A * x) whole in
      omega arith

  odd-at : (m r : ℕ) → l % A ≡ r → made_odd (h % A * B + l / A) r ≡ m → IsOddCut (two_words h l) A (h / A * 2 ^ 64 + m)
  odd-at m r e g = elim (eq-zero-or-pos r) [
    | inl z ↦
        let i : m ≡ h % A * B + l / A = sym g ∙ ap (made_odd (h % A * B + l / A)) z ∙ made-exact (h % A * B + l / A) in
        let p = parts in
        inl (ap (λ (x : ℕ). (h / A * 2 ^ 64 + x) * A) i ∙ omega arith)
    | inr P ↦
        let q = h % A * B + l / A in
        let i : m ≡ q / 2 * 2 + 1 = sym g ∙ made-lost q r P in
        let p = parts in
        let lt = mod-lt l (pow_pos d) in
        elim (lt_or_ge (q % 2) 1) [
          | inl z ↦
              let j : m ≡ q + 1 = omega arith in
              let k = ap (λ (x : ℕ). (h / A * 2 ^ 64 + x) * A) j in
              inr (omega arith, omega arith, omega arith)
          | inr z ↦
              let j : m ≡ q = omega arith in
              let k = ap (λ (x : ℕ). (h / A * 2 ^ 64 + x) * A) j in
              inr (omega arith, omega arith, omega arith)
        ]
  ]

  -- the code's two words are the odd cut
  pub below-cut : (m : ℕ) → m ≡ made_odd (h * B % 2 ^ 64 + l / A) (l % (1 * 2 ^ d % 2 ^ 64)) → two_words (h / A) m ≡ odd_cut (two_words h l) A
  below-cut m e =
      sym (only_odd_cut (two_words h l) A (two_words (h / A) m) (pow_pos d)
      (odd-at m (l % A) refl (sym (e ∙ ap₂ (λ (x y : ℕ). made_odd (x + l / A) (l % y)) moved (one_shl d E)))))

-- ---- by a word, and by more
pub word_cut : (h l : ℕ) → l < 2 ^ 64 → odd_cut (two_words h l) (2 ^ 64) ≡ made_odd h l
unfolding odd_cut
word_cut h l L = ap₂ made_odd (high h 64 L) (low h 64 L)

even_pow : (k : ℕ) → 0 < k → 2 ^ k % 2 ≡ 0
even_pow k K = let e : 2 ^ k ≡ 2 ^ (k - 1) * 2 = ap (λ (x : ℕ). 2 ^ x) (omega arith) ∙ pow-add 2 (k - 1) 1 in omega arith

-- past a word: the rest of the cut is one of the first word, marked
pub past_word : (h l d : ℕ) → l < 2 ^ 64 → 64 < d → odd_cut (two_words h l) (2 ^ d) ≡ odd_cut (made_odd h l) (2 ^ (d - 64))
past_word h l d L D =
    ap (odd_cut (two_words h l)) (ap (λ (x : ℕ). 2 ^ x) (omega arith) ∙ pow-add 2 64 (d - 64))
    ∙ sym (cut_twice (two_words h l) (2 ^ 64) (2 ^ (d - 64)) (pow_pos 64) (pow_pos (d - 64)) (even_pow (d - 64) (omega arith)))
    ∙ ap (λ (x : ℕ). odd_cut x (2 ^ (d - 64))) (word_cut h l L)

-- past both words only the mark is left
pub far-cut : (x k : ℕ) → x < 2 ^ 64 → 64 ≤ k → odd_cut x (2 ^ k) ≡ made_odd 0 x
unfolding odd_cut
far-cut x k X K = let l = lt_of_lt_of_le X (pow_mono K) in ap₂ made_odd (div-eq_of_lt l) (mod-eq_of_lt l)

-- by no places: the number itself
pub no_cut : (x : ℕ) → odd_cut x (2 ^ 0) ≡ x
unfolding odd_cut made_odd
no_cut x = only_odd_cut x 1 x (omega arith) (inl (mul-one x))

-- a first word of 0
pub zero-two : (x : ℕ) → two_words 0 x ≡ x
zero-two x = omega arith
