-- Two numbers times powers of two, added where one is cut to the other's power. Assumes nothing.
use Rattle.std.proofs.Common.{◌≡◌, ℕ, suc, ◌+◌, ◌-◌, ◌*◌, ◌%◌, ◌^◌, ◌<◌, ◌≤◌, Bool, cond, not, ◌&&◌, ltb, sym, refl, ap, ◌∙◌, subst, inl, inr, le_trans, le_of_eq, lt_of_lt_of_le, le-add_right, lt_of_le_of_lt, mul-le-mul_right, lt_of_mul-lt-mul_right, mul-le-mul_left, mul-one, le_of_mul-le-mul_right, arith, pow_pos, pow-add, le-ltb, lt-ltb}
use Rattle.ieee.proofs.Closest.{lt_or_ge}
use Rattle.ieee.specs.inside.SumSize.{sum_size}
use Rattle.ieee_mul_add.specs.inside.CutSum.{Summed}
use Rattle.ieee_mul_add.specs.inside.Words.{two_words}
use Rattle.ieee_odd_cut.proofs.OddCutAdds.{first_cut_adds, second_cut_adds, first-less, second-less}
use Rattle.ieee_odd_cut.proofs.OneOddCut.{IsOddCut, is_odd_cut, only_odd_cut, scaled-cut}
use Rattle.ieee_odd_cut.specs.OddCut.{odd_cut}
use Rattle.ieee_mul_add.proofs.RoundedFromWords.{odd_le}

-- ---- a cut leaves no more than there was, and one
words_lt : (h l : ℕ) → h < 2 ^ 62 → l < 2 ^ 64 → two_words h l < 2 ^ 126
words_lt h l H L = lt_of_lt_of_le (over h l (2 ^ 64) L) (le_trans (mul-le-mul_right (2 ^ 64) H) (le_of_eq (sym (pow-add 2 62 64))))
  where
    over : (h l w : ℕ) → l < w → h * w + l < suc h * w
    over h l w L = omega arith

-- so a first word below 2 ^ 62 is at most that after it
pub cut_high : (h l d vh vl : ℕ) → h < 2 ^ 62 → l < 2 ^ 64 → two_words vh vl ≡ odd_cut (two_words h l) (2 ^ d) → vh ≤ 2 ^ 62
cut_high h l d vh vl H L e =
    let x = two_words h l in
    let g = 2 ^ d in
    let b : x < 2 ^ 126 * g = lt_of_lt_of_le (words_lt h l H L) (le_trans (le_of_eq (sym (mul-one (2 ^ 126)))) (mul-le-mul_left (2 ^ 126) (pow_pos d))) in
    let w = odd_le x g (odd_cut x g) (2 ^ 126) (pow_pos d) (is_odd_cut x g (pow_pos d)) b in
    le_of_mul-le-mul_right (le_trans (le-add_right (vh * 2 ^ 64) vl) (le_trans (le_of_eq e) (le_trans w (le_of_eq (pow-add 2 62 64))))) (pow_pos 64)

-- ---- added at the larger power
module _ (alike : Bool) (p x q z : ℕ) (P : p % 2 ≡ 0) (Q : q % 2 ≡ 0) where
  -- a number cut by 2 ^ d, and the same times 2 ^ a
  scaled : (n a d : ℕ) → IsOddCut (n * 2 ^ a) (2 ^ (d + a)) (odd_cut n (2 ^ d))
  scaled n a d = subst (λ (g : ℕ). IsOddCut (n * 2 ^ a) g (odd_cut n (2 ^ d))) (sym (pow-add 2 d a)) (scaled-cut n (2 ^ d) (odd_cut n (2 ^ d)) (2 ^ a) (pow_pos a) (is_odd_cut n (2 ^ d) (pow_pos d)))

  scaled-to : (n a d b : ℕ) → d + a ≡ b → IsOddCut (n * 2 ^ a) (2 ^ b) (odd_cut n (2 ^ d))
  scaled-to n a d b e = subst (λ (t : ℕ). IsOddCut (n * 2 ^ a) (2 ^ t) (odd_cut n (2 ^ d))) e (scaled n a d)

  -- the first is cut, having the lower power
  pub sum_below : (w v : ℕ) (second : Bool) → x < z → v ≡ odd_cut p (2 ^ (z - x)) → w ≡ sum_size alike v q → second ≡ (not alike && ltb v q) → Summed alike p x q z w z second
  sum_below w v second l e g h =
      let o = scaled-to p x (z - x) z (omega arith) in
      record {
        at = sym (rw (lt-ltb x z l) refl);
        cut = g ∙ ap (λ (t : ℕ). sum_size alike t q) e ∙ sym (only_odd_cut (sum_size alike (p * 2 ^ x) (q * 2 ^ z)) (2 ^ z) (sum_size alike (odd_cut p (2 ^ (z - x))) q) (pow_pos z) (first_cut_adds q (p * 2 ^ x) (2 ^ z) (odd_cut p (2 ^ (z - x))) (pow_pos z) Q o alike));
        larger = h ∙ ap (λ (t : ℕ). not alike && ltb t q) e ∙ ap (λ (b : Bool). not alike && b) (first-less q (p * 2 ^ x) (2 ^ z) (odd_cut p (2 ^ (z - x))) (pow_pos z) Q o);
      }

  -- or the second
  pub sum-above : (w v : ℕ) (second : Bool) → z ≤ x → v ≡ odd_cut q (2 ^ (x - z)) → w ≡ sum_size alike p v → second ≡ (not alike && ltb p v) → Summed alike p x q z w x second
  sum-above w v second l e g h =
      let o = scaled-to q z (x - z) x (omega arith) in
      record {
        at = sym (rw (le-ltb x z l) refl);
        cut = g ∙ ap (sum_size alike p) e ∙ sym (only_odd_cut (sum_size alike (p * 2 ^ x) (q * 2 ^ z)) (2 ^ x) (sum_size alike p (odd_cut q (2 ^ (x - z)))) (pow_pos x) (second_cut_adds p (q * 2 ^ z) (2 ^ x) (odd_cut q (2 ^ (x - z))) (pow_pos x) P o alike));
        larger = h ∙ ap (λ (t : ℕ). not alike && ltb p t) e ∙ ap (λ (b : Bool). not alike && b) (second-less p (q * 2 ^ z) (2 ^ x) (odd_cut q (2 ^ (x - z))) (pow_pos x) P o);
      }

-- two words are even where the second is
pub even-two : (h l : ℕ) → l % 2 ≡ 0 → two_words h l % 2 ≡ 0
even-two h l e = omega arith

-- ---- the words of the product and of the addend

-- a number below 2 ^ 126 has a first word below 2 ^ 62
pub high_of : (h l n : ℕ) → two_words h l ≡ n → n < 2 ^ 126 → h < 2 ^ 62
high_of h l n e b = lt_of_mul-lt-mul_right (2 ^ 64) (lt_of_le_of_lt (le_trans (le-add_right (h * 2 ^ 64) l) (le_of_eq e)) (lt_of_lt_of_le b (le_of_eq (pow-add 2 62 64))))

-- the product of digits moved up is even
pub even-low : (h l m n : ℕ) → two_words h l ≡ m * 1024 * (n * 1024) → l % 2 ≡ 0
even-low h l m n e = omega arith

-- the addend is a first word alone
pub word_of : (o : ℕ) → two_words (o * 512) 0 ≡ o * 512 * 2 ^ 64
word_of o = omega arith

-- ---- a sum of other names for the same numbers
pub summed_as : (alike : Bool) (a x b z a' x' b' z' w y : ℕ) (s : Bool) → a ≡ a' → x ≡ x' → b ≡ b' → z ≡ z' → Summed alike a x b z w y s → Summed alike a' x' b' z' w y s
summed_as alike a x b z a' x' b' z' w y s i j k l h =
    subst (λ (e : ℕ). Summed alike a' x' b' e w y s) l (subst (λ (e : ℕ). Summed alike a' x' e z w y s) k (subst (λ (e : ℕ). Summed alike a' e b z w y s) j (subst (λ (e : ℕ). Summed alike e x b z w y s) i h)))

-- the larger of two powers is between the bounds of both
pub larger-power : (x z y : ℕ) → y ≡ cond (ltb x z) z x → 64 ≤ x → 64 ≤ z → x ≤ 4200 → z ≤ 4200 → (64 ≤ y) × (y ≤ 4200)
larger-power x z y e a b c d = elim (lt_or_ge x z) [
  | inl l ↦ let i : y ≡ z = e ∙ rw (lt-ltb x z l) refl in (omega arith, omega arith)
  | inr l ↦ let i : y ≡ x = e ∙ rw (le-ltb x z l) refl in (omega arith, omega arith)
]
