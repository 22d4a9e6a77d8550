-- What is dropped and kept of a number of two words: how many digits it has, how far it is cut, and that the quarters left, rounded, are the digits kept. Assumes nothing.
use Rattle.std.proofs.Common.{◌≡◌, ℕ, suc, ◌+◌, ◌-◌, ◌*◌, ◌/◌, ◌%◌, ◌^◌, ◌<◌, ◌≤◌, Bool, ◌⊎◌, sym, ap, ◌∙◌, inl, inr, le_trans, le_of_eq, lt_of_lt_of_le, le-add_right, lt_of_le_of_lt, le_of_lt, mul-le-mul_right, eq-zero-or-pos, lt_of_mul-lt-mul_right, arith, pow_pos, pow_mono, pow-add}
use lib.Count.{count_leading_zeros, leading_top}
use lib.Ieee.{Float, Format, size}
use lib.Ieee.Digits.{size-lt}
use lib.Ieee.Nearest.{closest}
use lib.Ieee.Order.{drop}
use Rattle.ieee.proofs.Pack.{size-between}
use Rattle.ieee_mul_add.specs.inside.RoundedFromCut.{KeptOf, RoundedFrom}
use Rattle.ieee_mul_add.specs.inside.Words.{two_words}
use Rattle.ieee_odd_cut.proofs.KeptOfACut.{drop-is, kept-is}
use Rattle.ieee_odd_cut.proofs.OddCutRounds.{nearest_fourth}
use Rattle.ieee_odd_cut.proofs.OneOddCut.{IsOddCut, is_odd_cut}
use Rattle.ieee_odd_cut.specs.OddCut.{odd_cut}

-- ---- the number of digits
abbrev pub digits_in : ℕ → ℕ
digits_in h = 128 - count_leading_zeros 64 h

-- a word that is not 0 has a digit
pub few-zeros : (h : ℕ) → 0 < h → h < 2 ^ 64 → count_leading_zeros 64 h ≤ 63
few-zeros h P H = let t = leading_top 64 h P H in let e = t.2 in let e' = t.1 in omega arith

-- how many digits two words have
pub size_words : (h l : ℕ) → 0 < h → h < 2 ^ 64 → l < 2 ^ 64 → size (two_words h l) ≡ digits_in h
size_words h l P H L = go (leading_top 64 h P H)
  where
    above : (h l b w : ℕ) → l < w → suc h * w ≤ b * w → h * w + l < b * w
    above h l b w L m = omega arith

    go : (j : ℕ) × (count_leading_zeros 64 h + suc j ≡ 64) × (2 ^ j ≤ h) × (h < 2 ^ suc j) → size (two_words h l) ≡ digits_in h
    go t =
        let j = t.0 in
        let e = t.1 in
        let lo : 2 ^ (j + 64) ≤ two_words h l = le_trans (le_of_eq (pow-add 2 j 64)) (le_trans (mul-le-mul_right (2 ^ 64) t.2) (le-add_right (h * 2 ^ 64) l)) in
        let m = mul-le-mul_right (2 ^ 64) t.3 in
        let hi : two_words h l < 2 ^ suc (j + 64) = lt_of_lt_of_le (above h l (2 ^ suc j) (2 ^ 64) L m) (le_of_eq (sym (pow-add 2 (suc j) 64) ∙ ap (λ (x : ℕ). 2 ^ x) (omega arith))) in
        size-between (two_words h l) (j + 64) lo hi ∙ omega arith

-- ---- the shift: s places are dropped of a number of t digits times 2 ^ y / 2 ^ d where p are kept; no fewer than two, and so many that p are left and no place below the smallest value
pub record Shift (t p d y s : ℕ) : Type 0 where
  pub two_more : 2 ≤ s
  pub covers : t ≤ p + s
  pub reaches : d ≤ y + s
  pub drops : t + y - d - p ≡ y + s - d
  pub small : s ≤ 8128
  pub shallow : y + s - d ≤ y + 128 - d

-- the code's choice is such
pub shift_of : (t p d y s : ℕ) → 65 ≤ t → t ≤ 128 → 2 ≤ p → p ≤ 53 → y ≤ 8000 → d ≤ 8000 → ((y + (t - p) < d) × (s ≡ d - y)) ⊎ ((d ≤ y + (t - p)) × (s ≡ t - p)) → Shift t p d y s
shift_of t p d y s a b c e g h (inl w) = record { two_more = omega arith; covers = omega arith; reaches = omega arith; drops = omega arith; small = omega arith; shallow = omega arith }
shift_of t p d y s a b c e g h (inr w) = record { two_more = omega arith; covers = omega arith; reaches = omega arith; drops = omega arith; small = omega arith; shallow = omega arith }

-- ---- what is left after the cut is one word, with room
pub odd_le : (x g w n : ℕ) → 0 < g → IsOddCut x g w → x < n * g → w ≤ n
odd_le x g w n G (inl e) l = le_of_lt (lt_of_mul-lt-mul_right g (lt_of_le_of_lt (le_of_eq e) l))
odd_le x g w n G (inr h) l = le_of_suc (lt_of_mul-lt-mul_right g (lt_of_lt_of_le h.1 (below x g n l)))
  where
    le_of_suc : w < n + 1 → w ≤ n
    le_of_suc q = omega arith

    below : (x g n : ℕ) → x < n * g → x + g ≤ (n + 1) * g
    below x g n q = omega arith

-- what is left of a cut to quarters is one word, with room
pub quarters_fit : (p s u : ℕ) → 2 ≤ s → p ≤ 53 → size u ≤ p + s → odd_cut u (2 ^ (s - 2)) ≤ 2 ^ 55
quarters_fit p s u S P C =
    let g = 2 ^ (s - 2) in
    let l : u < 2 ^ (p + 2) * g = lt_of_lt_of_le (size-lt u) (le_trans (pow_mono {i = size u} {j = p + 2 + (s - 2)} (omega arith)) (le_of_eq (pow-add 2 (p + 2) (s - 2)))) in
    le_trans (odd_le u g (odd_cut u g) (2 ^ (p + 2)) (pow_pos (s - 2)) (is_odd_cut u g (pow_pos (s - 2))) l) (pow_mono {i = p + 2} {j = 55} (omega arith))

-- so its second word is all of it
pub one_word : (h l n : ℕ) → two_words h l ≡ n → n ≤ 2 ^ 55 → l ≡ n
one_word h l n e b = omega arith

-- and the quarters, rounded, are the digits kept
pub kept_words : (h l y p d s vh vl : ℕ) → 0 < h → h < 2 ^ 64 → l < 2 ^ 64 → p ≤ 53 → Shift (digits_in h) p d y s → two_words vh vl ≡ odd_cut (two_words h l) (2 ^ (s - 2))
    → (vl ≤ 2 ^ 55) × KeptOf p d (two_words h l * 2 ^ y) (y + s - d) ((vl + 1 + vl / 4 % 2) / 4)
kept_words h l y p d s vh vl P H L P53 S e =
    let u = two_words h l in
    let z = size_words h l P H L in
    let U : 0 < u = le_trans P (le_trans (times-word h) (le-add_right (h * 2 ^ 64) l)) in
    let b = quarters_fit p s u S.two_more P53 (le_trans (le_of_eq z) S.covers) in
    let i : vl ≡ odd_cut u (2 ^ (s - 2)) = one_word vh vl (odd_cut u (2 ^ (s - 2))) e b in
    let k : drop p (u * 2 ^ y) (2 ^ d) ≡ y + s - d = drop-is p d y u s U ∙ ap (λ (x : ℕ). x + y - d - p) z ∙ S.drops in
    let r = S.reaches in
    let m : d + drop p (u * 2 ^ y) (2 ^ d) ≡ y + s = ap (λ (x : ℕ). d + x) k ∙ back d (y + s) r in (
      le_trans (le_of_eq i) b,
      record { dropped = sym k; held = nearest_fourth vl ∙ ap (λ (x : ℕ). closest x 4) i ∙ sym (kept-is p d y u s U S.two_more m); few = let q = le_trans (le_of_eq i) b in quarter vl q },
    )
  where
    times-word : (h : ℕ) → h ≤ h * 2 ^ 64
    times-word h = omega arith

    quarter : (n : ℕ) → n ≤ 2 ^ 55 → (n + 1 + n / 4 % 2) / 4 ≤ 2 ^ 53
    quarter n b = omega arith

    back : (d x : ℕ) → d ≤ x → d + (x - d) ≡ x
    back d x r = omega arith

-- a first word of 0 is left out
pub raised : (l y : ℕ) → 64 ≤ y → two_words l 0 * 2 ^ (y - 64) ≡ two_words 0 l * 2 ^ y
raised l y h =
    let e : 2 ^ 64 * 2 ^ (y - 64) ≡ 2 ^ y = sym (pow-add 2 64 (y - 64)) ∙ ap (λ (x : ℕ). 2 ^ x) (omega arith) in
    let i = ap (λ (x : ℕ). l * x) e in
    regroup l (2 ^ 64) (2 ^ (y - 64)) (2 ^ y) i
  where
    regroup : (l w r z : ℕ) → l * (w * r) ≡ l * z → (l * w + 0) * r ≡ (0 * w + l) * z
    regroup l w r z e = omega arith

-- ---- only one float is it
pub rounded-one : (f : Format) (d : ℕ) (s : Bool) (w y : ℕ) (r q : Float) → RoundedFrom f d s w y r → RoundedFrom f d s w y q → r ≡ q
rounded-one f d s w y r q a b = elim (eq-zero-or-pos w) [
  | inl z ↦ a.none z ∙ sym (b.none z)
  | inr p ↦ a.some p ∙ sym (b.some p)
]
