-- Why a rounding may begin from a number that was cut short to an odd one, over the format: what is dropped and what is kept are the same, where the cut is two places below the last digit kept or deeper, or loses nothing. Assumes nothing.
use mathlib.Core.Path.{◌≡◌, refl, sym, ap, ◌∙◌}
use mathlib.Core.Logic.{◌⊎◌, inl, inr}
use Prim.Native.Nat.{ℕ, suc, ◌+◌, ◌-◌, ◌*◌, ◌/◌, ◌^◌, ◌≤◌, ◌<◌, min}
use native.Mathlib.Nat.{le_trans, mul-pos}
use native.Mathlib.Omega.{arith}
use mathlib.Core.Bool.{Bool, cond}
use lib.Pow.{pow-add, pow_pos, pow_mono}
use lib.Ieee.{Format, prec, low, hid, ones, top, size, round, to_bits}
use lib.Ieee.Nearest.{closest, closest_same, div_same}
use lib.Ieee.Order.{drop, kept}
use Rattle.ieee.proofs.Pack.{size_gt, pattern}
use Rattle.ieee.proofs.ShiftedSize.{size_shr}
use Rattle.ieee_odd_cut.proofs.OddCutRounds.{same-quotient, same-nearest}
use Rattle.ieee_odd_cut.proofs.OneOddCut.{IsOddCut}

-- ---- what is dropped and kept, of N and of its cut
module _ (p d y N w : ℕ) (O : IsOddCut N (2 ^ y) w) where
  abbrev Nc : ℕ
  Nc = w * 2 ^ y

  own : IsOddCut Nc (2 ^ y) w
  own = inl refl

  -- the cut is deep enough
  abbrev pub Deep : Type 0
  Deep = (y + 2 ≤ d) ⊎ (2 ^ (suc p + y) ≤ N)

  -- quotients by 2 ^ (y + 1) * c
  split : (e : ℕ) → y < e → (c : ℕ) × (0 < c) × (2 ^ e ≡ 2 ^ y * (2 * c))
  split e l =
      let c = 2 ^ (e - suc y) in
      (c, pow_pos (e - suc y), ap (λ (x : ℕ). 2 ^ x) (omega arith) ∙ pow-add 2 y (suc (e - suc y)) ∙ ap (λ (x : ℕ). 2 ^ y * x) (two-times (e - suc y)))
    where
      two-times : (k : ℕ) → 2 ^ suc k ≡ 2 * 2 ^ k
      two-times k = ap (λ (x : ℕ). 2 ^ x) (omega arith) ∙ pow-add 2 1 k

  quotient : (e : ℕ) → y < e → N / 2 ^ e ≡ Nc / 2 ^ e
  quotient e l =
      let s = split e l in
      ap (λ (x : ℕ). N / x) s.2 ∙ same-quotient N (2 ^ y) w s.0 (pow_pos y) s.1 O ∙ sym (same-quotient Nc (2 ^ y) w s.0 (pow_pos y) s.1 own) ∙ ap (λ (x : ℕ). Nc / x) (sym s.2)

  same_size : 2 ^ suc y ≤ N → size N ≡ size Nc
  same_size l =
      let a = size_shr N (suc y) in
      let b = size_shr Nc (suc y) in
      let e = ap size (quotient (suc y) (omega arith)) in
      let g = size_gt N (suc y) l in
      omega arith

  same_drop : Deep → drop p N (2 ^ d) ≡ drop p Nc (2 ^ d)
  same_drop (inl l) = ap (λ (x : ℕ). size x - p) (quotient d (omega arith))
  same_drop (inr l) =
      let g = same_size (le_trans (pow_mono (omega arith)) l) in
      let a = size_shr N d in
      let b = size_shr Nc d in
      omega arith

  reach : Deep → y + 2 ≤ d + drop p N (2 ^ d)
  reach (inl l) = omega arith
  reach (inr l) =
      let a = size_shr N d in
      let g = size_gt N (suc p + y) l in
      omega arith

  same_kept : Deep → kept p N (2 ^ d) ≡ kept p Nc (2 ^ d)
  same_kept D =
      let k = drop p N (2 ^ d) in
      let m = d + k - (y + 2) in
      let r = reach D in
      let e : 2 ^ d * 2 ^ k ≡ 2 ^ y * (4 * 2 ^ m) = sym (pow-add 2 d k) ∙ ap (λ (x : ℕ). 2 ^ x) (omega arith) ∙ pow-add 2 y (2 + m) ∙ ap (λ (x : ℕ). 2 ^ y * x) (pow-add 2 2 m) in
      ap (closest N) e ∙ same-nearest N (2 ^ y) w (2 ^ m) (pow_pos y) (pow_pos m) O ∙ sym (same-nearest Nc (2 ^ y) w (2 ^ m) (pow_pos y) (pow_pos m) own) ∙ ap (closest Nc) (sym e)
      ∙ ap (λ (x : ℕ). closest Nc (2 ^ d * 2 ^ x)) (same_drop D)

-- ---- in units of the format's smallest value
module _ (p l d N : ℕ) where
  cross : N * 2 ^ l * 2 ^ d ≡ N * 2 ^ (d + l)
  cross = let i = ap (λ (x : ℕ). N * x) (pow-add 2 d l) in omega arith

  drop_at : drop p (N * 2 ^ l) (2 ^ (d + l)) ≡ drop p N (2 ^ d)
  drop_at = ap (λ (x : ℕ). size x - p) (div_same (N * 2 ^ l) (2 ^ (d + l)) N (2 ^ d) (pow_pos (d + l)) (pow_pos d) cross)

  kept_at : kept p (N * 2 ^ l) (2 ^ (d + l)) ≡ kept p N (2 ^ d)
  kept_at =
      let k = drop p N (2 ^ d) in
      ap (λ (x : ℕ). closest (N * 2 ^ l) (2 ^ (d + l) * 2 ^ x)) drop_at
      ∙ closest_same (N * 2 ^ l) (2 ^ (d + l) * 2 ^ k) N (2 ^ d * 2 ^ k) (mul-pos (pow_pos (d + l)) (pow_pos k)) (mul-pos (pow_pos d) (pow_pos k)) (let i = ap (λ (x : ℕ). x * 2 ^ k) cross in omega arith)

-- ---- the pattern of N / 2 ^ D rounded, by the cut w of N
module _ (f : Format) (s : Bool) (d y N w : ℕ) (O : IsOddCut N (2 ^ y) w) where
  abbrev packed : ℕ → ℕ
  packed n = drop (prec f) n (2 ^ d) * hid f + kept (prec f) n (2 ^ d)

  same : (w * 2 ^ y ≡ N) ⊎ Deep (prec f) d y N w O → packed N ≡ packed (w * 2 ^ y)
  same (inl e) = ap packed (sym e)
  same (inr D) = ap (λ (x : ℕ). x * hid f + kept (prec f) N (2 ^ d)) (same_drop (prec f) d y N w O D) ∙ ap (λ (x : ℕ). drop (prec f) (w * 2 ^ y) (2 ^ d) * hid f + x) (same_kept (prec f) d y N w O D)

  -- the one fact that both widths rest on: a cut that loses nothing, or lies deep enough, gives the pattern that the exact number gives
  pub cut-pattern : (w * 2 ^ y ≡ N) ⊎ Deep (prec f) d y N w O
      → to_bits f (round f s N (2 ^ (d + low f))) ≡ cond s (top f) 0 + min (drop (prec f) (w * 2 ^ y) (2 ^ d) * hid f + kept (prec f) (w * 2 ^ y) (2 ^ d)) (ones f * hid f)
  cut-pattern h =
      pattern f N (2 ^ (d + low f)) s
      ∙ ap (λ (x : ℕ). cond s (top f) 0 + min (x * hid f + kept (prec f) (N * 2 ^ low f) (2 ^ (d + low f))) (ones f * hid f)) (drop_at (prec f) (low f) d N)
      ∙ ap (λ (x : ℕ). cond s (top f) 0 + min (drop (prec f) N (2 ^ d) * hid f + x) (ones f * hid f)) (kept_at (prec f) (low f) d N)
      ∙ ap (λ (x : ℕ). cond s (top f) 0 + min x (ones f * hid f)) (same h)
