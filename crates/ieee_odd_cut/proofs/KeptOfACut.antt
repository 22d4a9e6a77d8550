-- What is dropped and kept of u * 2 ^ x, by u's digits and by u cut to two places below the last digit kept. Assumes nothing.
use mathlib.Core.Path.{◌≡◌, sym, ap, ◌∙◌}
use Prim.Native.Nat.{ℕ, ◌+◌, ◌-◌, ◌*◌, ◌^◌, ◌≤◌, ◌<◌}
use native.Mathlib.Nat.{mul-pos}
use native.Mathlib.Omega.{arith}
use lib.Pow.{pow-add, pow_pos}
use lib.Ieee.{size}
use lib.Ieee.Nearest.{closest, closest_same}
use lib.Ieee.Order.{drop, kept}
use Rattle.ieee.proofs.ShiftedSize.{size_shr, size_shl}
use Rattle.ieee_odd_cut.proofs.OddCutRounds.{same-nearest}
use Rattle.ieee_odd_cut.proofs.OneOddCut.{is_odd_cut}
use Rattle.ieee_odd_cut.specs.OddCut.{odd_cut}

module _ (p d x u s : ℕ) (U : 0 < u) where
  -- how many places are dropped of u * 2 ^ x / 2 ^ d, where p digits are kept
  pub drop-is : drop p (u * 2 ^ x) (2 ^ d) ≡ size u + x - d - p
  drop-is = let a = size_shr (u * 2 ^ x) d in let b = size_shl u x U in omega arith

  -- the digits kept, by u cut to quarters of the last of them
  pub kept-is : 2 ≤ s → d + drop p (u * 2 ^ x) (2 ^ d) ≡ x + s → kept p (u * 2 ^ x) (2 ^ d) ≡ closest (odd_cut u (2 ^ (s - 2))) 4
  kept-is S e =
      let k = drop p (u * 2 ^ x) (2 ^ d) in
      let g = 2 ^ (s - 2) in
      let i : 2 ^ d * 2 ^ k ≡ 2 ^ x * (g * 4) = sym (pow-add 2 d k) ∙ ap (λ (z : ℕ). 2 ^ z) (omega arith) ∙ pow-add 2 x (s - 2 + 2) ∙ ap (λ (z : ℕ). 2 ^ x * z) (pow-add 2 (s - 2) 2) in
      ap (closest (u * 2 ^ x)) i
      ∙ closest_same (u * 2 ^ x) (2 ^ x * (g * 4)) u (g * 4) (mul-pos (pow_pos x) (mul-pos (pow_pos (s - 2)) (omega arith))) (mul-pos (pow_pos (s - 2)) (omega arith)) (omega arith)
      ∙ same-nearest u g (odd_cut u g) 1 (pow_pos (s - 2)) (omega arith) (is_odd_cut u g (pow_pos (s - 2)))
