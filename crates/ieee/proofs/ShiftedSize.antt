-- How many digits a number has that is divided by a power of two, or multiplied by one. Assumes nothing.
use mathlib.Core.Path.{◌≡◌, sym, ap, ◌∙◌}
use mathlib.Core.Logic.{inl, inr}
use Prim.Native.Nat.{ℕ, suc, ◌+◌, ◌-◌, ◌*◌, ◌/◌, ◌^◌, ◌≤◌, ◌<◌}
use native.Mathlib.Nat.{le_trans, le_of_eq, lt_of_lt_of_le, le-div_iff_mul-le, div-lt_iff_lt-mul, mul-div_cancel, mul-le-mul_right}
use native.Mathlib.Omega.{arith}
use lib.Pow.{pow-add, pow_pos, pow_mono, shr_lt}
use lib.Ieee.{size}
use lib.Ieee.Digits.{size-lt, size-le, size_reaches}
use Rattle.ieee.proofs.Closest.{lt_or_ge}
use Rattle.ieee.proofs.Pack.{size_gt, size-between}

-- divided by 2 ^ j, it has j fewer
pub size_shr : (n j : ℕ) → size (n / 2 ^ j) ≡ size n - j
size_shr n j = elim (lt_or_ge j (size n)) [
  | inl l ↦
      let t = size n - 1 - j in
      let e : t + j ≡ size n - 1 = omega arith in
      let lo : 2 ^ t * 2 ^ j ≤ n = le_trans (le_of_eq (sym (pow-add 2 t j) ∙ ap (λ (x : ℕ). 2 ^ x) e)) (size_reaches n (size n - 1) (omega arith)) in
      let g : suc t + j ≡ size n = omega arith in
      let hi : n < 2 ^ suc t * 2 ^ j = lt_of_lt_of_le (size-lt n) (le_of_eq (ap (λ (x : ℕ). 2 ^ x) (sym g) ∙ pow-add 2 (suc t) j)) in
      size-between (n / 2 ^ j) t ((le-div_iff_mul-le (pow_pos j)).1 lo) ((div-lt_iff_lt-mul (pow_pos j)).1 hi) ∙ omega arith
  | inr l ↦
      let z = size-le (n / 2 ^ j) 0 (shr_lt 0 j (lt_of_lt_of_le (size-lt n) (pow_mono (omega arith)))) in
      omega arith
]

-- multiplied by 2 ^ x, it has x more
pub size_shl : (u x : ℕ) → 0 < u → size (u * 2 ^ x) ≡ size u + x
size_shl u x U =
    let a = size_shr (u * 2 ^ x) x in
    let b = ap size (mul-div_cancel u (pow_pos x)) in
    let l : 2 ^ x ≤ u * 2 ^ x = let m = mul-le-mul_right (2 ^ x) U in omega arith in
    let g = size_gt (u * 2 ^ x) x l in
    omega arith
