-- What an odd cut leaves of a quotient, and of a rounding to the nearest, by a larger unit: all of it. Assumes nothing.
use mathlib.Core.Path.{◌≡◌, sym, ap, ◌∙◌}
use mathlib.Core.Logic.{◌⊎◌, inl, inr}
use Prim.Native.Nat.{ℕ, ◌+◌, ◌-◌, ◌*◌, ◌/◌, ◌%◌, ◌≤◌, ◌<◌}
use native.Mathlib.Nat.{mul-le-mul_right, mul-lt-mul_of_pos_right, mul-pos, add-mul, mod-lt, div-add-mod', le-div_iff_mul-le, div-lt_iff_lt-mul, eq_of_mul-eq-mul_right}
use native.Mathlib.Omega.{arith}
use lib.Ieee.Nearest.{closest}
use Rattle.ieee.specs.Nearest.{gap, NearestWhole}
use Rattle.ieee.proofs.Closest.{lt_or_ge}
use Rattle.ieee.proofs.NearestWhole.{closest_nearest, closest_is}
use Rattle.ieee.proofs.SumByValue.{sub-mul}
use Rattle.ieee_odd_cut.proofs.OneOddCut.{IsOddCut}

-- ---- quotients by an even number of d
pub same-quotient : (x d w c : ℕ) → 0 < d → 0 < c → IsOddCut x d w → x / (d * (2 * c)) ≡ w / (2 * c)
same-quotient x d w c D C h =
    let k = 2 * c in
    let K : 0 < k = omega arith in
    let DK = mul-pos D K in
    let q = w / k in
    let e = div-add-mod' w k in
    let r = mod-lt w K in
    let lo : q * (d * k) ≤ x = low h q (w % k) e in
    let hi : x < (q + 1) * (d * k) = high h q (w % k) e r in
    let a = (div-lt_iff_lt-mul DK).1 hi in
    let b = (le-div_iff_mul-le DK).1 lo in
    omega arith
  where
    low : IsOddCut x d w → (q r : ℕ) → q * (2 * c) + r ≡ w → q * (d * (2 * c)) ≤ x
    low (inl i) q r e = let m = ap (λ (t : ℕ). t * d) e in omega arith
    low (inr i) q r e =
        let o : (q * c) * 2 + r ≡ w = omega arith in
        let l : (q * c) * 2 + 1 ≤ w = omega arith in
        let m = mul-le-mul_right d l in
        omega arith

    high : IsOddCut x d w → (q r : ℕ) → q * (2 * c) + r ≡ w → r < 2 * c → x < (q + 1) * (d * (2 * c))
    high (inl i) q r e l = let m = ap (λ (t : ℕ). t * d) e in let n = mul-lt-mul_of_pos_right l D in omega arith
    high (inr i) q r e l =
        let n : w + 1 ≤ q * (2 * c) + 2 * c = omega arith in
        let m = mul-le-mul_right d n in
        omega arith

-- ---- the nearest whole number, by a unit of 4 c
nearest-by : (x d w c n : ℕ) → 0 < d → 0 < c → IsOddCut x d w → NearestWhole w (4 * c) n → NearestWhole x (d * (4 * c)) n
nearest-by x d w c n D C (inl e) N =
    let k = 4 * c in
    let s : gap (n * (d * k)) x ≡ gap (n * k) w * d = scaled e in
    record {
      near = let m = mul-le-mul_right d N.near in omega arith;
      tie = λ t. N.tie (eq_of_mul-eq-mul_right d D (gap (n * k) w * 2) k (omega arith));
    }
  where
    scaled : w * d ≡ x → gap (n * (d * (4 * c))) x ≡ gap (n * (4 * c)) w * d
    scaled e =
        let a = sub-mul (n * (4 * c)) w d in
        let b = sub-mul w (n * (4 * c)) d in
        let i = add-mul (n * (4 * c) - w) (w - n * (4 * c)) d in
        let j : n * (4 * c) * d ≡ n * (d * (4 * c)) = omega arith in
        omega arith
nearest-by x d w c n D C (inr h) N =
    let u : n * (4 * c) ≡ (n * c) * 4 = omega arith in
    let f = N.near in
    let l1 : n * (4 * c) + 1 ≤ w + 2 * c = omega arith in
    let l2 : w + 1 ≤ n * (4 * c) + 2 * c = omega arith in
    let m1 = mul-le-mul_right d l1 in
    let m2 = mul-le-mul_right d l2 in
    record { near = omega arith; tie = λ t. absurd (omega arith) }

-- so the whole number nearest to x / (d * 4 c) is that nearest to w / 4 c
pub same-nearest : (x d w c : ℕ) → 0 < d → 0 < c → IsOddCut x d w → closest x (d * (4 * c)) ≡ closest w (4 * c)
same-nearest x d w c D C h =
    let K : 0 < 4 * c = omega arith in
    closest_is x (d * (4 * c)) (closest w (4 * c)) (mul-pos D K) (nearest-by x d w c (closest w (4 * c)) D C h (closest_nearest w (4 * c) K))

-- the code's way at a unit of 4
pub nearest_fourth : (v : ℕ) → (v + 1 + v / 4 % 2) / 4 ≡ closest v 4
nearest_fourth v = sym (closest_is v 4 ((v + 1 + v / 4 % 2) / 4) (omega arith) (go (lt_or_ge (v / 4 % 2) 1)))
  where
    go : (v / 4 % 2 < 1) ⊎ (1 ≤ v / 4 % 2) → NearestWhole v 4 ((v + 1 + v / 4 % 2) / 4)
    go (inl l) = let z : v / 4 % 2 ≡ 0 = omega arith in rw z (record { near = omega arith; tie = λ t. let i : (v + 1 + 0) / 4 ≡ v / 4 = omega arith in ap (λ (n : ℕ). n % 2) i ∙ z })
    go (inr l) = let z : v / 4 % 2 ≡ 1 = omega arith in rw z (record { near = omega arith; tie = λ t. let i : (v + 1 + 1) / 4 ≡ v / 4 + 1 = omega arith in ap (λ (n : ℕ). n % 2) i ∙ omega arith })
