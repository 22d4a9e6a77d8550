-- What `round` drops and keeps of a fraction, by the binade that it lies in, over the format. From 2 ^ (prec - 1) up and below 2 ^ prec there is no digit
-- after the point: the fraction rounds to the nearest whole number, and the pattern counts those numbers one by one. Assumes nothing.
use mathlib.Core.Path.{◌≡◌, ap, ap₂, ◌∙◌}
use Prim.Native.Nat.{ℕ, suc, ◌+◌, ◌-◌, ◌*◌, ◌^◌, ◌≤◌, ◌<◌, min}
use native.Mathlib.Nat.{le_trans, le_of_eq, lt_of_lt_of_le, add-mul, mul_assoc, mul_comm, mul_right_comm, mul-le-mul_right, mul-lt-mul_of_pos_right, mul-pos, min-eq_left, two-pow-succ}
use native.Mathlib.Omega.{arith}
use mathlib.Core.Bool.{Bool, cond}
use lib.Pow.{pow-add, pow_pos}
use lib.Ieee.{Format, prec, low, hid, ones, top, round, to_bits}
use lib.Ieee.Fits.{two, reach}
use lib.Ieee.Nearest.{closest, closest_same}
use Rattle.ieee.proofs.Pack.{size_quot, dropped, held, held_le, pattern}
-- a name that other crates' proofs take from here
pub use Rattle.ieee.proofs.Pack.{size_gt}

module _ (f : Format) (num den : ℕ) (D : 0 < den) where
  -- from 2 ^ (prec - 1) steps of 2 ^ j units up, and below 2 ^ prec
  module _ (j : ℕ) (lo : 2 ^ (prec f - 1) * 2 ^ j * den ≤ num * 2 ^ low f) (hi : num * 2 ^ low f < 2 ^ prec f * 2 ^ j * den) where
    pub drops-at : dropped f num den ≡ j
    drops-at =
        let t = two f in
        let p : suc (prec f - 1 + j) ≡ prec f + j = omega arith in
        let z = size_quot (num * 2 ^ low f) den (prec f - 1 + j) D (rw (pow-add 2 (prec f - 1) j) lo) (rw (p, pow-add 2 (prec f) j) hi) in
        ap (λ (x : ℕ). x - prec f) z ∙ omega arith

    pub keeps-at : held f num den ≡ closest (num * 2 ^ low f) (den * 2 ^ j)
    keeps-at = ap (λ (x : ℕ). closest (num * 2 ^ low f) (den * 2 ^ x)) drops-at

  -- where steps are whole numbers
  module _ (lo : 2 ^ (prec f - 1) * den ≤ num) (hi : num < 2 ^ prec f * den) where
    lo' : 2 ^ (prec f - 1) * 2 ^ low f * den ≤ num * 2 ^ low f
    lo' = le_trans (le_of_eq (mul_right_comm (2 ^ (prec f - 1)) (2 ^ low f) den)) (mul-le-mul_right (2 ^ low f) lo)

    hi' : num * 2 ^ low f < 2 ^ prec f * 2 ^ low f * den
    hi' = lt_of_lt_of_le (mul-lt-mul_of_pos_right hi (pow_pos (low f))) (le_of_eq (mul_right_comm (2 ^ prec f) den (2 ^ low f)))

    whole-drops : dropped f num den ≡ low f
    whole-drops = drops-at (low f) lo' hi'

    whole-keeps : held f num den ≡ closest num den
    whole-keeps =
        let l = 2 ^ low f in
        keeps-at (low f) lo' hi' ∙ closest_same (num * l) (den * l) num den (mul-pos D (pow_pos (low f))) D (mul_assoc num l den ∙ ap (λ (x : ℕ). num * x) (mul_comm l den))

    pub whole-pattern : (s : Bool) → to_bits f (round f s num den) ≡ cond s (top f) 0 + (low f * hid f + closest num den)
    whole-pattern s =
        let t = two f in
        let k = whole-keeps in
        let digits : 2 ^ prec f ≡ hid f + hid f = ap (λ (x : ℕ). 2 ^ x) (omega arith) ∙ two-pow-succ (prec f - 1) in
        let room = mul-le-mul_right {m = low f + 2} {n = ones f} (hid f) (omega (arith, reach f)) in
        let few : low f * hid f + closest num den ≤ ones f * hid f = omega (arith, add-mul (low f) 2 (hid f), held_le f num den) in
        pattern f num den s
        ∙ ap₂ (λ (x y : ℕ). cond s (top f) 0 + min (x * hid f + y) (ones f * hid f)) whole-drops k
        ∙ ap (λ (x : ℕ). cond s (top f) 0 + x) (min-eq_left few)
