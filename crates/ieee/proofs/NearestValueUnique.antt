-- What IEEE 754 says of rounding (`TiesToEven`) leaves one value, which is that of `round`, over the format. Assumes nothing.
use mathlib.Core.Path.{◌≡◌, refl, sym, ap, ◌∙◌, subst}
use mathlib.Core.Logic.{◌≢◌, inl, inr}
use Prim.Native.Nat.{ℕ, suc, ◌-◌, ◌*◌, ◌/◌, ◌%◌, ◌^◌, ◌≤◌, ◌<◌}
use native.Mathlib.Nat.{le_trans, le_of_eq, le_antisymm, lt_of_not-le, lt_irrefl, not-le_of_lt, ne_of_lt, ne_of_gt, mul-pos, mul-le-mul_right, div-lt_iff_lt-mul, div-div-eq-div-mul, eq_of_mul-eq-mul_right}
use native.Mathlib.Omega.{arith}
use mathlib.Core.Bool.{Bool, true, false}
use lib.Pow.{pow_pos}
use lib.Ieee.{Float, Format, prec, emax, low, round, to_bits}
use lib.Ieee.Fits.{kept-lt, round-fits}
use lib.Ieee.Exact.{HasValue}
use lib.Ieee.Scale.{grid, overflow}
use Rattle.ieee.specs.Nearest.{gap, ratio, value_of, AsFar, NearestValue, Overflows, sign_of, TiesToEven}
use Rattle.ieee.proofs.Closest.{tri, lt_or_ge}
use Rattle.ieee.proofs.NearestWhole.{nearest_unique}
use Rattle.ieee.proofs.Distance.{apart, as_far}
use Rattle.ieee.proofs.Pack.{dropped, held}
use Rattle.ieee.proofs.Units.{in_units, same_units, round-units}
use Rattle.ieee.proofs.Overflow.{past_overflows}
use Rattle.ieee.proofs.Steps.{by-steps, steps-nearest, full, step_or_farther, last-digit}
use Rattle.ieee.proofs.Values.{differ_by_size}
use Rattle.ieee.proofs.NearestValue.{round-nearest, round_ties_to_even}

apart-same : (s : Bool) (x y : ℕ) → apart s x s y ≡ gap y x
apart-same true x y = refl
apart-same false x y = refl

-- ---- what is within half a step d of n lies between the whole steps that n lies between
near_le : (n d c b : ℕ) → 0 < d → gap (c * d) n * 2 ≤ d → n < b * d → c ≤ b
near_le n d c b D h l = elim (lt_or_ge b c) [ inl g ↦ let m = mul-le-mul_right d g in absurd (omega arith) | inr g ↦ g ]

near-ge : (n d c b : ℕ) → 0 < d → gap (c * d) n * 2 ≤ d → b * d ≤ n → b ≤ c
near-ge n d c b D h l = elim (lt_or_ge c b) [ inl g ↦ let m = mul-le-mul_right d g in absurd (omega arith) | inr g ↦ g ]

-- ---- below the range's end
module _ (f : Format) (s : Bool) (num den : ℕ) (D : 0 < den) (small : ¬ Overflows f num den) (y : Float) (Y : NearestValue f (ratio s num den) y) where
  rounded : NearestValue f (ratio s num den) (round f s num den)
  rounded = round-nearest f s num den D small

  value_of_round : HasValue (round f s num den) s (grid f num den) (2 ^ low f)
  value_of_round = round-units f s num den (lt_of_not-le (λ (h : overflow f ≤ grid f num den). small (past_overflows f num den D h)))

  as_near : AsFar (ratio s num den) (value_of y) (value_of (round f s num den))
  as_near = le_antisymm (Y.near (round f s num den) rounded.value) (rounded.near y Y.value)

  -- y is c steps: as many as `round` keeps, since at a tie both would be even
  module _ (c : ℕ) (v : HasValue y s (c * 2 ^ dropped f num den) (2 ^ low f)) where
    even : c ≢ held f num den → to_bits f y % 2 ≡ 0
    even d =
        let k = dropped f num den in
        Y.tie (round f s num den) rounded.value
        (differ_by_size y (round f s num den) s s (c * 2 ^ k) (grid f num den) (2 ^ low f) v value_of_round (λ e. d (sym (eq_of_mul-eq-mul_right (2 ^ k) (pow_pos k) (held f num den) c e)))) as_near

    as_many : gap (c * 2 ^ dropped f num den * den) (num * 2 ^ low f) ≡ gap (grid f num den * den) (num * 2 ^ low f) → c ≡ held f num den
    as_many e =
        let k = dropped f num den in
        let n = num * 2 ^ low f in
        let d = den * 2 ^ k in
        let P : 0 < d = mul-pos D (pow_pos k) in
        let steps = steps-nearest f num den D in
        let g : gap (c * d) n ≡ gap (held f num den * d) n =
        ap (λ (x : ℕ). gap x n) (by-steps den (2 ^ k) c) ∙ e ∙ sym (ap (λ (x : ℕ). gap x n) (by-steps den (2 ^ k) (held f num den))) in
        let near : gap (c * d) n * 2 ≤ d = subst (λ (x : ℕ). x * 2 ≤ d) (sym g) steps.near in
        let under : n < 2 ^ prec f * d = (div-lt_iff_lt-mul P).0 (subst (λ (x : ℕ). x < 2 ^ prec f) (div-div-eq-div-mul n den (2 ^ k)) (kept-lt (prec f) (n / den))) in
        let digit : to_bits f y % 2 ≡ c % 2 =
        last-digit f y s c k v (near_le n d c (2 ^ prec f) P near under)
        (λ K. near-ge n d c (2 ^ (prec f - 1)) P near (le_trans (le_of_eq (by-steps den (2 ^ k) (2 ^ (prec f - 1)))) (full f num den D K))) in
        nearest_unique n d c (held f num den) P
        (record {
          near = near;
          tie =
              λ t.
              elim (tri c (held f num den)) [
                | inl l ↦ sym digit ∙ even (ne_of_lt l)
                | inr (inl i) ↦ ap (λ (x : ℕ). x % 2) i ∙ steps.tie (ap (λ (x : ℕ). x * 2) (sym g) ∙ t)
                | inr (inr l) ↦ sym digit ∙ even (ne_of_gt l)
              ];
        })
        steps

  is-rounded : sign_of y ≡ s → y ≡ round f s num den
  is-rounded sign =
      let L = 2 ^ low f in
      let n = num * L in
      let v = grid f num den in
      let U = in_units f y Y.value in
      let w = U.digits * 2 ^ U.power in
      let W : HasValue y s w L = subst (λ (t : Bool). HasValue y t w L) sign U.is in
      let e : gap (w * den) n ≡ gap (v * den) n = sym (apart-same s n (w * den)) ∙ as_far s num den L y (round f s num den) s s w v W value_of_round as_near ∙ apart-same s n (v * den) in
      elim (step_or_farther f num den D U.digits U.power U.few) [
        | inl c ↦
            let i : w ≡ c.0 * 2 ^ dropped f num den = c.1 in
            let z = as_many c.0 (subst (λ (x : ℕ). HasValue y s x L) i W) (ap (λ (x : ℕ). gap (x * den) n) (sym i) ∙ e) in
            same_units f y (round f s num den) s v Y.value.1 (round-fits f s num den) (subst (λ (x : ℕ). HasValue y s x L) (i ∙ ap (λ (x : ℕ). x * 2 ^ dropped f num den) z) W) value_of_round
        | inr l ↦ absurd (lt_irrefl (gap (v * den) n) (subst (λ (x : ℕ). gap (v * den) n < x) e l))
      ]

pub round_is_only : (f : Format) (s : Bool) (num den : ℕ) (y : Float) → 0 < den → TiesToEven f s num den y → y ≡ round f s num den
round_is_only f s num den y D p = elim (lt_or_ge (num * 2 ^ prec f) (2 ^ emax f * (2 ^ suc (prec f) - 1) * den)) [
  | inl l ↦ let small : ¬ Overflows f num den = not-le_of_lt l in is-rounded f s num den D small y (p.nearest small) p.sign
  | inr large ↦ p.infinite large ∙ sym ((round_ties_to_even f s num den D).infinite large)
]
