-- `narrow a` by the sum and the difference that `snapped` makes, for an a that is not negative and does not overflow: with 2 ^ 52 steps of binary32 a sum is rounded to a whole number of steps, as `round` at binary32 does it; and less those steps it is exact. Assumes nothing.
use mathlib.Core.Path.{◌≡◌, refl, sym, ap, ap₂, ◌∙◌, subst}
use Prim.Native.Nat.{ℕ, ◌+◌, ◌-◌, ◌*◌, ◌^◌, ◌≤◌, ◌<◌}
use native.Mathlib.Nat.{le_trans, le_of_eq, lt_of_lt_of_le, lt_of_not-le, add_comm, mul_assoc, mul_comm, mul-le-mul_right, mul-lt-mul_of_pos_right, mul-pos}
use native.Mathlib.Omega.{arith}
use mathlib.Core.Bool.{Bool, true, false, not, true≢false}
use lib.Dec.{T, nltb→le}
use lib.Pow.{pow-add, pow_pos, pow_mono}
use lib.Ieee.{Float, nan, inf, fin, binary32, binary64, up, down, is_nan, round, add, sub, lt}
use lib.Ieee.Fits.{sub-fits, fits_widens}
use lib.Ieee.Exact.{HasValue, round_exact}
use lib.Ieee.Nearest.{closest, closest_same}
use lib.Ieee.Scale.{overflow}
use Rattle.ieee.specs.Nearest.{Overflows, sign_of}
use Rattle.ieee.specs.Narrowing.{narrow}
use Rattle.ieee.specs.inside.Spacing.{boundary, step_power, Anchor}
use Rattle.ieee.proofs.ClosestLaws.{closest_add}
use Rattle.ieee.proofs.Narrow.{narrow-value, narrow-fits, narrow_inf, narrow-infinite}
use Rattle.ieee.proofs.Overflow.{past_overflows}
use Rattle.ieee.proofs.Pack.{dropped, held, held_le}
use Rattle.ieee.proofs.Snap.{drops-at, keeps-at}
use Rattle.ieee.proofs.StepPower.{Around}
use Rattle.ieee.proofs.SumByValue.{plus-values, minus-values}
use Rattle.ieee.proofs.Units.{same_units, round-units}
use Rattle.ieee.proofs.Values.{rescaled}

-- a step in units of either format: 2 ^ k of 2 ^ -149, and 2 ^ (925 + k) of 2 ^ -1074
abbrev wide : ℕ → ℕ
wide k = 2 ^ (925 + k)

widths : (k : ℕ) → wide k * 2 ^ 149 ≡ 2 ^ k * 2 ^ 1074
widths k = sym (pow-add 2 (925 + k) 149) ∙ ap (λ (x : ℕ). 2 ^ x) (omega arith) ∙ pow-add 2 k 1074

units_of : (m k : ℕ) → m * wide k * 2 ^ 149 ≡ m * 2 ^ k * 2 ^ 1074
units_of m k = mul_assoc m (wide k) (2 ^ 149) ∙ ap (λ (x : ℕ). m * x) (widths k) ∙ sym (mul_assoc m (2 ^ k) (2 ^ 1074))

abbrev bias : ℕ
bias = 2 ^ 52

module _ (a c : Float) (n k : ℕ) (v : HasValue a false n (2 ^ 1074)) (w : HasValue c false (bias * wide k) (2 ^ 1074)) (drops : dropped binary32 n (2 ^ 1074) ≡ k) (room : n < 2 ^ 52 * wide k) (few : k ≤ 253) where
  -- a in steps, rounded: what `round` keeps at binary32
  abbrev steps : ℕ
  steps = closest n (wide k)

  keeps : held binary32 n (2 ^ 1074) ≡ steps
  keeps =
      ap (λ (x : ℕ). closest (n * 2 ^ 149) (2 ^ 1074 * 2 ^ x)) drops
      ∙ closest_same (n * 2 ^ 149) (2 ^ 1074 * 2 ^ k) n (wide k) (mul-pos (pow_pos 1074) (pow_pos k)) (pow_pos (925 + k))
      (mul_assoc n (2 ^ 149) (wide k) ∙ ap (λ (x : ℕ). n * x) (mul_comm (2 ^ 149) (wide k) ∙ widths k ∙ mul_comm (2 ^ k) (2 ^ 1074)))

  steps-few : steps ≤ 2 ^ 24
  steps-few = subst (λ (x : ℕ). x ≤ 2 ^ 24) keeps (held_le binary32 n (2 ^ 1074))

  in_range_lem : (q : ℕ) → q < 2 ^ 53 → q * wide k < overflow binary64
  in_range_lem q h = lt_of_lt_of_le (mul-lt-mul_of_pos_right h (pow_pos (925 + k))) (le_trans (le_of_eq (sym (pow-add 2 53 (925 + k)))) (pow_mono {j = 2098} (omega arith)))

  -- the sum is the bias and that many steps
  abbrev total : ℕ
  total = bias * wide k + n

  total-ge : 2 ^ 52 * wide k * 2 ^ 1074 ≤ total * 2 ^ 1074
  total-ge = mul-le-mul_right {m = 2 ^ 52 * wide k} {n = total} (2 ^ 1074) (omega arith)

  total-lt : total * 2 ^ 1074 < 2 ^ 53 * wide k * 2 ^ 1074
  total-lt = mul-lt-mul_of_pos_right {m = total} {n = 2 ^ 53 * wide k} (omega arith) (pow_pos 1074)

  total-drops : dropped binary64 total (2 ^ 1074) ≡ 925 + k
  total-drops = drops-at binary64 total (2 ^ 1074) (pow_pos 1074) (925 + k) total-ge total-lt

  total-keeps : held binary64 total (2 ^ 1074) ≡ bias + steps
  total-keeps =
      keeps-at binary64 total (2 ^ 1074) (pow_pos 1074) (925 + k) total-ge total-lt
      ∙ closest_same (total * 2 ^ 1074) (2 ^ 1074 * wide k) total (wide k) (mul-pos (pow_pos 1074) (pow_pos (925 + k))) (pow_pos (925 + k)) (mul_assoc total (2 ^ 1074) (wide k))
      ∙ closest_add bias n (wide k) (pow_pos (925 + k)) refl

  sum-value : HasValue (add binary64 a c) false ((bias + steps) * wide k) (2 ^ 1074)
  sum-value =
      let is : held binary64 total (2 ^ 1074) * 2 ^ dropped binary64 total (2 ^ 1074) ≡ (bias + steps) * wide k = ap₂ (λ (x y : ℕ). x * 2 ^ y) total-keeps total-drops in
      let below = in_range_lem (bias + steps) (omega (arith, steps-few)) in
      subst (λ (y : Float). HasValue y false ((bias + steps) * wide k) (2 ^ 1074)) (sym (plus-values binary64 a c n (bias * wide k) (2 ^ 1074) (pow_pos 1074) v w ∙ ap (λ (x : ℕ). round binary64 false x (2 ^ 1074)) (add_comm n (bias * wide k))))
      (subst (λ (x : ℕ). HasValue (round binary64 false total (2 ^ 1074)) false x (2 ^ 1074)) is (round-units binary64 false total (2 ^ 1074) (subst (λ (x : ℕ). x < overflow binary64) (sym is) below)))

  -- and less the bias, the steps alone
  difference-value : HasValue (sub binary64 (add binary64 a c) c) false (steps * wide k) (2 ^ 1074)
  difference-value =
      let left : (bias + steps) * wide k - bias * wide k ≡ steps * wide k = omega arith in
      subst (λ (y : Float). HasValue y false (steps * wide k) (2 ^ 1074))
      (sym (minus-values binary64 (add binary64 a c) c ((bias + steps) * wide k) (bias * wide k) (2 ^ 1074) (pow_pos 1074) (omega arith) sum-value w ∙ ap (λ (x : ℕ). round binary64 false x (2 ^ 1074)) left))
      (round_exact binary64 false (steps * wide k) (2 ^ 1074) steps (925 + k) (pow_pos 1074) (omega (arith, steps-few)) (in_range_lem steps (omega (arith, steps-few))) refl)

  narrow-steps : ¬ Overflows binary32 n (2 ^ 1074) → HasValue (narrow a) false (steps * wide k) (2 ^ 1074)
  narrow-steps small =
      let is : held binary32 n (2 ^ 1074) * 2 ^ dropped binary32 n (2 ^ 1074) ≡ steps * 2 ^ k = ap₂ (λ (x y : ℕ). x * 2 ^ y) keeps drops in
      rescaled (narrow a) false (steps * 2 ^ k) (2 ^ 149) (steps * wide k) (2 ^ 1074) (pow_pos 149) (units_of steps k)
      (subst (λ (y : Float). HasValue y false (steps * 2 ^ k) (2 ^ 149)) (sym (narrow-value a false n (2 ^ 1074) (pow_pos 1074) v))
      (subst (λ (x : ℕ). HasValue (round binary32 false n (2 ^ 1074)) false x (2 ^ 149)) is (round-units binary32 false n (2 ^ 1074) (lt_of_not-le (λ h. small (past_overflows binary32 n (2 ^ 1074) (pow_pos 1074) h))))))

pub narrow_by_sum : (a c : Float) (n : ℕ) → Around a n → Anchor a c → sub binary64 (add binary64 a c) c ≡ narrow a
narrow_by_sum a c n A C =
    let k = step_power a in
    let l = A.field in
    let w : HasValue c false (bias * wide k) (2 ^ 1074) = rescaled c false (bias * 2 ^ k) (2 ^ 149) (bias * wide k) (2 ^ 1074) (pow_pos 149) (units_of bias k) C in
    let few : k ≤ 253 = omega arith in
    same_units binary64 (sub binary64 (add binary64 a c) c) (narrow a) false (steps a c n k A.is w A.drops A.room few * wide k)
    (sub-fits binary64 (add binary64 a c) c) (fits_widens (narrow a) (narrow-fits a))
    (difference-value a c n k A.is w A.drops A.room few)
    (narrow-steps a c n k A.is w A.drops A.room few A.small)

-- ---- from the boundary on; d is a's bottom
overflow_of : (x c p q d : ℕ) → p * 2 ^ 24 ≡ q → c * p * d ≤ x * 1 → q * c * d ≤ x * 2 ^ 24
overflow_of x c p q d e h = let i = ap (λ (y : ℕ). y * (c * d)) e in omega arith

pub narrow-beyond : (a : Float) → T (not (is_nan a)) → sign_of a ≡ false → lt a boundary ≡ false → inf false ≡ narrow a
unfolding lt is_nan
narrow-beyond nan N s h = absurd N
narrow-beyond (inf t) N s h = ap inf (sym s) ∙ sym (narrow_inf t)
narrow-beyond (fin true m e) N s h = absurd (true≢false s)
narrow-beyond (fin false m e) N s h =
    sym ((narrow-infinite false m e).1 (overflow_of (m * up e) (2 ^ 25 - 1) (2 ^ 103) (2 ^ 127) (down e) refl (nltb→le (m * up e * 1) ((2 ^ 25 - 1) * 2 ^ 103 * down e) (subst (λ (t : Bool). T (not t)) (sym h) tt))))
