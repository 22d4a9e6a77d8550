-- Where a format has no digit after the point, which is from 2 ^ (prec - 1) on, over the format. That number with x's sign added to a smaller x, and taken away again, leaves x rounded to a whole number; and an x from there on is whole. Assumes nothing.
use mathlib.Core.Path.{◌≡◌, refl, sym, ap, ap₂, ◌∙◌, subst}
use mathlib.Core.Logic.{inl, inr}
use Prim.Native.Nat.{ℕ, zero, suc, ◌+◌, ◌-◌, ◌*◌, ◌%◌, ◌^◌, ◌≤◌, ◌<◌}
use native.Mathlib.Nat.{le_trans, le_of_eq, le_of_lt, lt_of_le_of_lt, lt_of_lt_of_le, not-le_of_lt, mul-one, mul-pos, mul_assoc, mul-le-mul_right, mul-lt-mul_of_pos_right, le_of_mul-le-mul_right, eq_of_mul-eq-mul_right, zero-lt-suc}
use native.Mathlib.Omega.{arith}
use mathlib.Core.Bool.{Bool, true, false}
use lib.IntN.{ℤ, pos}
use lib.Dec.{T, lit<}
use lib.Pow.{pow-add, pow_pos, pow-lt, pow_mono}
use lib.Ieee.{Float, nan, inf, fin, Format, binary32, binary64, prec, emax, low, up, down, fits, round, add, sub, of_int}
use lib.Ieee.Fits.{down_pos, two}
use lib.Ieee.Exact.{HasValue}
use lib.Ieee.Nearest.{closest, closest_same}
use lib.Ieee.Scale.{grid, overflow}
use Rattle.ieee.specs.Rounding.{signed, rint}
use Rattle.ieee.proofs.Closest.{lt_or_ge}
use Rattle.ieee.proofs.ClosestLaws.{closest_le, closest_add}
use Rattle.ieee.proofs.Pack.{dropped, held, size_quot}
use Rattle.ieee.proofs.ByValue.{add-value, sub-above, sub-equal}
use Rattle.ieee.proofs.Units.{in_units, round-units}
use Rattle.ieee.proofs.Convert.{convert-value, convert-own}

-- 2 ^ (prec - 1) with a sign
abbrev pub whole_from : Format → Bool → Float
whole_from f s = fin s 1 (pos (prec f - 1))

-- in units of which k make 1, as a whole number
in_ones : (y : Float) (s : Bool) (q k : ℕ) → 0 < k → HasValue y s (q * k) k → HasValue y s q 1
in_ones nan s q k K v = v
in_ones (inf t) s q k K v = v
in_ones (fin t m e) s q k K v = (v.0, eq_of_mul-eq-mul_right k K (m * up e * 1) (q * down e) (let p = v.1 in omega arith))

even : (f : Format) → 2 ^ (prec f - 1) % 2 ≡ 0
even binary32 = refl
even binary64 = refl

far-reach : (f : Format) → prec f < suc (emax f)
far-reach binary32 = lit< tt
far-reach binary64 = lit< tt

module _ (f : Format) where
  -- a whole number as a float, by its sign and its size
  of_zero : (s : Bool) → of_int f (signed s 0) ≡ round f false 0 1
  unfolding of_int
  of_zero true = refl
  of_zero false = refl

  of_signed : (s : Bool) (w : ℕ) → 0 < w → of_int f (signed s w) ≡ round f s w 1
  unfolding of_int
  of_signed true zero W = absurd (omega arith)
  of_signed true (suc w) W = refl
  of_signed false w W = refl

  pub snap_value : (s : Bool) (num den : ℕ) → 0 < den → 2 ^ (prec f - 1) * den ≤ num → num < 2 ^ prec f * den → HasValue (round f s num den) s (closest num den) 1
  snap_value s num den D lo hi =
      let L = 2 ^ low f in
      let q = closest num den in
      let t = two f in
      let i : suc (prec f - 1 + low f) ≡ prec f + low f = omega arith in
      let at_least : 2 ^ (prec f - 1 + low f) * den ≤ num * L = let p = ap (λ (x : ℕ). x * den) (pow-add 2 (prec f - 1) (low f)) in let l = mul-le-mul_right L lo in omega arith in
      let less_than : num * L < 2 ^ suc (prec f - 1 + low f) * den = let p = ap (λ (x : ℕ). x * den) (ap (λ (x : ℕ). 2 ^ x) i ∙ pow-add 2 (prec f) (low f)) in let l = mul-lt-mul_of_pos_right hi (pow_pos (low f)) in omega arith in
      let drops : dropped f num den ≡ low f = ap (λ (x : ℕ). x - prec f) (size_quot (num * L) den (prec f - 1 + low f) D at_least less_than) ∙ omega arith in
      let keeps : held f num den ≡ q = ap (λ (x : ℕ). closest (num * L) (den * 2 ^ x)) drops ∙ closest_same (num * L) (den * L) num den (mul-pos D (pow_pos (low f))) D (omega arith) in
      let whole : grid f num den ≡ q * L = ap₂ (λ (n k : ℕ). n * 2 ^ k) keeps drops in
      let few : q * L < overflow f =
      lt_of_le_of_lt (mul-le-mul_right L (closest_le (2 ^ prec f) num den D (le_of_lt hi)))
      (lt_of_lt_of_le (mul-lt-mul_of_pos_right (pow-lt (far-reach f)) (pow_pos (low f))) (le_of_eq (let p = pow-add 2 (low f) (suc (emax f)) in omega arith))) in
      in_ones (round f s num den) s q L (pow_pos (low f)) (subst (λ (n : ℕ). HasValue (round f s num den) s n L) whole (round-units f s num den (subst (λ (n : ℕ). n < overflow f) (sym whole) few)))

  from-value : (s : Bool) → HasValue (whole_from f s) s (2 ^ (prec f - 1)) 1
  from-value s = (refl, omega arith)

  -- ---- a smaller x: the sum is 2 ^ (prec - 1) and the whole number nearest to x, and what is left is that whole number
  module _ (s : Bool) (m : ℕ) (e : ℤ) (h : m * up e < 2 ^ (prec f - 1) * down e) where
    abbrev nearest : ℕ
    nearest = closest (m * up e) (down e)

    sum-value : HasValue (add f (fin s m e) (whole_from f s)) s (2 ^ (prec f - 1) + nearest) 1
    sum-value =
        let a = m * up e in
        let d = down e in
        let P = 2 ^ (prec f - 1) in
        let t = two f in
        let twice : 2 ^ prec f ≡ P * 2 = let i : prec f ≡ prec f - 1 + 1 = omega arith in ap (λ (x : ℕ). 2 ^ x) i ∙ pow-add 2 (prec f - 1) 1 in
        let num : a * 1 + P * d ≡ P * d + a = omega arith in
        let is : add f (fin s m e) (whole_from f s) ≡ round f s (P * d + a) d =
        add-value f (fin s m e) (whole_from f s) s a d P 1 (down_pos e) (zero-lt-suc 0) (refl, refl) (from-value s)
        ∙ ap (λ (x : ℕ). round f s x (d * 1)) num
        ∙ ap (round f s (P * d + a)) (mul-one d) in
        subst (λ (y : Float). HasValue y s (P + nearest) 1) (sym is)
        (subst (λ (q : ℕ). HasValue (round f s (P * d + a) d) s q 1) (closest_add P a d (down_pos e) (even f))
        (snap_value s (P * d + a) d (down_pos e) (omega arith) (let i = ap (λ (x : ℕ). x * d) twice in omega arith)))

  less-from : (s : Bool) (n : ℕ) (y : Float) → HasValue y s (2 ^ (prec f - 1) + n) 1 → sub f y (whole_from f s) ≡ of_int f (signed s n)
  less-from s zero y v = sub-equal f s (2 ^ (prec f - 1) + 0) 1 (2 ^ (prec f - 1)) 1 (zero-lt-suc 0) (zero-lt-suc 0) y (whole_from f s) v (from-value s) (omega arith) ∙ sym (of_zero s)
  less-from s (suc n) y v =
      sub-above f s (2 ^ (prec f - 1) + suc n) 1 (2 ^ (prec f - 1)) 1 (zero-lt-suc 0) (zero-lt-suc 0) y (whole_from f s) v (from-value s) (omega arith)
      ∙ ap (λ (x : ℕ). round f s x 1) (omega arith)
      ∙ sym (of_signed s (suc n) (zero-lt-suc n))

  pub whole_by_sum : (s : Bool) (m : ℕ) (e : ℤ) → m * up e < 2 ^ (prec f - 1) * down e → sub f (add f (fin s m e) (whole_from f s)) (whole_from f s) ≡ of_int f (rint (fin s m e))
  unfolding rint
  whole_by_sum s m e h = less-from s (closest (m * up e) (down e)) (add f (fin s m e) (whole_from f s)) (sum-value s m e h)

  -- ---- an x from there on
  pub far-whole : (s : Bool) (m : ℕ) (e : ℤ) → T (fits f (fin s m e)) → 2 ^ (prec f - 1) * down e ≤ m * up e → (w : ℕ) × HasValue (fin s m e) s w 1
  far-whole s m e F h =
      let U = in_units f (fin s m e) (tt, F) in
      let L = 2 ^ low f in
      let t = two f in
      let many : 2 ^ (prec f - 1) * L ≤ U.digits * 2 ^ U.power = le_of_mul-le-mul_right {k = down e} (let a = mul-le-mul_right L h in let b = U.is.1 in omega arith) (down_pos e) in
      let deep : low f ≤ U.power = elim (lt_or_ge U.power (low f)) [
        | inl l ↦ absurd (not-le_of_lt (lt_of_lt_of_le (mul-lt-mul_of_pos_right U.few (pow_pos U.power)) (le_trans (le_of_eq (sym (pow-add 2 (prec f) U.power))) (le_trans (pow_mono {j = prec f - 1 + low f} (omega arith)) (le_of_eq (pow-add 2 (prec f - 1) (low f)))))) many)
        | inr g ↦ g
      ] in
      let i : U.power ≡ U.power - low f + low f = omega arith in
      let w = U.digits * 2 ^ (U.power - low f) in
      let same : w * L ≡ U.digits * 2 ^ U.power = mul_assoc U.digits (2 ^ (U.power - low f)) L ∙ ap (λ (x : ℕ). U.digits * x) (sym (pow-add 2 (U.power - low f) (low f)) ∙ ap (λ (x : ℕ). 2 ^ x) (sym i)) in
      (w, in_ones (fin s m e) s w L (pow_pos (low f)) (subst (λ (x : ℕ). HasValue (fin s m e) s x L) (sym same) U.is))

  -- a whole number other than 0 that the format holds, as a float, is itself
  pub own-whole : (x : Float) (s : Bool) (w : ℕ) → T (fits f x) → HasValue x s w 1 → 0 < w → of_int f (signed s w) ≡ x
  own-whole x s w F v W = of_signed s w W ∙ sym (convert-value f x s w 1 (zero-lt-suc 0) v) ∙ convert-own f x F
