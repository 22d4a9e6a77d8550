-- How large what `round` makes of a / b is, in units of the format's smallest value (`grid`), over the format: against whole numbers, powers of two, and a / b itself. Assumes nothing.
use mathlib.Core.Path.{◌≡◌, sym, ap, ◌∙◌}
use mathlib.Core.Logic.{inl, inr}
use mathlib.Core.Bool.{false}
use Prim.Native.Nat.{ℕ, suc, ◌+◌, ◌-◌, ◌*◌, ◌/◌, ◌^◌, ◌≤◌, ◌<◌}
use native.Mathlib.Nat.{zero-add, le_trans, le_of_eq, lt_of_le_of_lt, lt_of_lt_of_le, mul-one, mul_comm, mul_assoc, mul_right_comm, mul-le-mul_right, mul-le-mul_left, mul-lt-mul_of_pos_right, mul-pos, le_of_mul-le-mul_right, add-mul, add-le-add, eq-zero-or-pos, le-div_iff_mul-le, div-lt_iff_lt-mul}
use native.Mathlib.Omega.{arith}
use lib.Pow.{pow-add, pow_pos, pow_mono}
use lib.Ieee.{Format, prec, emax, low, round}
use lib.Ieee.Digits.{size-le, size_reaches}
use lib.Ieee.Fits.{two, reach}
use lib.Ieee.Order.{round_mono}
use lib.Ieee.Scale.{grid, overflow, normal_of_fraction}
use Rattle.ieee.proofs.Pack.{dropped, held, held-ge}
use Rattle.ieee.proofs.Snap.{size_gt}
use Rattle.ieee.proofs.ClosestLaws.{closest_le, closest_ge}
use Rattle.ieee.proofs.Units.{round-units}
use Rattle.ieee.proofs.FloatOrder.{le_sizes}
use Rattle.ieee.proofs.NearestWhole.{closest_err}

-- ---- at most k * 2 ^ j, where the fraction is, and where the format has the digits of k
module _ (f : Format) (a b k j : ℕ) (B : 0 < b) (K : k < 2 ^ prec f) (h : a ≤ k * 2 ^ j * b) where
  scaled : a * 2 ^ low f ≤ k * 2 ^ (j + low f) * b
  scaled =
      le_trans (mul-le-mul_right (2 ^ low f) h)
      (le_of_eq (mul_right_comm (k * 2 ^ j) b (2 ^ low f) ∙ ap (λ (x : ℕ). x * b) (mul_assoc k (2 ^ j) (2 ^ low f) ∙ ap (λ (x : ℕ). k * x) (sym (pow-add 2 j (low f))))))

  few-dropped : dropped f a b ≤ j + low f
  few-dropped =
      let t = j + low f in
      let z = size-le (a * 2 ^ low f / b) (prec f + t)
      ((div-lt_iff_lt-mul B).1 (lt_of_le_of_lt scaled (mul-lt-mul_of_pos_right (lt_of_lt_of_le (mul-lt-mul_of_pos_right K (pow_pos t)) (le_of_eq (sym (pow-add 2 (prec f) t)))) B))) in
      omega arith

  pub grid_up_to : grid f a b ≤ k * 2 ^ (j + low f)
  grid_up_to =
      let t = j + low f in
      let d = dropped f a b in
      let i = t - d in
      let l = few-dropped in
      let whole : 2 ^ t ≡ 2 ^ i * 2 ^ d = ap (λ (x : ℕ). 2 ^ x) (omega arith) ∙ pow-add 2 i d in
      let in_units : k * 2 ^ t ≡ k * 2 ^ i * 2 ^ d = ap (λ (x : ℕ). k * x) whole ∙ sym (mul_assoc k (2 ^ i) (2 ^ d)) in
      le_trans (mul-le-mul_right (2 ^ d) (closest_le (k * 2 ^ i) (a * 2 ^ low f) (b * 2 ^ d) (mul-pos B (pow_pos d))
      (le_trans scaled (le_of_eq (ap (λ (x : ℕ). x * b) in_units ∙ mul_assoc (k * 2 ^ i) (2 ^ d) b ∙ ap (λ (x : ℕ). k * 2 ^ i * x) (mul_comm (2 ^ d) b))))))
      (le_of_eq (sym in_units))

  -- and below an infinity, where k * 2 ^ j is
  pub grid_under : k * 2 ^ j < 2 ^ suc (emax f) → grid f a b < overflow f
  grid_under l =
      lt_of_le_of_lt grid_up_to
      (lt_of_le_of_lt (le_of_eq (ap (λ (x : ℕ). k * x) (pow-add 2 j (low f)) ∙ sym (mul_assoc k (2 ^ j) (2 ^ low f))))
      (lt_of_lt_of_le (mul-lt-mul_of_pos_right l (pow_pos (low f))) (le_of_eq (mul_comm (2 ^ suc (emax f)) (2 ^ low f) ∙ sym (pow-add 2 (low f) (suc (emax f)))))))

-- so at most a whole number that the format counts to
module _ (f : Format) (a b k : ℕ) (B : 0 < b) (K : k < 2 ^ prec f) (h : a ≤ k * b) where
  plain : a ≤ k * 2 ^ 0 * b
  plain = le_trans h (le_of_eq (sym (ap (λ (x : ℕ). x * b) (mul-one k))))

  pub grid_le : grid f a b ≤ k * 2 ^ low f
  grid_le = le_trans (grid_up_to f a b k 0 B K plain) (le_of_eq (ap (λ (x : ℕ). k * 2 ^ x) (zero-add (low f))))

  pub grid_fine : grid f a b < overflow f
  grid_fine = grid_under f a b k 0 B K plain (lt_of_le_of_lt (le_of_eq (mul-one k)) (lt_of_lt_of_le K (pow_mono (reach f))))

-- ---- at least a power of two, where the fraction is
pub grid_ge : (f : Format) (a b j : ℕ) → 0 < b → 2 ^ j * b ≤ a * 2 ^ low f → 2 ^ j ≤ grid f a b
grid_ge f a b j B h =
    let d = dropped f a b in
    let n = a * 2 ^ low f in
    let z = size_gt (n / b) j ((le-div_iff_mul-le B).1 h) in
    elim (eq-zero-or-pos d) [
      | inl e ↦
          let one : 2 ^ d ≡ 1 = ap (λ (x : ℕ). 2 ^ x) e in
          let l : 2 ^ j ≤ held f a b = closest_ge (2 ^ j) n (b * 2 ^ d) (mul-pos B (pow_pos d)) (le_trans (le_of_eq (ap (λ (x : ℕ). 2 ^ j * (b * x)) one ∙ ap (λ (x : ℕ). 2 ^ j * x) (mul-one b))) h) in
          le_trans l (le_of_eq (sym (ap (λ (x : ℕ). held f a b * x) one ∙ mul-one (held f a b))))
      | inr p ↦
          let t = two f in
          le_trans (pow_mono {j = prec f - 1 + d} (omega arith)) (le_trans (le_of_eq (pow-add 2 (prec f - 1) d)) (mul-le-mul_right (2 ^ d) (held-ge f a b p)))
    ]

-- ---- in the fractions' order
pub grid_mono : (f : Format) (a b c d : ℕ) → 0 < b → 0 < d → grid f a b < overflow f → grid f c d < overflow f → a * d ≤ c * b → grid f a b ≤ grid f c d
grid_mono f a b c d B D u v h =
    let L = 2 ^ low f in
    le_of_mul-le-mul_right
    (le_sizes (round f false a b) (round f false c d) false false (grid f a b) L (grid f c d) L (round-units f false a b u) (round-units f false c d v) (round_mono f a b c d B D h)) (pow_pos (low f))

-- ---- close to the fraction
-- x is off from y by at most one part in p of y
abbrev pub Near : ℕ → ℕ → ℕ → Type 0
Near p x y = (x * p ≤ y * p + y) × (y * p ≤ x * p + y)

-- the same in other units
pub near-scaled : (p x y k : ℕ) → Near p x y → Near p (x * k) (y * k)
near-scaled p x y k h = (scaled-up x y h.0, scaled-up y x h.1)
  where
    scaled-up : (a b : ℕ) → a * p ≤ b * p + y → a * k * p ≤ b * k * p + y * k
    scaled-up a b l =
        le_trans (le_of_eq (mul_right_comm a k p)) (le_trans (mul-le-mul_right k l) (le_of_eq (add-mul (b * p) y k ∙ ap (λ (n : ℕ). n + y * k) (mul_right_comm b p k))))

-- half a unit either way, where y is p units at least
spread : (x y unit p : ℕ) → unit * p ≤ y → x * 2 ≤ y * 2 + unit → y * 2 ≤ x * 2 + unit → Near (p * 2) x y
spread x y unit p u above below = (one_way x y above, one_way y x below)
  where
    regroup : (z : ℕ) → z * (p * 2) ≡ z * 2 * p
    regroup z = ap (λ (w : ℕ). z * w) (mul_comm p 2) ∙ sym (mul_assoc z 2 p)

    one_way : (a b : ℕ) → a * 2 ≤ b * 2 + unit → a * (p * 2) ≤ b * (p * 2) + y
    one_way a b h =
        le_trans (le_of_eq (regroup a)) (le_trans (mul-le-mul_right p h) (le_trans (le_of_eq (add-mul (b * 2) unit p)) (add-le-add (le_of_eq (sym (regroup b))) u)))

-- where the fraction is 2 ^ (prec - 1) units at least
module _ (f : Format) (a b : ℕ) (B : 0 < b) (normal : 2 ^ (prec f - 1) * b ≤ a * 2 ^ low f) where
  unit_le : b * 2 ^ dropped f a b * 2 ^ (prec f - 1) ≤ a * 2 ^ low f
  unit_le =
      let d = dropped f a b in
      let t = two f in
      let z = normal_of_fraction f a b B normal in
      le_trans (le_of_eq (mul_assoc b (2 ^ d) (2 ^ (prec f - 1)) ∙ mul_comm b (2 ^ d * 2 ^ (prec f - 1)) ∙ ap (λ (x : ℕ). x * b) (mul_comm (2 ^ d) (2 ^ (prec f - 1)) ∙ sym (pow-add 2 (prec f - 1) d))))
      ((le-div_iff_mul-le B).0 (size_reaches (a * 2 ^ low f / b) (prec f - 1 + d) (omega arith)))

  pub grid_near : (p : ℕ) → p ≤ 2 ^ (prec f - 1) → Near (p * 2) (grid f a b * b) (a * 2 ^ low f)
  grid_near p h =
      let n = a * 2 ^ low f in
      let k = 2 ^ dropped f a b in
      let q = held f a b in
      let e = closest_err n (b * k) (mul-pos B (pow_pos (dropped f a b))) in
      let i : q * (b * k) ≡ q * k * b = ap (λ (x : ℕ). q * x) (mul_comm b k) ∙ sym (mul_assoc q k b) in
      let above = e.0 in
      let below = e.1 in
      spread (q * k * b) n (b * k) p (le_trans (mul-le-mul_left (b * k) h) unit_le) (omega arith) (omega arith)
