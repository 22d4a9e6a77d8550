-- The sum of two f32, taken at f64 and narrowed, is their f32 sum: to round twice is to round once there. Either the f64 sum loses nothing, or the
-- smaller of the two is so small that both roundings give the larger. Assumes nothing.
use mathlib.Core.Path.{◌≡◌, refl, sym, ap, ◌∙◌, subst}
use mathlib.Core.Logic.{inl, inr}
use mathlib.Core.Bool.{Bool, true, false, ◌&&◌, beq, cond}
use Prim.Native.Nat.{ℕ, ◌+◌, ◌-◌, ◌*◌, ◌^◌, ◌≤◌, ◌<◌}
use native.Mathlib.Nat.{le_trans, le_of_eq, le_of_lt, lt_of_le_of_lt, lt_of_lt_of_le, le_of_mul-le-mul_right, lt_of_mul-lt-mul_right, mul-le-mul_right, mul-le-mul_left, mul-lt-mul_of_pos_right, mul_assoc, mul_right_comm, add-mul, one-mul}
use native.Mathlib.Omega.{arith}
use lib.IntN.{ℤ}
use lib.Dec.{T, ltb}
use lib.Pow.{pow-add, pow_pos, pow_mono, pow-lt}
use lib.Ieee.{Float, nan, inf, fin, binary32, binary64, up, down, fits, round, sum, add}
use lib.Ieee.Fits.{round-fits}
use lib.Ieee.Exact.{HasValue, round_exact}
use lib.Ieee.Scale.{grid, overflow, finite}
use Rattle.ieee.specs.Nearest.{gap}
use Rattle.ieee.specs.Narrowing.{narrow, convert}
use Rattle.ieee.proofs.Closest.{lt_or_ge}
use Rattle.ieee.proofs.Distance.{gap-mul}
use Rattle.ieee.proofs.Pack.{dropped, held, held_le, held-ge}
use Rattle.ieee.proofs.Units.{round-units, round-past, same_units}
use Rattle.ieee.proofs.Steps.{beats}
use Rattle.ieee.proofs.RoundedSize.{grid_under}
use Rattle.ieee.proofs.Convert.{round-own}
use Rattle.ieee.proofs.Narrow.{narrow-value}
use Rattle.ieee.proofs.SumByValue.{sub-mul, add-values}

-- units of the smallest f32 and of the smallest f64
abbrev L : ℕ
L = 2 ^ 149

abbrev M : ℕ
M = 2 ^ 1074

-- ---- an f32 in units: digits times a power of two, and all digits where the power is above 0
record Normal (s : Bool) (x : Float) : Type 0 where
  digits : ℕ
  power : ℕ
  few : digits ≤ 2 ^ 24
  full : 0 < power → 2 ^ 23 ≤ digits
  is : HasValue x s (digits * 2 ^ power) L
  below : digits * 2 ^ power < overflow binary32

normal : (s : Bool) (m : ℕ) (e : ℤ) → T (fits binary32 (fin s m e)) → Normal s (fin s m e)
normal s m e h =
    let num = m * up e in
    let own = round-own binary32 s m e h in
    elim (lt_or_ge (grid binary32 num (down e)) (overflow binary32)) [
      | inl l ↦ record {
        digits = held binary32 num (down e);
        power = dropped binary32 num (down e);
        few = held_le binary32 num (down e);
        full = held-ge binary32 num (down e);
        is = subst (λ (y : Float). HasValue y s (grid binary32 num (down e)) L) own (round-units binary32 s num (down e) l);
        below = l;
      }
      | inr g ↦ absurd (subst (λ (y : Float). T (finite y)) (sym own ∙ round-past binary32 s num (down e) g) tt)
    ]

-- ---- what lies near an f32 of full digits, nearer than a fourth of its step, is rounded to it
fewer : (d p : ℕ) → d ≤ 2 ^ 24 → (q : ℕ) × (j : ℕ) × (q < 2 ^ 24) × (q * 2 ^ j ≡ d * 2 ^ p)
fewer d p h = elim (lt_or_ge d (2 ^ 24)) [
  | inl l ↦ (d, p, l, refl)
  | inr g ↦
      let e : d ≡ 2 ^ 23 * 2 = omega arith in
      let t : 2 ^ (p + 1) ≡ 2 ^ p * 2 = pow-add 2 p 1 in
      (2 ^ 23, p + 1, omega arith, rw (t, e) (omega arith))
]

triangle : (G Y n C : ℕ) → gap G n ≤ gap Y n → gap Y n ≤ C → gap G Y ≤ C * 2
triangle G Y n C a b = omega arith

-- two multiples of u that are less than u apart
same-steps : (p q u w : ℕ) → gap (p * u) (q * u) ≤ w → w < u → p * u ≡ q * u
same-steps p q u w h l =
    let g : gap p q * u < 1 * u = lt_of_le_of_lt (le_trans (le_of_eq (sym (gap-mul p q u))) h) (lt_of_lt_of_le l (omega arith)) in
    let z : gap p q < 1 = lt_of_mul-lt-mul_right u g in
    let e : p ≡ q = omega arith in
    ap (λ (x : ℕ). x * u) e

module _ (d p h k : ℕ) (full : 2 ^ 23 ≤ d) (few : h ≤ 2 ^ 24) (large : 4 ≤ p) (near : gap (h * 2 ^ k) (d * 2 ^ p) ≤ 2 ^ (p - 3)) where
  abbrev w : ℕ
  w = 2 ^ (p - 3)

  at : (j r : ℕ) → p - 3 + r ≡ j → 2 ^ j ≡ w * 2 ^ r
  at j r e = ap (λ (x : ℕ). 2 ^ x) (sym e) ∙ pow-add 2 (p - 3) r

  spaced : h * 2 ^ k ≡ d * 2 ^ p
  spaced = elim (lt_or_ge k (p - 1)) [
    | inl l ↦
        let W : 0 < w = pow_pos (p - 3) in
        let a : h * 2 ^ k ≤ 2 ^ 24 * (w * 2) = le_trans (mul-le-mul_right (2 ^ k) few) (mul-le-mul_left (2 ^ 24) (le_trans (pow_mono {j = p - 2} (omega arith)) (le_of_eq (at (p - 2) 1 (omega arith))))) in
        let b : 2 ^ 23 * (w * 8) ≤ d * 2 ^ p = le_trans (le_of_eq (ap (λ (x : ℕ). 2 ^ 23 * x) (sym (at p 3 (omega arith))))) (mul-le-mul_right (2 ^ p) full) in
        absurd (omega (arith, near))
    | inr g ↦
        let u = 2 ^ (p - 1) in
        let i : h * 2 ^ k ≡ h * 2 ^ (k - (p - 1)) * u = ap (λ (x : ℕ). h * x) (ap (λ (x : ℕ). 2 ^ x) (omega arith) ∙ pow-add 2 (k - (p - 1)) (p - 1)) ∙ sym (mul_assoc h (2 ^ (k - (p - 1))) u) in
        let j : d * 2 ^ p ≡ d * 2 * u = ap (λ (x : ℕ). d * x) (ap (λ (x : ℕ). 2 ^ x) (omega arith) ∙ pow-add 2 1 (p - 1)) ∙ sym (mul_assoc d 2 u) in
        let U : u ≡ w * 4 = at (p - 1) 2 (omega arith) in
        let W : 0 < w = pow_pos (p - 3) in
        i ∙ same-steps (h * 2 ^ (k - (p - 1))) (d * 2) u w (rw (i, j) at near) (omega arith) ∙ sym j
  ]

near_grid : (num den d p : ℕ) → 0 < den → 2 ^ 23 ≤ d → d ≤ 2 ^ 24 → 4 ≤ p → gap (d * 2 ^ p * den) (num * L) ≤ 2 ^ (p - 4) * den → grid binary32 num den ≡ d * 2 ^ p
near_grid num den d p D full few large h =
    let k = dropped binary32 num den in
    let g = grid binary32 num den in
    let f = fewer d p few in
    let b : gap (g * den) (num * L) ≤ gap (d * 2 ^ p * den) (num * L) = subst (λ (y : ℕ). gap (g * den) (num * L) ≤ gap (y * den) (num * L)) f.3 (beats binary32 num den D f.0 f.1 f.2).near in
    let t : gap (g * den) (d * 2 ^ p * den) ≤ 2 ^ (p - 4) * den * 2 = triangle (g * den) (d * 2 ^ p * den) (num * L) (2 ^ (p - 4) * den) b h in
    let w : 2 ^ (p - 3) ≡ 2 ^ (p - 4) * 2 = ap (λ (x : ℕ). 2 ^ x) (omega arith) ∙ pow-add 2 (p - 4) 1 in
    let m : gap g (d * 2 ^ p) * den ≤ 2 ^ (p - 3) * den = le_trans (le_of_eq (sym (gap-mul g (d * 2 ^ p) den))) (le_trans t (le_of_eq (mul_right_comm (2 ^ (p - 4)) den 2 ∙ ap (λ (x : ℕ). x * den) (sym w)))) in
    spaced d p (held binary32 num den) k full (held_le binary32 num den) large (le_of_mul-le-mul_right m D)

-- ---- a number of units that is rounded once as it is rounded twice
abbrev OnceAsTwice : ℕ → Type 0
OnceAsTwice n = (s : Bool) → narrow (round binary64 s n L) ≡ round binary32 s n L

deeper : M ≡ 2 ^ 925 * L
deeper = pow-add 2 925 149

-- it has so few digits that an f64 keeps them all
exact : (q j : ℕ) → q < 2 ^ 53 → q * 2 ^ j < 2 ^ 278 → OnceAsTwice (q * 2 ^ j)
exact q j few small s =
    let n = q * 2 ^ j in
    let i : q * 2 ^ (j + 925) ≡ n * 2 ^ 925 = ap (λ (x : ℕ). q * x) (pow-add 2 j 925) ∙ sym (mul_assoc q (2 ^ j) (2 ^ 925)) in
    let e : n * M ≡ q * 2 ^ (j + 925) * L = ap (λ (x : ℕ). n * x) deeper ∙ sym (mul_assoc n (2 ^ 925) L) ∙ ap (λ (x : ℕ). x * L) (sym i) in
    let l : q * 2 ^ (j + 925) < overflow binary64 = lt_of_le_of_lt (le_of_eq i) (lt_of_lt_of_le (mul-lt-mul_of_pos_right small (pow_pos 925)) (le_trans (le_of_eq (sym (pow-add 2 278 925))) (pow_mono {i = 278 + 925} {j = 2098} (omega arith)))) in
    narrow-value (round binary64 s n L) s n L (pow_pos 149) (round_exact binary64 s n L q (j + 925) (pow_pos 149) few l e)

-- it is near an f32 of full digits
module _ (n d p : ℕ) (full : 2 ^ 23 ≤ d) (few : d ≤ 2 ^ 24) (large : 5 ≤ p) (below : d * 2 ^ p < overflow binary32) (small : n < 2 ^ 278) (near : gap (d * 2 ^ p) n ≤ 2 ^ (p - 5)) where
  abbrev A : ℕ
  A = d * 2 ^ p

  abbrev c : ℕ
  c = 2 ^ (p - 5)

  twice : 2 ^ (p - 4) ≡ c * 2
  twice = ap (λ (x : ℕ). 2 ^ x) (omega arith) ∙ pow-add 2 (p - 5) 1

  once_grid : grid binary32 n L ≡ A
  once_grid =
      near_grid n L d p (pow_pos 149) full few (omega arith)
      (le_trans (le_of_eq (gap-mul A n L)) (mul-le-mul_right L (le_trans near (omega (arith, twice)))))

  abbrev wide : ℕ
  wide = grid binary64 n L

  wide-near : gap (wide * L) (n * M) ≤ gap (A * M) (n * M)
  wide-near =
      let i : d * 2 ^ (p + 925) * L ≡ A * M = ap (λ (x : ℕ). d * x * L) (pow-add 2 p 925) ∙ ap (λ (x : ℕ). x * L) (sym (mul_assoc d (2 ^ p) (2 ^ 925))) ∙ mul_assoc A (2 ^ 925) L ∙ ap (λ (x : ℕ). A * x) (sym deeper) in
      subst (λ (y : ℕ). gap (wide * L) (n * M) ≤ gap y (n * M)) i (beats binary64 n L (pow_pos 149) d (p + 925) (lt_of_le_of_lt few (omega arith))).near

  twice_grid : grid binary32 wide M ≡ A
  twice_grid =
      let a : gap (A * M) (n * M) ≤ c * M = le_trans (le_of_eq (gap-mul A n M)) (mul-le-mul_right M near) in
      let t : gap (wide * L) (A * M) ≤ c * M * 2 = triangle (wide * L) (A * M) (n * M) (c * M) wide-near a in
      near_grid wide M d p (pow_pos 1074) full few (omega arith)
      (le_trans (le_of_eq (turned (A * M) (wide * L))) (le_trans t (le_of_eq (mul_right_comm c M 2 ∙ ap (λ (x : ℕ). x * M) (sym twice)))))
    where
      turned : (a b : ℕ) → gap a b ≡ gap b a
      turned a b = omega arith

  by-larger : OnceAsTwice n
  by-larger s =
      let l : n ≤ 1 * 2 ^ 129 * L = le_trans (le_of_lt small) (le_of_eq (pow-add 2 129 149 ∙ ap (λ (x : ℕ). x * L) (sym (one-mul (2 ^ 129))))) in
      let u : wide < overflow binary64 = grid_under binary64 n L 1 129 (pow_pos 149) (omega arith) l (lt_of_le_of_lt (le_of_eq (one-mul (2 ^ 129))) (pow-lt {i = 129} {j = 1024} (omega arith))) in
      let v = narrow-value (round binary64 s n L) s wide M (pow_pos 1074) (round-units binary64 s n L u) in
      let one : HasValue (round binary32 s n L) s A L = subst (λ (g : ℕ). HasValue (round binary32 s n L) s g L) once_grid (round-units binary32 s n L (subst (λ (g : ℕ). g < overflow binary32) (sym once_grid) below)) in
      let two : HasValue (round binary32 s wide M) s A L = subst (λ (g : ℕ). HasValue (round binary32 s wide M) s g L) twice_grid (round-units binary32 s wide M (subst (λ (g : ℕ). g < overflow binary32) (sym twice_grid) below)) in
      v ∙ same_units binary32 (round binary32 s wide M) (round binary32 s n L) s A (round-fits binary32 s wide M) (round-fits binary32 s n L) two one

-- ---- the sum and the differences of two f32, in units
record OfTwo (a b : ℕ) : Type 0 where
  both : OnceAsTwice (a + b)
  less : OnceAsTwice (a - b)
  more : OnceAsTwice (b - a)

nothing : OnceAsTwice 0
nothing = exact 0 0 (omega arith) (pow_pos 278)

sum-under : (a b o : ℕ) → a < o → b < o → a + b < o * 2
sum-under a b o l m = omega arith

rest_under : (a b o : ℕ) → a < o → a - b < o * 2
rest_under a b o l = omega arith

gap_of_sum : (a b : ℕ) → gap a (a + b) ≡ b
gap_of_sum a b = omega arith

gap_of_rest : (a b : ℕ) → b ≤ a → gap a (a - b) ≡ b
gap_of_rest a b l = omega arith

none_left : (a b : ℕ) → b ≤ a → 0 ≡ b - a
none_left a b l = omega arith

module _ (d p q j : ℕ) (few : d ≤ 2 ^ 24) (few' : q ≤ 2 ^ 24) (full : 0 < p → 2 ^ 23 ≤ d) (order : j ≤ p) (below : d * 2 ^ p < overflow binary32) (below' : q * 2 ^ j < overflow binary32) where
  under : overflow binary32 * 2 ≡ 2 ^ 278
  under = sym (pow-add 2 277 1)

  -- so near in power that all digits together are few
  alike : p - j ≤ 28 → OfTwo (d * 2 ^ p) (q * 2 ^ j)
  alike l =
      let k = 2 ^ (p - j) in
      let i : d * 2 ^ p ≡ d * k * 2 ^ j = ap (λ (x : ℕ). d * x) (ap (λ (x : ℕ). 2 ^ x) (omega arith) ∙ pow-add 2 (p - j) j) ∙ sym (mul_assoc d k (2 ^ j)) in
      let D : d * k ≤ 2 ^ 24 * 2 ^ 28 = le_trans (mul-le-mul_right k few) (mul-le-mul_left (2 ^ 24) (pow_mono l)) in
      let plus : (d * k + q) * 2 ^ j ≡ d * 2 ^ p + q * 2 ^ j = add-mul (d * k) q (2 ^ j) ∙ ap (λ (x : ℕ). x + q * 2 ^ j) (sym i) in
      let down : (d * k - q) * 2 ^ j ≡ d * 2 ^ p - q * 2 ^ j = sub-mul (d * k) q (2 ^ j) ∙ ap (λ (x : ℕ). x - q * 2 ^ j) (sym i) in
      let back : (q - d * k) * 2 ^ j ≡ q * 2 ^ j - d * 2 ^ p = sub-mul q (d * k) (2 ^ j) ∙ ap (λ (x : ℕ). q * 2 ^ j - x) (sym i) in
      record {
        both = subst OnceAsTwice plus (exact (d * k + q) j (omega arith) (lt_of_le_of_lt (le_of_eq plus) (lt_of_lt_of_le (sum-under (d * 2 ^ p) (q * 2 ^ j) (overflow binary32) below below') (le_of_eq under))));
        less = subst OnceAsTwice down (exact (d * k - q) j (omega arith) (lt_of_le_of_lt (le_of_eq down) (lt_of_lt_of_le (rest_under (d * 2 ^ p) (q * 2 ^ j) (overflow binary32) below) (le_of_eq under))));
        more = subst OnceAsTwice back (exact (q - d * k) j (omega arith) (lt_of_le_of_lt (le_of_eq back) (lt_of_lt_of_le (rest_under (q * 2 ^ j) (d * 2 ^ p) (overflow binary32) below') (le_of_eq under))));
      }

  -- so far apart that the smaller one does not count
  unlike : 29 ≤ p - j → OfTwo (d * 2 ^ p) (q * 2 ^ j)
  unlike l =
      let a = d * 2 ^ p in
      let b = q * 2 ^ j in
      let high = full (omega arith) in
      let c : b ≤ 2 ^ (p - 5) = le_trans (mul-le-mul_right (2 ^ j) few') (le_trans (le_of_eq (sym (pow-add 2 24 j))) (pow_mono (omega arith))) in
      let g : b ≤ a = le_trans c (le_trans (pow_mono {i = p - 5} {j = p} (omega arith)) (le_trans (le_of_eq (sym (one-mul (2 ^ p)))) (mul-le-mul_right (2 ^ p) (le_trans (pow_mono {i = 0} {j = 23} (omega arith)) high)))) in
      let by : (n : ℕ) → n < overflow binary32 * 2 → gap a n ≤ 2 ^ (p - 5) → OnceAsTwice n = λ n small near. by-larger n d p high few (omega arith) below (lt_of_lt_of_le small (le_of_eq under)) near in
      record {
        both = by (a + b) (sum-under a b (overflow binary32) below below') (le_trans (le_of_eq (gap_of_sum a b)) c);
        less = by (a - b) (rest_under a b (overflow binary32) below) (le_trans (le_of_eq (gap_of_rest a b g)) c);
        more = subst OnceAsTwice (none_left a b g) nothing;
      }

  of_two : OfTwo (d * 2 ^ p) (q * 2 ^ j)
  of_two = elim (lt_or_ge 28 (p - j)) [ inl l ↦ unlike l | inr g ↦ alike g ]

swapped : (a b : ℕ) → OfTwo b a → OfTwo a b
swapped a b o = record { both = subst OnceAsTwice (omega arith) o.both; less = o.more; more = o.less }

any-two : {s t : Bool} {x y : Float} (X : Normal s x) (Y : Normal t y) → OfTwo (X.digits * 2 ^ X.power) (Y.digits * 2 ^ Y.power)
any-two X Y = elim (lt_or_ge X.power Y.power) [
  | inl l ↦ swapped (X.digits * 2 ^ X.power) (Y.digits * 2 ^ Y.power) (of_two Y.digits Y.power X.digits X.power Y.few X.few Y.full (omega arith) Y.below X.below)
  | inr g ↦ of_two X.digits X.power Y.digits Y.power X.few Y.few X.full g X.below Y.below
]

-- ---- the sum
by_signs : (s t : Bool) (a b : ℕ) → OfTwo a b → narrow (sum binary64 s a t b L) ≡ sum binary32 s a t b L
unfolding sum
by_signs s t a b o = go (beq s t) (ltb a b)
  where
    go : (same below : Bool)
        → narrow (cond same (round binary64 s (a + b) L) (cond below (round binary64 t (b - a) L) (round binary64 (s && ltb b a) (a - b) L)))
        ≡ cond same (round binary32 s (a + b) L) (cond below (round binary32 t (b - a) L) (round binary32 (s && ltb b a) (a - b) L))
    go true below = o.both s
    go false true = o.more t
    go false false = o.less (s && ltb b a)

pub narrowed-sum : (x y : Float) → T (fits binary32 x) → T (fits binary32 y) → narrow (add binary64 x y) ≡ add binary32 x y
unfolding add narrow convert
narrowed-sum nan y h k = refl
narrowed-sum (inf s) nan h k = refl
narrowed-sum (inf s) (inf t) h k = go (beq s t)
  where
    go : (same : Bool) → convert binary32 (cond same (inf s) nan) ≡ cond same (inf s) nan
    go true = refl
    go false = refl
narrowed-sum (inf s) (fin t n d) h k = refl
narrowed-sum (fin s m e) nan h k = refl
narrowed-sum (fin s m e) (inf t) h k = refl
narrowed-sum (fin s m e) (fin t n d) h k =
    let X = normal s m e h in
    let Y = normal t n d k in
    let a = X.digits * 2 ^ X.power in
    let b = Y.digits * 2 ^ Y.power in
    ap narrow (add-values binary64 (fin s m e) (fin t n d) s t a b L (pow_pos 149) X.is Y.is)
    ∙ by_signs s t a b (any-two X Y)
    ∙ sym (add-values binary32 (fin s m e) (fin t n d) s t a b L (pow_pos 149) X.is Y.is)
