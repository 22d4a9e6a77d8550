-- The whole number nearest to a fraction, a tie to the even one, as IEEE 754 says it: `closest` gives it, only one number is it, no whole number is nearer, and `rint` gives it of a finite float. Assumes nothing.
use mathlib.Core.Path.{◌≡◌, refl, sym, ap, subst}
use mathlib.Core.Logic.{◌⊎◌, ◌≢◌, inl, inr}
use Prim.Native.Nat.{ℕ, suc, ◌+◌, ◌*◌, ◌/◌, ◌%◌, ◌≤◌, ◌<◌}
use native.Mathlib.Nat.{mul-le-mul_right, mod-lt, div-add-mod'}
use native.Mathlib.Omega.{arith}
use mathlib.Core.Bool.{Bool, not}
use lib.IntN.{ℤ, pos}
use lib.Dec.{T}
use lib.Ieee.{Float, nan, inf, fin, up, down}
use lib.Ieee.Fits.{down_pos}
use lib.Ieee.Nearest.{closest}
use lib.Ieee.Scale.{finite}
use Rattle.ieee.specs.Rounding.{signed, rint}
use Rattle.ieee.specs.Nearest.{gap, NearestWhole}
use Rattle.ieee.proofs.Closest.{tri, below_half, at-half, above_half}

-- ---- `closest` gives it
nearest-at : (q b r : ℕ) → 0 < b → r < b → NearestWhole (q * b + r) b (closest (q * b + r) b)
nearest-at q b r B R = elim (tri (r * 2) b) [
  | inl l ↦ rw (below_half q b r l) (record { near = omega arith; tie = omega arith })
  | inr (inl e) ↦ rw (at-half q b r B e) (record { near = half e (tri (q % 2) 1); tie = omega arith })
  | inr (inr g) ↦ rw (above_half q b r R g) (record { near = omega arith; tie = omega arith })
]
  where
    half : r * 2 ≡ b → (q % 2 < 1) ⊎ ((q % 2 ≡ 1) ⊎ (1 < q % 2)) → gap ((q + q % 2) * b) (q * b + r) * 2 ≤ b
    half e (inl l) = let z : q % 2 ≡ 0 = omega arith in rw z (omega arith)
    half e (inr (inl o)) = rw o (omega arith)
    half e (inr (inr g)) = absurd (omega arith)

pub closest_nearest : (num den : ℕ) → 0 < den → NearestWhole num den (closest num den)
closest_nearest num den D = subst (λ (x : ℕ). NearestWhole x den (closest x den)) (div-add-mod' num den) (nearest-at (num / den) den (num % den) D (mod-lt num D))

-- ---- only one number is it
not_both : (num den n k : ℕ) → 0 < den → NearestWhole num den n → NearestWhole num den k → n < k → ⊥
not_both num den n k D p q l =
    let m = mul-le-mul_right den l in
    elim (tri k (suc n)) [
      | inl g ↦ omega arith
      | inr (inl e) ↦
          let i = ap (λ (x : ℕ). x * den) e in
          let even = p.tie (omega arith) in
          let even' = q.tie (omega arith) in
          omega arith
      | inr (inr g) ↦ let i = mul-le-mul_right den g in omega arith
    ]

pub nearest_unique : (num den n k : ℕ) → 0 < den → NearestWhole num den n → NearestWhole num den k → n ≡ k
nearest_unique num den n k D p q = elim (tri n k) [
  | inl l ↦ absurd (not_both num den n k D p q l)
  | inr (inl e) ↦ e
  | inr (inr g) ↦ absurd (not_both num den k n D q p g)
]

pub closest_is : (num den n : ℕ) → 0 < den → NearestWhole num den n → closest num den ≡ n
closest_is num den n D p = nearest_unique num den (closest num den) n D (closest_nearest num den D) p

-- ---- no whole number is nearer, and where another is as near it is even
pub none_nearer : (num den n k : ℕ) → NearestWhole num den n → gap (n * den) num ≤ gap (k * den) num
none_nearer num den n k p = elim (tri n k) [
  | inl l ↦ let m = mul-le-mul_right den l in omega arith
  | inr (inl e) ↦ let m = ap (λ (x : ℕ). x * den) e in omega arith
  | inr (inr g) ↦ let m = mul-le-mul_right den g in omega arith
]

pub even_of_tie : (num den n k : ℕ) → NearestWhole num den n → k ≢ n → gap (n * den) num ≡ gap (k * den) num → n % 2 ≡ 0
even_of_tie num den n k p d e = elim (tri n k) [
  | inl l ↦ let m = mul-le-mul_right den l in p.tie (omega arith)
  | inr (inl i) ↦ absurd (d (sym i))
  | inr (inr g) ↦ let m = mul-le-mul_right den g in p.tie (omega arith)
]

-- ---- the same as bounds on either side
pub closest_err : (a b : ℕ) → 0 < b → (closest a b * b * 2 ≤ a * 2 + b) × (a * 2 ≤ closest a b * b * 2 + b)
closest_err a b B = let h = (closest_nearest a b B).near in (omega arith, omega arith)

-- ---- of a float
pub rint-nearest : (s : Bool) (m : ℕ) (e : ℤ) → (n : ℕ) × (rint (fin s m e) ≡ signed s n) × NearestWhole (m * up e) (down e) n
unfolding rint
rint-nearest s m e = (closest (m * up e) (down e), refl, closest_nearest (m * up e) (down e) (down_pos e))

pub rint-is : (s : Bool) (m : ℕ) (e : ℤ) (n : ℕ) → NearestWhole (m * up e) (down e) n → rint (fin s m e) ≡ signed s n
unfolding rint
rint-is s m e n p = ap (signed s) (closest_is (m * up e) (down e) n (down_pos e) p)

pub rint_not_finite : (x : Float) → T (not (finite x)) → rint x ≡ pos 0
unfolding rint
rint_not_finite nan h = refl
rint_not_finite (inf s) h = refl
rint_not_finite (fin s m e) h = absurd h
