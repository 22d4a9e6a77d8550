-- A signed number that was put into bits and read back is itself; so is a test of two, and the difference of two i32 taken in i64. Assumes nothing.
use Rattle.std.proofs.Common.{◌≡◌, ◌+◌, ◌-◌, ◌^◌, ◌<◌, ◌≤◌, Bool, T, ltb, ℤ, pos, negsuc, ◌-ℤ◌, nat_abs, sym, ap, ◌∙◌, subst, arith, le→leb, lt→ltb, w32, w64, SFits, to_z, of_z}
use lib.Signed.{lt_z, mag}
use lib.Ieee.{binary64, in_float}
use mir.ValLaws.{to_z-of_z}
use Rattle.rows.proofs.RowsApart.{apart}

pub back : (z : ℤ) → SFits w32 z → to_z w32 (of_z w32 z) ≡ z
back z f = to_z-of_z w32 z f

pub tested : (a b : ℤ) → SFits w32 a → SFits w32 b → (t : Bool) → lt_z (to_z w32 (of_z w32 a)) (to_z w32 (of_z w32 b)) ≡ t → lt_z a b ≡ t
tested a b f g t h = rw (to_z-of_z w32 a f, to_z-of_z w32 b g) at h

-- what a test of two rows found, the second of which is said to be another
pub test-is : (a x y : ℤ) (found : Bool) → SFits w32 a → SFits w32 x → lt_z (to_z w32 (of_z w32 a)) (to_z w32 (of_z w32 x)) ≡ found → x ≡ y → lt_z a y ≡ found
test-is a x y found f g h e = rw e at (tested a x f g found h)

-- ---- two rows are at most 2 ^ 32 apart
sizes : (z : ℤ) → (mag z ≤ nat_abs z) × (nat_abs z ≤ mag z + 1)
sizes (pos n) = (omega arith, omega arith)
sizes (negsuc n) = (omega arith, omega arith)

less-apart : (a b : ℤ) → mag a < 2 ^ 31 → mag b < 2 ^ 31 → nat_abs (a -ℤ b) ≤ 2 ^ 32
less-apart a b p q = omega (arith, apart a b, (sizes a).1, (sizes b).1)

in_float_lem : (z : ℤ) → nat_abs z ≤ 2 ^ 32 → T (in_float binary64 z)
unfolding in_float
in_float_lem (pos n) h = le→leb n (2 ^ 53) (omega arith)
in_float_lem (negsuc n) h = lt→ltb n (2 ^ 53) (omega arith)

module _ (a b : ℤ) (f : SFits w32 a) (g : SFits w32 b) where
  wide : (z : ℤ) → SFits w32 z → SFits w64 z
  wide z h = let l = h.sfits in record { sfits = omega arith }

  pub cast_fits : SFits w64 (to_z w32 (of_z w32 a))
  cast_fits = wide (to_z w32 (of_z w32 a)) (subst (SFits w32) (sym (back a f)) f)

  widened : to_z w64 (of_z w64 (to_z w32 (of_z w32 a))) ≡ a
  widened = ap (λ (z : ℤ). to_z w64 (of_z w64 z)) (back a f) ∙ to_z-of_z w64 a (wide a f)

module _ (a b : ℤ) (f : SFits w32 a) (g : SFits w32 b) where
  plain : to_z w64 (of_z w64 (to_z w32 (of_z w32 a))) -ℤ to_z w64 (of_z w64 (to_z w32 (of_z w32 b))) ≡ a -ℤ b
  plain = rw (widened a b f g, widened b a g f)

  pub distance : nat_abs (a -ℤ b) ≤ 2 ^ 32
  distance = less-apart a b f.sfits g.sfits

  far : SFits w64 (a -ℤ b)
  far = let l = distance in let m = (sizes (a -ℤ b)).0 in record { sfits = omega arith }

  pub difference-fits : SFits w64 (to_z w64 (of_z w64 (to_z w32 (of_z w32 a))) -ℤ to_z w64 (of_z w64 (to_z w32 (of_z w32 b))))
  difference-fits = subst (SFits w64) (sym plain) far

  pub difference : to_z w64 (of_z w64 (to_z w64 (of_z w64 (to_z w32 (of_z w32 a))) -ℤ to_z w64 (of_z w64 (to_z w32 (of_z w32 b))))) ≡ a -ℤ b
  difference = ap (λ (z : ℤ). to_z w64 (of_z w64 z)) plain ∙ to_z-of_z w64 (a -ℤ b) far

  pub difference_casts : T (in_float binary64 (to_z w64 (of_z w64 (to_z w64 (of_z w64 (to_z w32 (of_z w32 a))) -ℤ to_z w64 (of_z w64 (to_z w32 (of_z w32 b)))))))
  difference_casts = subst (λ (z : ℤ). T (in_float binary64 z)) (sym difference) (in_float_lem (a -ℤ b) distance)
