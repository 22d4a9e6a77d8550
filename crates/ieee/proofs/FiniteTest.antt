-- What `x - x == 0.0` says, over the format: that x is finite, since an infinity and a NaN differ from themselves by a NaN. Assumes nothing.
use mathlib.Core.Path.{◌≡◌, refl, sym, ap, ◌∙◌, subst}
use Prim.Native.Nat.{ℕ, ◌*◌, ◌-◌, ◌<◌}
use native.Mathlib.Nat.{le_refl, mul-pos}
use native.Mathlib.Omega.{arith}
use mathlib.Core.Bool.{Bool, true, false, not}
use lib.IntN.{pos}
use lib.Dec.{T}
use lib.Ieee.{Float, nan, inf, fin, Format, up, down, neg, sum, add, sub, eq, is_nan}
use lib.Ieee.Fits.{down_pos}
use lib.Ieee.Scale.{finite}
use borrow.Author.Tests.{le-ltb}
use Rattle.ieee.specs.Rounding.{rint, hold}
use Rattle.ieee.proofs.NearestWhole.{rint_not_finite}
use Rattle.ieee.proofs.Values.{finite_number}
use Rattle.ieee.proofs.KeepsOrder.{round-zero}

abbrev zero_float : Float
zero_float = fin false 0 (pos 0)

module _ (f : Format) where
  self-difference : (s : Bool) (a c : ℕ) → 0 < c → sum f s a (not s) a c ≡ zero_float
  unfolding sum
  self-difference true a c C = rw (le-ltb a a (le_refl a)) (round-zero f false (a - a) c C (omega arith))
  self-difference false a c C = rw (le-ltb a a (le_refl a)) (round-zero f false (a - a) c C (omega arith))

  pub finite-test : (x : Float) → eq (sub f x x) zero_float ≡ finite x
  unfolding sub add neg eq
  finite-test nan = refl
  finite-test (inf true) = refl
  finite-test (inf false) = refl
  finite-test (fin s m e) = ap (λ (y : Float). eq y zero_float) (self-difference s (m * up e * down e) (down e * down e) (mul-pos (down_pos e) (down_pos e)))

  pub finite_of_test : (x : Float) → eq (sub f x x) zero_float ≡ true → T (finite x)
  finite_of_test x h = subst T (sym h ∙ finite-test x) tt

  pub number_of_test : (x : Float) → eq (sub f x x) zero_float ≡ true → T (not (is_nan x))
  number_of_test x h = finite_number x (finite_of_test x h)

  pub not_finite_rint : (x : Float) → eq (sub f x x) zero_float ≡ false → pos 0 ≡ hold (rint x)
  unfolding hold
  not_finite_rint x h = sym (ap hold (rint_not_finite x (subst (λ (t : Bool). T (not t)) (sym h ∙ finite-test x) tt)))
