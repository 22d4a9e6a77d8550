-- `narrow`, in IEEE 754's words: the laws of `Convert.antt` and `KeepsOrder.antt` at binary32. Assumes nothing.
use mathlib.Core.Path.{◌≡◌, sym, ap, ◌∙◌}
use mathlib.Core.Logic.{◌↔◌}
use Prim.Native.Nat.{ℕ, ◌*◌, ◌<◌}
use mathlib.Core.Bool.{Bool, false, not}
use lib.IntN.{ℤ}
use lib.Dec.{T}
use lib.Ieee.{Float, nan, inf, fin, binary32, up, down, fits, is_nan, round, le}
use lib.Ieee.Exact.{HasValue}
use lib.Ieee.Scale.{finite}
use Rattle.ieee.specs.Narrowing.{narrow}
use Rattle.ieee.specs.inside.Spacing.{with_sign}
use Rattle.ieee.specs.Nearest.{value_of, NearestValue, Overflows, sign_of, TiesToEven}
use Rattle.ieee.proofs.Convert.{convert_ties_to_even, convert-nearest, convert-infinite, convert-value, convert-nan, convert_inf, convert-fits, convert_number, convert-signed, convert-own, convert-twice}
use Rattle.ieee.proofs.Signs.{own_sign, sign-sign}
use Rattle.ieee.proofs.KeepsOrder.{convert_keeps_order}

-- a finite float: all that the standard says, and by parts
pub narrow_ties_to_even : (s : Bool) (m : ℕ) (e : ℤ) → TiesToEven binary32 s (m * up e) (down e) (narrow (fin s m e))
unfolding narrow
narrow_ties_to_even = convert_ties_to_even binary32

pub narrow-nearest : (x : Float) → T (finite x) → T (finite (narrow x)) → NearestValue binary32 (value_of x) (narrow x)
unfolding narrow
narrow-nearest = convert-nearest binary32

pub narrow-infinite : (s : Bool) (m : ℕ) (e : ℤ) → (narrow (fin s m e) ≡ inf s) ↔ Overflows binary32 (m * up e) (down e)
unfolding narrow
narrow-infinite = convert-infinite binary32

pub narrow-value : (x : Float) (s : Bool) (num den : ℕ) → 0 < den → HasValue x s num den → narrow x ≡ round binary32 s num den
unfolding narrow
narrow-value = convert-value binary32

-- any float
pub narrow-nan : narrow nan ≡ nan
unfolding narrow
narrow-nan = convert-nan binary32

pub narrow_inf : (s : Bool) → narrow (inf s) ≡ inf s
unfolding narrow
narrow_inf = convert_inf binary32

pub narrow-fits : (x : Float) → T (fits binary32 (narrow x))
unfolding narrow
narrow-fits = convert-fits binary32

pub narrow-number : (x : Float) → T (not (is_nan x)) → T (not (is_nan (narrow x)))
unfolding narrow
narrow-number = convert_number binary32

pub narrow_signed : (s : Bool) (x : Float) → narrow (with_sign s x) ≡ with_sign s (narrow x)
unfolding narrow
narrow_signed = convert-signed binary32

pub narrow_by_size : (x : Float) → with_sign (sign_of x) (narrow (with_sign false x)) ≡ narrow x
narrow_by_size x = sym (narrow_signed (sign_of x) (with_sign false x)) ∙ ap narrow (sign-sign (sign_of x) false x ∙ own_sign x)

pub narrow-own : (x : Float) → T (fits binary32 x) → narrow x ≡ x
unfolding narrow
narrow-own = convert-own binary32

pub narrow-twice : (x : Float) → narrow (narrow x) ≡ narrow x
unfolding narrow
narrow-twice = convert-twice binary32

pub narrow_keeps_order : (x y : Float) → T (le x y) → T (le (narrow x) (narrow y))
unfolding narrow
narrow_keeps_order = convert_keeps_order binary32
