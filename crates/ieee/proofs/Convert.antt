-- A float at another format, IEEE 754's convertFormat (5.4.2), over the format: it is rounded as 4.3.1 says, a NaN and an infinity stay what they are, and so does what the format holds. Assumes nothing.
use mathlib.Core.Path.{◌≡◌, refl, ap, ◌∙◌, subst}
use mathlib.Core.Logic.{◌↔◌}
use Prim.Native.Nat.{ℕ, ◌*◌, ◌^◌, ◌<◌}
use mathlib.Core.Bool.{Bool, not}
use lib.IntN.{ℤ}
use lib.Dec.{T}
use lib.Pow.{pow_pos}
use lib.Ieee.{Float, nan, inf, fin, Format, low, up, down, fits, is_nan, round}
use lib.Ieee.Fits.{down_pos, nan-fits, inf-fits, round-fits}
use lib.Ieee.Exact.{HasValue, round_exact}
use lib.Ieee.Scale.{finite, round_same}
use Rattle.ieee.specs.Narrowing.{convert}
use Rattle.ieee.specs.inside.Spacing.{with_sign}
use Rattle.ieee.specs.Nearest.{value_of, NearestValue, Overflows, TiesToEven}
use Rattle.ieee.proofs.Signs.{round-signed}
use Rattle.ieee.proofs.Units.{in_units, same_units, round_number}
use Rattle.ieee.proofs.NearestValue.{round_ties_to_even, round-infinite}

module _ (f : Format) where
  pub convert_ties_to_even : (s : Bool) (m : ℕ) (e : ℤ) → TiesToEven f s (m * up e) (down e) (convert f (fin s m e))
  unfolding convert
  convert_ties_to_even s m e = round_ties_to_even f s (m * up e) (down e) (down_pos e)

  pub convert-infinite : (s : Bool) (m : ℕ) (e : ℤ) → (convert f (fin s m e) ≡ inf s) ↔ Overflows f (m * up e) (down e)
  unfolding convert
  convert-infinite s m e = round-infinite f s (m * up e) (down e) (down_pos e)

  pub convert-nearest : (x : Float) → T (finite x) → T (finite (convert f x)) → NearestValue f (value_of x) (convert f x)
  convert-nearest nan t u = absurd t
  convert-nearest (inf s) t u = absurd t
  convert-nearest (fin s m e) t u = (convert_ties_to_even s m e).nearest (λ o. subst (λ (y : Float). T (finite y)) ((convert_ties_to_even s m e).infinite o) u)

  -- by any fraction that the float equals
  pub convert-value : (x : Float) (s : Bool) (num den : ℕ) → 0 < den → HasValue x s num den → convert f x ≡ round f s num den
  unfolding convert
  convert-value nan s num den D v = absurd v
  convert-value (inf t) s num den D v = absurd v
  convert-value (fin t m e) s num den D v = ap (λ (b : Bool). round f b (m * up e) (down e)) v.0 ∙ round_same f s (m * up e) (down e) num den (down_pos e) D v.1

  pub convert-nan : convert f nan ≡ nan
  unfolding convert
  convert-nan = refl

  pub convert_inf : (s : Bool) → convert f (inf s) ≡ inf s
  unfolding convert
  convert_inf s = refl

  pub convert-fits : (x : Float) → T (fits f (convert f x))
  unfolding convert
  convert-fits nan = nan-fits f
  convert-fits (inf s) = inf-fits f s
  convert-fits (fin s m e) = round-fits f s (m * up e) (down e)

  pub convert_number : (x : Float) → T (not (is_nan x)) → T (not (is_nan (convert f x)))
  unfolding convert is_nan
  convert_number nan h = h
  convert_number (inf s) h = tt
  convert_number (fin s m e) h = round_number f s (m * up e) (down e)

  -- the sign goes through
  pub convert-signed : (s : Bool) (x : Float) → convert f (with_sign s x) ≡ with_sign s (convert f x)
  unfolding convert with_sign
  convert-signed s nan = refl
  convert-signed s (inf t) = refl
  convert-signed s (fin t m e) = round-signed f s t (m * up e) (down e)

  -- what the format holds
  pub round-own : (s : Bool) (m : ℕ) (e : ℤ) → T (fits f (fin s m e)) → round f s (m * up e) (down e) ≡ fin s m e
  round-own s m e h =
      let U = in_units f (fin s m e) (tt, h) in
      let n = U.digits * 2 ^ U.power in
      let L = 2 ^ low f in
      round_same f s (m * up e) (down e) n L (down_pos e) (pow_pos (low f)) U.is.1
      ∙ same_units f (round f s n L) (fin s m e) s n (round-fits f s n L) h (round_exact f s n L U.digits U.power (pow_pos (low f)) U.few U.below refl) U.is

  pub convert-own : (x : Float) → T (fits f x) → convert f x ≡ x
  unfolding convert
  convert-own nan h = refl
  convert-own (inf s) h = refl
  convert-own (fin s m e) h = round-own s m e h

  pub convert-twice : (x : Float) → convert f (convert f x) ≡ convert f x
  convert-twice x = convert-own (convert f x) (convert-fits x)
