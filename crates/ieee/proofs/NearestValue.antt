-- `round` delivers what IEEE 754 says (4.3.1, roundTiesToEven): the nearest value of the format, a tie to the one with an even last digit, an infinity from 2 ^ emax * (2 - 2 ^ -prec) on, and the sign. Over the format. Assumes nothing.
use mathlib.Core.Path.{◌≡◌, sym, ◌∙◌, subst}
use mathlib.Core.Logic.{◌↔◌, inl, inr}
use Prim.Native.Nat.{ℕ, ◌*◌, ◌%◌, ◌^◌, ◌≤◌, ◌<◌}
use native.Mathlib.Nat.{lt_of_not-le, eq_of_mul-eq-mul_right, zero-mul}
use native.Mathlib.Omega.{arith}
use mathlib.Core.Bool.{Bool}
use lib.Dec.{T}
use lib.Pow.{pow_pos}
use lib.Ieee.{Float, inf, Format, prec, low, ne, round}
use lib.Ieee.Fits.{round-fits}
use lib.Ieee.Exact.{HasValue}
use lib.Ieee.Scale.{grid, overflow}
use Rattle.ieee.specs.Nearest.{gap, ratio, value_of, AsFar, IsValue, NearestValue, Overflows, sign_of, TiesToEven}
use Rattle.ieee.proofs.Closest.{lt_or_ge}
use Rattle.ieee.proofs.Distance.{apart-least, apart-tie, no-farther, as_far}
use Rattle.ieee.proofs.Pack.{dropped, held, held_le, held-ge}
use Rattle.ieee.proofs.Units.{in_units, round-units, round-past, round-sign}
use Rattle.ieee.proofs.Steps.{beats, last-digit}
use Rattle.ieee.proofs.Values.{finite_of, sizes-differ}
use Rattle.ieee.proofs.Overflow.{past_overflows, overflows_past}

-- ---- below the range's end
module _ (f : Format) (s : Bool) (num den : ℕ) (D : 0 < den) (below : grid f num den < overflow f) where
  steps-near : gap (grid f num den * den) (num * 2 ^ low f) ≤ num * 2 ^ low f
  steps-near = let b = (beats f num den D 0 0 (pow_pos (prec f))).near in omega arith

  kept-even : (z : Float) → IsValue f z → T (ne z (round f s num den)) → AsFar (ratio s num den) (value_of (round f s num den)) (value_of z) → held f num den % 2 ≡ 0
  kept-even z val d e =
      let y = round f s num den in
      let L = 2 ^ low f in
      let v = grid f num den in
      let Y = round-units f s num den below in
      let Z = in_units f z val in
      let w = Z.digits * 2 ^ Z.power in
      elim (apart-tie s (sign_of z) (num * L) (v * den) (w * den) steps-near (as_far s num den L y z s (sign_of z) v w Y Z.is e)) [
        | inl t ↦ (beats f num den D Z.digits Z.power Z.few).tie (sizes-differ y z s (sign_of z) v w L (pow_pos (low f)) Y Z.is d (inl t.0)) t.1
        | inr t ↦
            let o : w ≡ 0 = eq_of_mul-eq-mul_right den D w 0 (t.0 ∙ sym (zero-mul den)) in
            let g : gap (v * den) (num * L) ≡ gap (0 * den) (num * L) = let h = t.1 in let z = zero-mul den in rw z (h ∙ omega arith) in
            (beats f num den D 0 0 (pow_pos (prec f))).tie (λ i. sizes-differ y z s (sign_of z) v w L (pow_pos (low f)) Y Z.is d (inr o) (o ∙ i)) g
      ]

pub round-nearest : (f : Format) (s : Bool) (num den : ℕ) → 0 < den → ¬ Overflows f num den → NearestValue f (ratio s num den) (round f s num den)
round-nearest f s num den D small =
    let y = round f s num den in
    let L = 2 ^ low f in
    let v = grid f num den in
    let below : v < overflow f = lt_of_not-le (λ (h : overflow f ≤ v). small (past_overflows f num den D h)) in
    let Y = round-units f s num den below in
    record {
      value = (finite_of y s v L Y, round-fits f s num den);
      near =
          λ z val.
          let Z = in_units f z val in
          let w = Z.digits * 2 ^ Z.power in
          no-farther s num den L y z s (sign_of z) v w Y Z.is (pow_pos (low f)) (apart-least s (sign_of z) (num * L) (v * den) (w * den) (beats f num den D Z.digits Z.power Z.few).near (steps-near f s num den D below));
      tie = λ z val d e. last-digit f y s (held f num den) (dropped f num den) Y (held_le f num den) (held-ge f num den) ∙ kept-even f s num den D below z val d e;
    }

pub round_ties_to_even : (f : Format) (s : Bool) (num den : ℕ) → 0 < den → TiesToEven f s num den (round f s num den)
round_ties_to_even f s num den D =
    record {
      nearest = round-nearest f s num den D;
      infinite = λ h. round-past f s num den (overflows_past f num den D h);
      sign = round-sign f s num den;
    }

-- an infinity just where the number is that large
pub round-infinite : (f : Format) (s : Bool) (num den : ℕ) → 0 < den → (round f s num den ≡ inf s) ↔ Overflows f num den
round-infinite f s num den D = (back, (round_ties_to_even f s num den D).infinite)
  where
    back : round f s num den ≡ inf s → Overflows f num den
    back e = elim (lt_or_ge (grid f num den) (overflow f)) [
      | inl l ↦ absurd (subst (λ (y : Float). HasValue y s (grid f num den) (2 ^ low f)) e (round-units f s num den l))
      | inr g ↦ past_overflows f num den D g
    ]
