-- A multiply-add never falls where the exact x * y + z never falls, over the format. Assumes nothing.
use Rattle.std.proofs.Common.{ℕ, ◌+◌, ◌*◌, ◌<◌, ◌≤◌, false, T, pos, ◌*ℤ◌, ◌≤ℤ◌, mul-pos}
use lib.Ieee.{Float, Format, sum, le}
use lib.Ieee.Exact.{HasValue}
use lib.Ieee.Order.{round_mono}
use lib.Ieee.Scale.{finite}
use Rattle.ieee.specs.Nearest.{Fraction}
use Rattle.ieee.proofs.SumBySigns.{rounded_keeps_order}
use Rattle.ieee_mul_add.specs.MulAdd.{mul_add, exactly}
use Rattle.ieee_mul_add.proofs.AsIeeeSays.{rounded-once, bottom-above}
use Rattle.ieee_mul_add.proofs.ByFractions.{mul_add_fractions}

module _ (f : Format) where
  module _ (x y z x' y' z' : Float) where
    abbrev E : Fraction
    E = exactly x y z

    abbrev E' : Fraction
    E' = exactly x' y' z'

    -- by the exact sums as fractions
    pub mul_add_keeps_order : T (finite x) → T (finite y) → T (finite z) → T (finite x') → T (finite y') → T (finite z')
        → (E.top *ℤ pos E'.bottom) ≤ℤ (E'.top *ℤ pos E.bottom) → T (le (mul_add f x y z) (mul_add f x' y' z'))
    mul_add_keeps_order X Y Z X' Y' Z' l =
        rounded_keeps_order f E.top E'.top E.bottom E'.bottom (mul_add f x y z) (mul_add f x' y' z') (bottom-above f x y z X Y Z) (bottom-above f x' y' z' X' Y' Z') (rounded-once f x y z X Y Z) (rounded-once f x' y' z' X' Y' Z') l

    -- The same of numbers that are not negative, by any fractions that they equal: a / c times b / d and p / e, against a' / c' times b' / d' and p' / e'.
    pub mul_add_never_falls : (a b p c d e a' b' p' c' d' e' : ℕ) → 0 < c → 0 < d → 0 < e → 0 < c' → 0 < d' → 0 < e'
        → HasValue x false a c → HasValue y false b d → HasValue z false p e
        → HasValue x' false a' c' → HasValue y' false b' d' → HasValue z' false p' e'
        → (a * b * e + p * (c * d)) * (c' * d' * e') ≤ (a' * b' * e' + p' * (c' * d')) * (c * d * e) → T (le (mul_add f x y z) (mul_add f x' y' z'))
    unfolding sum
    mul_add_never_falls a b p c d e a' b' p' c' d' e' C D G C' D' G' v w r v' w' r' l =
        rw (mul_add_fractions f x y z false false false a b p c d e C D G v w r, mul_add_fractions f x' y' z' false false false a' b' p' c' d' e' C' D' G' v' w' r')
        (round_mono f (a * b * e + p * (c * d)) (c * d * e) (a' * b' * e' + p' * (c' * d')) (c' * d' * e') (mul-pos (mul-pos C D) G) (mul-pos (mul-pos C' D') G') l)
