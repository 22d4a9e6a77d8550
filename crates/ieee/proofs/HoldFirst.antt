-- Held at the ends of an i32 first and then rounded is the same as rounded first and then held, by the two tests that `within_i32` makes. Assumes nothing.
use mathlib.Core.Path.{◌≡◌, sym, ap, subst}
use Prim.Native.Nat.{ℕ, zero, suc, ◌+◌, ◌*◌, ◌≤◌}
use native.Mathlib.Omega.{arith}
use mathlib.Core.Bool.{Bool, true, false, not}
use lib.IntN.{pos, negsuc, neg_ℤ}
use lib.Dec.{T, ltb, nltb→le}
use lib.Ieee.{Float, nan, inf, fin, up, down, lt, le}
use lib.Ieee.Fits.{down_pos}
use lib.Ieee.Nearest.{closest}
use lib.Ieee.Scale.{finite}
use Rattle.ieee.specs.Rounding.{rint, hold}
use Rattle.ieee.specs.inside.FloatEnds.{least_float, most_float, InI32}
use Rattle.ieee.proofs.ClosestLaws.{closest_ge}
use Rattle.ieee.proofs.Held.{held-within}
use Rattle.ieee.proofs.RintBySum.{within-small}

not_below_lem : (a b : ℕ) → ltb a b ≡ false → b ≤ a
not_below_lem a b h = nltb→le a b (subst (λ (t : Bool). T (not t)) (sym h) tt)

hold_neg : (n : ℕ) → 2147483648 ≤ n → negsuc 2147483647 ≡ hold (neg_ℤ (pos n))
unfolding hold
hold_neg zero h = absurd (omega arith)
hold_neg (suc n) h = ap negsuc (omega arith)

abbrev pub Holds : Float → Float → Type 0
Holds x r = InI32 r × (rint r ≡ hold (rint x))

pub inside : (x : Float) → lt least_float x ≡ true → lt x most_float ≡ true → Holds x x
unfolding le
inside x lo hi =
    let w : InI32 x = (rw lo tt, rw hi tt) in
    (w, sym (held-within (rint x) (within-small x w)))

pub at_most : (x : Float) → T (finite x) → lt x most_float ≡ false → Holds x most_float
unfolding lt le rint hold
at_most nan F h = absurd F
at_most (inf s) F h = absurd F
at_most (fin true m e) F h = let z = not_below_lem 0 (m * up e * 1 + 2147483647 * 1 * down e) h in absurd (omega (arith, down_pos e))
at_most (fin false m e) F h =
    let z = not_below_lem (m * up e * 1) (2147483647 * 1 * down e) h in
    let g = closest_ge 2147483647 (m * up e) (down e) (down_pos e) (omega arith) in
    ((tt, tt), ap pos (omega arith))

pub at_least : (x : Float) → T (finite x) → lt least_float x ≡ false → Holds x least_float
unfolding lt le rint
at_least nan F h = absurd F
at_least (inf s) F h = absurd F
at_least (fin false m e) F h = let z = not_below_lem 0 (2147483648 * down e + m * up e * 1) h in absurd (omega (arith, down_pos e))
at_least (fin true m e) F h =
    let z = not_below_lem (m * up e * 1) (2147483648 * down e) h in
    ((tt, tt), hold_neg (closest (m * up e) (down e)) (closest_ge 2147483648 (m * up e) (down e) (down_pos e) (omega arith)))
