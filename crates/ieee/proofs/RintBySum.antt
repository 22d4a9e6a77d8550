-- `rint x`, for an x within an i32, by the sum that `whole` makes. With 1.5 * 2 ^ 52 it is of a size at which a binary64 has no fraction, so the sum is x rounded, and that much more;
-- and its pattern is that of 1.5 * 2 ^ 52 and the rounded x more. Assumes nothing.
use mathlib.Core.Path.{◌≡◌, refl, sym, ap, ◌∙◌, subst}
use Prim.Native.Nat.{ℕ, zero, suc, ◌+◌, ◌-◌, ◌*◌, ◌^◌, ◌≤◌, ◌<◌}
use native.Mathlib.Nat.{mul-one}
use native.Mathlib.Omega.{arith}
use mathlib.Core.Bool.{true, false, not}
use lib.IntN.{ℤ, pos, negsuc, neg_ℤ, sub_ℕ, ◌-ℤ◌}
use lib.Signed.{mag}
use lib.Dec.{T, lit<}
use lib.Ieee.{Float, nan, inf, fin, binary64, up, down, round, sum, add, le, is_nan, to_bits}
use lib.Ieee.Fits.{down_pos}
use lib.Ieee.Nearest.{closest}
use lib.Ieee.Exact.{HasValue}
use mir.Syntax.{w32, w64}
use mir.Val.{SFits, to_z, of_z}
use mir.ValLaws.{to_z_pos, to_z-of_z}
use borrow.Author.Tests.{lt-ltb, le-ltb}
use Rattle.ieee.specs.Rounding.{rint}
use Rattle.ieee.specs.inside.FloatEnds.{least_float, most_float, InI32}
use Rattle.ieee.proofs.ClosestLaws.{closest_le, closest_add, closest_sub}
use Rattle.ieee.proofs.Units.{round_number}
use Rattle.ieee.proofs.Tests.{or_eq, eq_or}
use Rattle.ieee.proofs.Snap.{whole-pattern}
use Rattle.ieee.proofs.WholeBySum.{snap_value}

-- ---- the code's literals: 1.5 * 2 ^ 52, and its pattern
abbrev pub bias_float : Float
bias_float = fin false 3 (pos 51)

abbrev bias : ℕ
bias = 3 * 2 ^ 51

abbrev pub bias_pattern : ℕ
bias_pattern = 0x4338_0000_0000_0000

-- ---- n is the sum's pattern
record Rounds (x : Float) (n : ℕ) : Type 0 where
  count : ℕ
  counted : n ≡ 1074 * 2 ^ 52 + count
  value : HasValue (add binary64 x bias_float) false count 1
  number : T (not (is_nan (add binary64 x bias_float)))
  pattern : to_bits binary64 (add binary64 x bias_float) ≡ n
  near : pos n -ℤ pos bias_pattern ≡ rint x
  small : mag (rint x) < 2 ^ 31
  few : n < 2 ^ 63

sub_pos : (n c : ℕ) → n ≡ bias_pattern + c → sub_ℕ n bias_pattern ≡ pos c
sub_pos n c e = let z = le-ltb n bias_pattern (omega arith) in rw z (ap pos (omega arith))

sub_neg : (n c : ℕ) → n + c ≡ bias_pattern → sub_ℕ n bias_pattern ≡ neg_ℤ (pos c)
sub_neg n zero e = let z = le-ltb n bias_pattern (omega arith) in rw z (ap pos (omega arith))
sub_neg n (suc c) e = let z = lt-ltb n bias_pattern (omega arith) in rw z (ap negsuc (omega arith))

-- num / d is x and the bias, and c what it rounds to
by-sum : (x : Float) (num d c : ℕ) → 0 < d → add binary64 x bias_float ≡ round binary64 false num d → 2 ^ 52 * d ≤ num → num < 2 ^ 53 * d → closest num d ≡ c
    → pos (1074 * 2 ^ 52 + c) -ℤ pos bias_pattern ≡ rint x → mag (rint x) < 2 ^ 31 → Rounds x (1074 * 2 ^ 52 + c)
by-sum x num d c D e lo hi i near small =
    record {
      count = c;
      counted = refl;
      value = subst (λ (y : Float). HasValue y false c 1) (sym e) (subst (λ (k : ℕ). HasValue (round binary64 false num d) false k 1) i (snap_value binary64 false num d D lo hi));
      number = subst (λ (y : Float). T (not (is_nan y))) (sym e) (round_number binary64 false num d);
      pattern = ap (to_bits binary64) e ∙ whole-pattern binary64 num d D lo hi false ∙ omega arith;
      near = near;
      small = small;
      few = omega (arith, closest_le (2 ^ 53) num d D (omega arith));
    }

within_pos : (m : ℕ) (e : ℤ) → m * up e ≤ 2147483647 * down e → Rounds (fin false m e) (1074 * 2 ^ 52 + (bias + closest (m * up e) (down e)))
unfolding rint add sum
within_pos m e h =
    let d = down e in
    let a = m * up e in
    let D : 0 < d = down_pos e in
    let s = closest_le 2147483647 a d D h in
    let i : a * 1 + bias * d ≡ bias * d + a = omega arith in
    by-sum (fin false m e) (bias * d + a) d (bias + closest a d) D
    (ap (λ (x : ℕ). round binary64 false x (d * 1)) i ∙ ap (λ (x : ℕ). round binary64 false (bias * d + a) x) (mul-one d))
    (omega arith) (omega arith) (closest_add bias a d D refl)
    (sub_pos (1074 * 2 ^ 52 + (bias + closest a d)) (closest a d) (omega arith)) (omega arith)

neg_small : (n : ℕ) → n ≤ 2 ^ 31 → mag (neg_ℤ (pos n)) < 2 ^ 31
neg_small zero h = lit< tt
neg_small (suc n) h = h

minus-sum : (a b c : ℕ) → a < b → sum binary64 true a false b c ≡ round binary64 false (b - a) c
unfolding sum
minus-sum a b c h = rw (lt-ltb a b h)

within_neg : (m : ℕ) (e : ℤ) → m * up e ≤ 2147483648 * down e → Rounds (fin true m e) (1074 * 2 ^ 52 + (bias - closest (m * up e) (down e)))
unfolding rint add
within_neg m e h =
    let d = down e in
    let a = m * up e in
    let D : 0 < d = down_pos e in
    let s = closest_le 2147483648 a d D h in
    let i : bias * d - a * 1 ≡ bias * d - a = omega arith in
    let c = closest_sub bias a d D refl (omega arith) in
    by-sum (fin true m e) (bias * d - a) d (bias - closest a d) D
    (minus-sum (a * 1) (bias * d) (d * 1) (omega arith) ∙ ap (λ (x : ℕ). round binary64 false x (d * 1)) i ∙ ap (λ (x : ℕ). round binary64 false (bias * d - a) x) (mul-one d))
    (omega arith) (omega arith) (omega arith)
    (sub_neg (1074 * 2 ^ 52 + (bias - closest a d)) (closest a d) (omega arith)) (neg_small (closest a d) s)

below-most : (m : ℕ) (e : ℤ) → T (le (fin false m e) most_float) → m * up e ≤ 2147483647 * down e
unfolding le
below-most m e h = let z = or_eq (m * up e * 1) (2147483647 * 1 * down e) true h in omega arith

above-least : (m : ℕ) (e : ℤ) → T (le least_float (fin true m e)) → m * up e ≤ 2147483648 * down e
unfolding le
above-least m e h = let z = eq_or (m * up e * 1) (2147483648 * down e) true h in omega arith

rounds : (x : Float) → InI32 x → (n : ℕ) × Rounds x n
unfolding le
rounds nan h = absurd h.0
rounds (inf true) h = absurd h.0
rounds (inf false) h = absurd h.1
rounds (fin false m e) h = (_, within_pos m e (below-most m e h.1))
rounds (fin true m e) h = (_, within_neg m e (above-least m e h.0))

pub within-small : (x : Float) → InI32 x → mag (rint x) < 2 ^ 31
within-small x h = (rounds x h).1.small

-- ---- as the machine's integers: the casts lose nothing, and the difference is the result
module _ (x : Float) (h : InI32 x) where
  pub sum_number : T (not (is_nan (add binary64 x bias_float)))
  sum_number = (rounds x h).1.number

  pub pattern-in64 : SFits w64 (pos (to_bits binary64 (add binary64 x bias_float)))
  pattern-in64 = let r = (rounds x h).1 in let e = r.pattern in let l = r.few in record { sfits = omega arith }

  difference : to_z w64 (to_bits binary64 (add binary64 x bias_float)) -ℤ pos bias_pattern ≡ rint x
  difference =
      let r = (rounds x h).1 in
      ap (λ (n : ℕ). to_z w64 n -ℤ pos bias_pattern) r.pattern ∙ ap (λ (z : ℤ). z -ℤ pos bias_pattern) (to_z_pos w64 (rounds x h).0 r.few) ∙ r.near

  in64 : SFits w64 (rint x)
  in64 = let l = within-small x h in record { sfits = omega arith }

  pub difference-in64 : SFits w64 (to_z w64 (to_bits binary64 (add binary64 x bias_float)) -ℤ pos bias_pattern)
  difference-in64 = subst (λ (z : ℤ). SFits w64 z) (sym difference) in64

  difference64 : to_z w64 (of_z w64 (to_z w64 (to_bits binary64 (add binary64 x bias_float)) -ℤ pos bias_pattern)) ≡ rint x
  difference64 = ap (λ (z : ℤ). to_z w64 (of_z w64 z)) difference ∙ to_z-of_z w64 (rint x) in64

  pub difference_in32 : SFits w32 (to_z w64 (of_z w64 (to_z w64 (to_bits binary64 (add binary64 x bias_float)) -ℤ pos bias_pattern)))
  difference_in32 = subst (λ (z : ℤ). SFits w32 z) (sym difference64) (record { sfits = within-small x h })

  pub difference32 : to_z w32 (of_z w32 (to_z w64 (of_z w64 (to_z w64 (to_bits binary64 (add binary64 x bias_float)) -ℤ pos bias_pattern)))) ≡ rint x
  difference32 = ap (λ (z : ℤ). to_z w32 (of_z w32 z)) difference64 ∙ to_z-of_z w32 (rint x) (record { sfits = within-small x h })

-- ---- the sum as a whole number
pub record Summed (x : Float) : Type 0 where
  pub count : ℕ
  pub value : HasValue (add binary64 x bias_float) false count 1
  pub pattern : to_bits binary64 (add binary64 x bias_float) ≡ 1074 * 2 ^ 52 + count
  pub near : pos (1074 * 2 ^ 52 + count) -ℤ pos bias_pattern ≡ rint x

pub summed : (x : Float) → InI32 x → Summed x
summed x h =
    let r = (rounds x h).1 in
    record { count = r.count; value = r.value; pattern = r.pattern ∙ r.counted; near = subst (λ (n : ℕ). pos n -ℤ pos bias_pattern ≡ rint x) r.counted r.near }
