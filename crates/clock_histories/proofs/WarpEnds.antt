-- The end of a warp lies from 0 to 2 ^ 31, since it began at 0 and only grows, to no more than a beat and a length. Assumes nothing.
use Prim.Native.Nat.{ℕ, ◌+◌, ◌*◌, ◌^◌, ◌≤◌, ◌<◌}
use mathlib.Core.Bool.{Bool, true, false}
use mathlib.Core.Path.{◌≡◌, refl, sym}
use native.Mathlib.Nat.{le_trans, le_of_eq, mul-one, zero-lt-suc}
use native.Mathlib.Omega.{arith}
use lib.Dec.{lit<, lit≤}
use lib.IntN.{pos}
use lib.Ieee.{Float, nan, inf, fin, binary64, add, lt, le}
use lib.Ieee.Bits.{is_true}
use lib.Ieee.Exact.{HasValue}
use Rattle.ieee.specs.Constants.{plus_zero}
use Rattle.picks.specs.Pick.{pick}
use Rattle.ieee.proofs.FloatOrder.{sizes_le}
use Rattle.ieee.proofs.Magnitude.{AtMost, Sized}
use Rattle.ieee.proofs.SizesAddUp.{OfFormat, whole_of_format, add_at_most, at_most_wider}
use Rattle.clock_walk.specs.Passing.{larger}
use Rattle.rows.proofs.RowOrder.{no}
use Rattle.clock_tests.specs.CursorNumbers.{end_in}

abbrev pub most_end : ℕ
most_end = 2 ^ 31

-- x is num / den, the sign clear, and at most so large
pub record EndFine (x : Float) : Type 0 where
  pub num : ℕ
  pub den : ℕ
  pub den_pos : 0 < den
  pub value : HasValue x false num den
  pub small : num ≤ most_end * den

pub end-begins : EndFine plus_zero
end-begins = record { num = 0; den = 1; den_pos = zero-lt-suc 0; value = (refl, refl); small = lit≤ tt }

-- what is above a number that is not negative has its sign clear
above-clear : (x y : Float) (a c b d : ℕ) → HasValue x false a c → lt x y ≡ true → (s : Bool) → HasValue y s b d → HasValue y false b d
unfolding lt
above-clear nan y a c b d v h s w = absurd v
above-clear (inf u) y a c b d v h s w = absurd v
above-clear (fin u m e) nan a c b d v h s w = absurd w
above-clear (fin u m e) (inf z) a c b d v h s w = absurd w
above-clear (fin false m e) (fin false n g) a c b d v h s w = (refl, w.1)
above-clear (fin false m e) (fin true n g) a c b d v h s w = no h
above-clear (fin true m e) (fin z n g) a c b d v h s w = no (sym v.0)

grown : (old new : Float) → EndFine old → AtMost (most_end) new → lt old new ≡ true → EndFine new
grown old new o n h = record {
  num = n.num;
  den = n.den;
  den_pos = n.den_pos;
  value = above-clear old new o.num o.den n.num n.den o.value h n.negative n.value;
  small = n.small;
}

larger-fine : (old new : Float) → EndFine old → AtMost (most_end) new → EndFine (larger old new)
unfolding larger
larger-fine old new o n = go (lt old new) refl
  where
    go : (b : Bool) → lt old new ≡ b → EndFine (pick b new old)
    go true h = grown old new o n h
    go false h = o

-- a beat and a length
sum_of_format : OfFormat binary64 (2 ^ 16 + 2 ^ 30)
sum_of_format = whole_of_format binary64 (2 ^ 16 + 2 ^ 30) (lit< tt)

pub end-grows : (old beat length : Float) → EndFine old → Sized 16 beat → Sized 30 length → EndFine (larger old (add binary64 beat length))
end-grows old beat length o b l = larger-fine old (add binary64 beat length) o (at_most_wider (lit≤ tt) (add_at_most binary64 sum_of_format beat length b l (lit≤ tt)))

-- the cursor test takes it
pub end_in_lem : (x : Float) → EndFine x → end_in x ≡ true
unfolding end_in
end_in_lem x e =
    let a = e.num in
    let c = e.den in
    rw (
      is_true (le (fin false 0 (pos 0)) x) (sizes_le (fin false 0 (pos 0)) x false false 0 1 a c (zero-lt-suc 0) e.den_pos (refl, refl) e.value (omega arith)),
      is_true (le x (fin false 1 (pos 31))) (sizes_le x (fin false 1 (pos 31)) false false a c most_end 1 e.den_pos (zero-lt-suc 0) e.value (refl, refl) (le_trans (le_of_eq (mul-one a)) e.small)),
    ) refl
