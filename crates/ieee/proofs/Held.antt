-- `hold` leaves what an i32 holds, from -2 ^ 31 to 2 ^ 31 - 1, as it is, and gives the end on its side for what lies beyond. Assumes nothing.
use mathlib.Core.Path.{◌≡◌, ap}
use Prim.Native.Nat.{◌<◌, ◌^◌}
use native.Mathlib.Omega.{arith}
use lib.IntN.{ℤ, pos, negsuc}
use lib.Signed.{mag, ◌≤ℤ◌, ◌<ℤ◌}
use lib.Dec.{leb→le, ltb→lt}
use Rattle.ieee.specs.Rounding.{least_i32, most_i32, hold}

-- the range as one bound
pub held-within : (z : ℤ) → mag z < 2 ^ 31 → hold z ≡ z
unfolding hold
held-within (pos n) h = ap pos (omega arith)
held-within (negsuc n) h = ap negsuc (omega arith)

pub hold-within : (z : ℤ) → least_i32 ≤ℤ z → z ≤ℤ most_i32 → hold z ≡ z
hold-within (pos n) lo hi = let h = leb→le n 2147483647 hi.le in held-within (pos n) (omega arith)
hold-within (negsuc n) lo hi = let h = leb→le n 2147483647 lo.le in held-within (negsuc n) (omega arith)

pub hold-above : (z : ℤ) → most_i32 <ℤ z → hold z ≡ most_i32
unfolding hold
hold-above (pos n) h = let l = ltb→lt 2147483647 n h.lt in ap pos (omega arith)
hold-above (negsuc n) h = absurd h.lt

pub hold-below : (z : ℤ) → z <ℤ least_i32 → hold z ≡ least_i32
unfolding hold
hold-below (pos n) h = absurd h.lt
hold-below (negsuc n) h = let l = ltb→lt 2147483647 n h.lt in ap negsuc (omega arith)
