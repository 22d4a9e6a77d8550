-- What was laid over a room's front is read back from its front. Assumes nothing.
use Prim.Native.Nat.{ℕ}
use mathlib.Core.Path.{◌≡◌, refl}
use mathlib.Core.List.{List}
use lib.ListN.{length, take, drop}
use lib.Seq.{take_at}
use Rattle.order.specs.Order.{laid}

pub front_read : {A : Type 0} (new old : List A) (count : ℕ) → count ≡ length new → take count (laid new old) ≡ new
unfolding laid
front_read new old count e = rw e (take_at new (drop (length new) old) (length new) refl)
