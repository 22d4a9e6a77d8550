-- How many digits are written at most. Assumes nothing.
use Prim.Native.Nat.{ℕ, zero, suc, ◌+◌, ◌/◌, ◌%◌, ◌≤◌}
use mathlib.Core.Bool.{Bool, true, false}
use mathlib.Core.List.{[], ◌∷◌, ◌++◌}
use native.Mathlib.Omega.{arith}
use lib.Dec.{ltb}
use lib.ListN.{length, length-append}
use Rattle.picks.specs.Pick.{pick}
use Rattle.text_page.specs.Digits.{decimal_digits}

pub decimal_size : (k n : ℕ) → length (decimal_digits k n) ≤ k
unfolding decimal_digits
decimal_size zero n = omega arith
decimal_size (suc k) n = by_case (ltb n 10) (decimal_size k (n / 10))
  where
    by_case : (t : Bool) → length (decimal_digits k (n / 10)) ≤ k → length (pick t ((48 + n) ∷ []) (decimal_digits k (n / 10) ++ ((48 + n % 10) ∷ []))) ≤ suc k
    by_case true h = omega arith
    by_case false h = simp length-append (omega arith)
