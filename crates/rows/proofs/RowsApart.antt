-- Two whole numbers are no further apart than their sizes together. Assumes nothing.
use Rattle.std.proofs.Common.{◌≡◌, ℕ, zero, suc, ◌+◌, ◌-◌, ◌≤◌, Bool, true, false, cond, ltb, ℤ, pos, negsuc, ◌-ℤ◌, nat_abs, refl, arith, ltb-true}
use lib.IntN.{sub_ℕ}

sub-size : (m n : ℕ) → nat_abs (sub_ℕ m n) ≤ m + n
sub-size m n = go (ltb m n) refl
  where
    go : (b : Bool) → ltb m n ≡ b → nat_abs (cond b (negsuc (n - suc m)) (pos (m - n))) ≤ m + n
    go true e = omega (arith, ltb-true m n e)
    go false e = omega arith

pub apart : (a b : ℤ) → nat_abs (a -ℤ b) ≤ nat_abs a + nat_abs b
apart (pos a) (pos zero) = omega arith
apart (pos a) (pos (suc b)) = sub-size a (suc b)
apart (pos a) (negsuc b) = omega arith
apart (negsuc a) (pos zero) = let l = sub-size 0 (suc a) in omega arith
apart (negsuc a) (pos (suc b)) = omega arith
apart (negsuc a) (negsuc b) = let l = sub-size (suc b) (suc a) in omega arith
