-- How many places pass: none but those that there are, one by one, and all or none where all or none pass. Assumes nothing.
use Rattle.std.proofs.Common.{◌≡◌, ℕ, zero, suc, ◌+◌, ◌≤◌, Bool, true, false, sym, ap, add-one, arith}
use Rattle.picks.specs.Pick.{pick}
use Rattle.order_search.specs.Search.{how_many}

one_at_most : (b : Bool) → pick b 1 0 ≤ 1
one_at_most true = omega arith
one_at_most false = omega arith

module _ (passes : ℕ → Bool) where
  pub how_many_most : (n : ℕ) → how_many passes n ≤ n
  unfolding how_many
  how_many_most zero = omega arith
  how_many_most (suc n) = omega (arith, how_many_most n, one_at_most (passes n))

  pub one_more : (n : ℕ) → how_many passes n + pick (passes n) 1 0 ≡ how_many passes (n + 1)
  unfolding how_many
  one_more n = sym (ap (how_many passes) (add-one n))

  pub of_three : pick (passes 0) 1 0 + pick (passes 1) 1 0 + pick (passes 2) 1 0 ≡ how_many passes 3
  unfolding how_many
  of_three = omega arith
