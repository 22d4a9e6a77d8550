-- How many of a list fail a test: laws of the count, and a loop that counts in a u32, round at 2 ^ 32. Assumes nothing.
use Prim.Native.Nat.{ℕ, ◌+◌, ◌%◌, ◌^◌, ◌≤◌, ◌<◌}
use mathlib.Core.Path.{◌≡◌, refl, sym, ap, ◌∙◌}
use mathlib.Core.Bool.{Bool, true}
use mathlib.Core.List.{List, [], ◌∷◌, ◌++◌, map}
use native.Mathlib.Nat.{zero-add, add-zero, mod-add-mod, mod-lt, mod-eq_of_lt}
use native.Mathlib.Numerals.{add-one}
use native.Mathlib.Omega.{arith}
use lib.Dec.{lit<}
use lib.ListN.{length, drop, get_or, drop_of_length-le}
use lib.Seq.{drop-cons}
use Rattle.limits.specs.Numbers.{every, miss, misses}
use Rattle.limits.proofs.Every.{miss-few, every_rest}

module _ {A : Type 0} (test : A → Bool) where
  pub misses-few : (list : List A) → misses test list ≤ length list
  unfolding misses
  misses-few [] = omega arith
  misses-few (x ∷ list) = omega (arith, miss-few test x, misses-few list)

  misses-append : (a b : List A) → misses test (a ++ b) ≡ misses test a + misses test b
  unfolding misses
  misses-append [] b = omega arith
  misses-append (x ∷ a) b = omega (arith, misses-append a b)

  misses-clear : (list : List A) → every test list ≡ true → misses test list ≡ 0
  unfolding misses
  misses-clear [] h = refl
  misses-clear (x ∷ list) h = let p = every_rest test x list h in rw (p.0, misses-clear list p.1)

  -- behind others, what passes throughout does not count
  pub clear_behind : (a b : List A) → every test b ≡ true → misses test (a ++ b) ≡ misses test a
  clear_behind a b h = omega (arith, misses-append a b, misses-clear b h)

-- a list changed, and tested then
pub misses-map : {A B : Type 0} (test : B → Bool) (f : A → B) (list : List A) → misses test (map f list) ≡ misses (λ (x : A). test (f x)) list
unfolding misses
misses-map test f [] = refl
misses-map test f (x ∷ list) = ap (λ (n : ℕ). miss test (f x) + n) (misses-map test f list)

-- ---- a loop over the list: after i entries
pub record CountedRound {A : Type 0} (test : A → Bool) (list : List A) (i n : ℕ) : Type 0 where
  pub inside : i ≤ length list
  pub held : n < 2 ^ 32
  pub same : (n + misses test (drop i list)) % 2 ^ 32 ≡ misses test list % 2 ^ 32

module _ {A : Type 0} (test : A → Bool) where
  pub round-start : (list : List A) → CountedRound test list 0 0
  round-start list = record { inside = omega arith; held = lit< tt; same = ap (λ (k : ℕ). k % 2 ^ 32) (zero-add (misses test list)) }

  pub round-turn : {list : List A} {i n m : ℕ} (one : ℕ) (other : A)
      → i < length list → one ≡ miss test (get_or list i other) → m ≡ (n + one) % 2 ^ 32 → CountedRound test list i n → CountedRound test list (i + 1) m
  unfolding misses
  round-turn {list} {i} {n} {m} one other h e sum c =
      let rest = misses test (drop (i + 1) list) in
      let step : misses test (drop i list) ≡ one + rest = rw (add-one i, drop-cons list i other h, e) in
      let whole : n + one + rest ≡ n + misses test (drop i list) = omega arith in
      record {
        inside = omega arith;
        held = rw sum (mod-lt (n + one) (lit< tt));
        same = ap (λ (k : ℕ). (k + rest) % 2 ^ 32) sum ∙ mod-add-mod (n + one) (2 ^ 32) rest ∙ ap (λ (k : ℕ). k % 2 ^ 32) whole ∙ c.same;
      }

  pub round-end : {list : List A} {i n : ℕ} → length list ≤ i → CountedRound test list i n → n ≡ misses test list % 2 ^ 32
  unfolding misses
  round-end {list} {i} {n} h c =
      let none : drop i list ≡ [] = drop_of_length-le list h in
      let left : (n + 0) % 2 ^ 32 ≡ misses test list % 2 ^ 32 = rw none at c.same in
      sym (mod-eq_of_lt c.held) ∙ ap (λ (k : ℕ). k % 2 ^ 32) (sym (add-zero n)) ∙ left
