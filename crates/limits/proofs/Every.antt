-- A column passes a test throughout exactly when no number of it fails: what a loop that counts the failures knows at each turn, over the element. Assumes nothing.
use Prim.Native.Nat.{ℕ, zero, suc, ◌+◌, ◌≤◌, ◌<◌}
use mathlib.Core.Path.{◌≡◌, refl, ap, ◌∙◌}
use mathlib.Core.Bool.{Bool, true, false}
use mathlib.Core.List.{List, [], ◌∷◌}
use native.Mathlib.Nat.{zero-add}
use native.Mathlib.Numerals.{add-one}
use native.Mathlib.Omega.{arith}
use lib.Dec.{eqb}
use lib.ListN.{length, drop, get_or, drop_of_length-le}
use lib.Seq.{drop-cons}
use borrow.Author.Tests.{ne_eqb}
use Rattle.picks.specs.Pick.{pick}
use Rattle.limits.specs.Numbers.{every, miss, misses}

-- after i numbers, n of which failed
pub record Counted {A : Type 0} (test : A → Bool) (list : List A) (i n : ℕ) : Type 0 where
  pub inside : i ≤ length list
  pub few : n ≤ i
  pub same : n + misses test (drop i list) ≡ misses test list

module _ {A : Type 0} (test : A → Bool) where
  misses-none : (list : List A) → eqb (misses test list) 0 ≡ every test list
  unfolding every misses
  misses-none [] = refl
  misses-none (x ∷ list) = go (test x) (misses-none list)
    where
      go : (t : Bool) → eqb (misses test list) 0 ≡ every test list → eqb (pick t 0 1 + misses test list) 0 ≡ pick t (every test list) false
      go true e = ap (λ (n : ℕ). eqb n 0) (zero-add (misses test list)) ∙ e
      go false e = ne_eqb (1 + misses test list) 0 (λ e. omega arith)

  pub counted_start : (list : List A) → Counted test list 0 0
  counted_start list = record { inside = omega arith; few = omega arith; same = omega arith }

  pub miss-few : (x : A) → miss test x ≤ 1
  miss-few x = go (test x)
    where
      go : (t : Bool) → pick t 0 1 ≤ 1
      go true = omega arith
      go false = omega arith

  pub counted-turn : {list : List A} {i n : ℕ} (one : ℕ) (other : A) → i < length list → one ≡ miss test (get_or list i other) → Counted test list i n → Counted test list (i + 1) (n + one)
  unfolding misses
  counted-turn {list} {i} {n} one other h e c =
      let step : misses test (drop i list) ≡ one + misses test (drop (i + 1) list) = rw (add-one i, drop-cons list i other h, e) in
      record { inside = omega arith; few = omega (arith, miss-few (get_or list i other), c.few); same = omega (arith, c.same) }

  counted-all : {list : List A} {i n : ℕ} → length list ≤ i → Counted test list i n → n ≡ misses test list
  unfolding misses
  counted-all {list} {i} {n} h c = let none : drop i list ≡ [] = drop_of_length-le list h in omega (arith, rw none at c.same)

  pub counted-end : {list : List A} {i n : ℕ} → length list ≤ i → Counted test list i n → eqb n 0 ≡ every test list
  counted-end {list} h c = ap (λ (m : ℕ). eqb m 0) (counted-all h c) ∙ misses-none list

-- what passes throughout passes first, and in the rest
pub every_rest : {A : Type 0} (test : A → Bool) (x : A) (list : List A) → every test (x ∷ list) ≡ true → (test x ≡ true) × (every test list ≡ true)
unfolding every
every_rest test x list h = go (test x) refl h
  where
    go : (t : Bool) → test x ≡ t → pick t (every test list) false ≡ true → (test x ≡ true) × (every test list ≡ true)
    go true e k = (e, k)
    go false e k = let z : ◌≡◌ {A = ℕ} 0 1 = cc in absurd (omega arith)

-- and at each place
pub every-at : {A : Type 0} (test : A → Bool) (list : List A) (i : ℕ) (other : A) → every test list ≡ true → i < length list → test (get_or list i other) ≡ true
every-at test [] i other h l = absurd (omega arith)
every-at test (x ∷ list) zero other h l = (every_rest test x list h).0
every-at test (x ∷ list) (suc i) other h l = every-at test list i other (every_rest test x list h).1 (omega arith)

-- and where one test is passed by what passes another
pub every_more : {A : Type 0} (test other : A → Bool) → ((x : A) → test x ≡ true → other x ≡ true) → (list : List A) → every test list ≡ true → every other list ≡ true
unfolding every
every_more test other more [] h = refl
every_more test other more (x ∷ list) h = let p = every_rest test x list h in rw (more x p.0, every_more test other more list p.1)
