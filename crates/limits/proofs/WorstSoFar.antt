-- A list is tested to its end, and the worst so far is kept: what a loop knows at each turn. Assumes nothing.
use Prim.Native.Nat.{ℕ, ◌+◌, ◌≤◌, ◌<◌}
use mathlib.Core.Path.{◌≡◌, refl, sym, ◌∙◌}
use mathlib.Core.Bool.{Bool, true, false}
use mathlib.Core.List.{List}
use native.Mathlib.Omega.{arith}
use native.Mathlib.Numerals.{add-one}
use borrow.Author.Tests.{ltb-false, le-ltb, ne_eqb}
use lib.Dec.{ltb, eqb}
use lib.ListN.{length, drop, get_or, drop_of_length-le}
use lib.Seq.{drop-cons}
use Rattle.picks.specs.Pick.{pick}
use Rattle.limits.specs.Numbers.{every}

-- nothing failed so far, and the rest passes
abbrev pub passing : ℕ → Bool → Bool
passing worst rest = pick (eqb worst 0) rest false

abbrev worse : ℕ → ℕ → ℕ
worse one other = pick (ltb one other) other one

still : (worst : ℕ) → worse worst 0 ≡ worst
still worst = rw (le-ltb worst 0 (omega arith))

failed : (worst : ℕ) → worse worst 1 ≡ 0 → ⊥
failed worst e = go (ltb worst 1) (ltb-false worst 1) e
  where
    go : (t : Bool) → (t ≡ false → 1 ≤ worst) → pick t 1 worst ≡ 0 → ⊥
    go true f z = omega arith
    go false f z = omega (arith, f refl)

nowhere : (t : Bool) → pick t false false ≡ false
nowhere true = refl
nowhere false = refl

-- a turn: one is 1 where the entry fails
pub worst_turn : (worst one : ℕ) (t rest answer : Bool) → one ≡ pick t 0 1 → passing worst (pick t rest false) ≡ answer → passing (pick (ltb worst one) one worst) rest ≡ answer
worst_turn worst one true rest answer e known = rw (e, still worst) known
worst_turn worst one false rest answer e known = rw (e, ne_eqb (worse worst 1) 0 (failed worst)) (sym (nowhere (eqb worst 0)) ∙ known)

pub worst_last : (worst : ℕ) (answer : Bool) → passing worst true ≡ answer → eqb worst 0 ≡ answer
worst_last worst answer known = sym (go (eqb worst 0)) ∙ known
  where
    go : (t : Bool) → pick t true false ≡ t
    go true = refl
    go false = refl

module _ {A : Type 0} (test : A → Bool) (list : List A) (i : ℕ) where
  pub every-parts : (other : A) → i < length list → every test (drop i list) ≡ pick (test (get_or list i other)) (every test (drop (i + 1) list)) false
  unfolding every
  every-parts other h = rw (add-one i, drop-cons list i other h)

  pub every-none : length list ≤ i → every test (drop i list) ≡ true
  unfolding every
  every-none h = rw (drop_of_length-le list h)
