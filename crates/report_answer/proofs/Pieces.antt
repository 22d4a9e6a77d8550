-- The answer line, and the lists behind it only where they are taken. Assumes nothing.
use Prim.Native.Nat.{ℕ}
use mathlib.Core.Path.{◌≡◌, sym}
use mathlib.Core.List.{List, [], ◌++◌, append-nil}
use borrow.Author.Tests.{eq-eqb, ne_eqb}
use lib.Dec.{eqb}
use Rattle.picks.specs.Pick.{pick}

pub refused-only : (line lists : List ℕ) (number : ℕ) → (number ≡ 0 → ⊥) → line ≡ line ++ pick (eqb number 0) lists []
refused-only line lists number h = rw (ne_eqb number 0 h) (sym (append-nil line))

pub taken-lists : (lists : List ℕ) (number : ℕ) → number ≡ 0 → lists ≡ pick (eqb number 0) lists []
taken-lists lists number h = rw (eq-eqb number 0 h)
