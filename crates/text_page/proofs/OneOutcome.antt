-- What is said of bytes on a page leaves one outcome: the place behind them, and the page to its last byte. Assumes nothing.
use Prim.Native.Nat.{ℕ}
use mathlib.Core.Path.{◌≡◌}
use mathlib.Core.List.{List}
use Rattle.text_page.specs.Page.{Wrote}

pub one_outcome : {bytes : List ℕ} {at end_a end_b : ℕ} {old new_a new_b : List ℕ} → Wrote bytes at end_a old new_a → Wrote bytes at end_b old new_b → (end_a ≡ end_b) × (new_a ≡ new_b)
one_outcome x y = (cc, cc)
