-- What is said of a written report leaves one outcome: how many bytes it has, and the page to its last byte. Assumes nothing.
use Prim.Native.Nat.{ℕ}
use mathlib.Core.Path.{◌≡◌}
use mathlib.Core.List.{List}
use Rattle.text_page.proofs.OneOutcome as page
use Rattle.report_whole.specs.Whole.{Reported}

pub one_outcome : {text : List ℕ} {end_a end_b : ℕ} {old new_a new_b : List ℕ} → Reported text end_a old new_a → Reported text end_b old new_b → (end_a ≡ end_b) × (new_a ≡ new_b)
one_outcome x y = page.one_outcome x.wrote y.wrote
