-- What is said of a text that is written whole or not at all leaves one outcome: number, count, and the page to its last byte. Assumes nothing.
use Prim.Native.Nat.{ℕ}
use mathlib.Core.Path.{◌≡◌}
use mathlib.Core.List.{List}
use Rattle.columns.specs.declared.Outcome.{Outcome}
use Rattle.text_tempos.specs.Answers.{TextLaid}

pub one_outcome : {tests : ℕ} {text : List ℕ} {a b : Outcome} {old new_a new_b : List ℕ} → TextLaid tests text a old new_a → TextLaid tests text b old new_b → (a ≡ b) × (new_a ≡ new_b)
one_outcome {a = a} {b = b} x y =
    let same : ◌≡◌ {A = Outcome} (record { number = a.number; count = a.count }) (record { number = b.number; count = b.count }) = cc in
    (same, cc)
