-- What is said of the row store's outcome leaves one: number, the length of each part, and both rooms to their last place. Assumes nothing.
use Prim.Native.Nat.{ℕ}
use mathlib.Core.Path.{◌≡◌}
use mathlib.Core.List.{List}
use lib.IntN.{ℤ}
use Rattle.lookup_tests.specs.LookupLists.{LookupLists}
use Rattle.lookup_row_store.specs.declared.Stored.{Stored}
use Rattle.lookup_row_store.specs.RowStore.{RowsStored}

pub one_outcome : {lists : LookupLists} {marks : List ℕ} {a b : Stored} {old new_a new_b : List ℤ} {marks_old marks_a marks_b : List ℕ}
    → RowsStored lists marks a old new_a marks_old marks_a → RowsStored lists marks b old new_b marks_old marks_b → (a ≡ b) × (new_a ≡ new_b) × (marks_a ≡ marks_b)
one_outcome {a = a} {b = b} x y =
    let same : ◌≡◌ {A = Stored} (record { number = a.number; stops = a.stops; delays = a.delays; warps = a.warps; fakes = a.fakes }) (record { number = b.number; stops = b.stops; delays = b.delays; warps = b.warps; fakes = b.fakes }) = cc in
    (same, cc, cc)
