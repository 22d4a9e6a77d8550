-- The numbers that the input's bytes complete, and the columns they go to. Definitions only.
-- A column is named by its list (2 bpm .. 8 fake) and the part of the line that it holds (1 is the beat).
use Rattle.std.specs.Prelude.{ℕ, ◌%◌, List, [], ◌∷◌, eqb, set, Float}
use Rattle.std.specs.Float.Ieee.{of_bits}
use Rattle.std.specs.Float.{binary64}
use Rattle.picks.specs.Pick.{pick}
use Rattle.report_form.specs.declared.Reading.{Reading}
use Rattle.report_form.specs.declared.Store.{Store}
use Rattle.report_form.specs.Form.{step_of}

-- most bytes complete nothing: list 0
abbrev pub nothing : Store
nothing = record { list = 0; part = 0; at = 0; number = 0; count = 0 }

-- the number that was read is part `part` of entry `at` of its list, which has `count` entries then
abbrev pub complete : Reading → Reading → Store
complete reading next = record { list = reading.list; part = reading.part; at = reading.count; number = reading.number; count = next.count }

-- a comma or a line feed that the form has completes a number
unfoldable pub store_of : Reading → ℕ → Reading → Store
store_of reading byte next =
    pick next.fine
    (pick (eqb byte 10) (complete reading next)
    (pick (eqb byte 44) (complete reading next)
    nothing))
    nothing

-- a column after a store: changed where the store is its own, and only inside (`set` past the end changes nothing)
unfoldable pub stored_in : {A : Type 0} → (ℕ → A) → ℕ → ℕ → Store → List A → List A
stored_in value list part store column = pick (eqb store.list list) (pick (eqb store.part part) (set column store.at (value store.number)) column) column

-- a number is the f64 of its pattern; a unit is the digit itself
abbrev pub number_in : ℕ → ℕ → Store → List Float → List Float
number_in = stored_in (of_bits binary64)

abbrev pub unit_in : ℕ → ℕ → Store → List ℕ → List ℕ
unit_in = stored_in (λ n. n % 256)

-- the count of each list stands at the list's number
unfoldable pub count_in : Store → List ℕ → List ℕ
count_in store counts = pick (eqb store.list 0) counts (set counts store.list store.count)

-- what bytes leave in a column, each by the store that it makes
unfoldable pub column_after {ℓ} : {A : Type ℓ} → (Store → A → A) → Reading → List ℕ → A → A
column_after change reading [] column = column
column_after change reading (byte ∷ bytes) column = column_after change (step_of reading byte) bytes (change (store_of reading byte (step_of reading byte)) column)

-- the stores that bytes make, in order
unfoldable pub stores_with : Store → List Store → List Store
stores_with store stores = pick (eqb store.list 0) stores (store ∷ stores)

unfoldable pub stores_of : Reading → List ℕ → List Store
stores_of reading [] = []
stores_of reading (byte ∷ bytes) = stores_with (store_of reading byte (step_of reading byte)) (stores_of (step_of reading byte) bytes)

-- a column after them
unfoldable pub applied : {A : Type 0} → (Store → A → A) → List Store → A → A
applied change [] column = column
applied change (store ∷ stores) column = applied change stores (change store column)
