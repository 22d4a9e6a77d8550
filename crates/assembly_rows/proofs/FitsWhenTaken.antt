-- Of a list that passes the tests, `rows_fit_in` says whether the assembled list is no longer than the room. Assumes nothing.
use Prim.Native.Nat.{ℕ}
use mathlib.Core.Path.{◌≡◌, refl, sym, ◌∙◌}
use mathlib.Core.Bool.{Bool, true, false}
use mathlib.Core.List.{List}
use mathlib.Core.Logic.{⊎_elim}
use native.Mathlib.Omega.{arith}
use borrow.Author.Tests.{le-leb, lt-leb, eq-eqb}
use lib.Dec.{leb, eqb}
use lib.ListN.{length}
use lib.Ieee.{Float}
use Rattle.picks.specs.Pick.{pick}
use Rattle.order.proofs.Compare.{below?}
use Rattle.columns.specs.Laying.{room_number}
use Rattle.assembly_rows.specs.AssembledRows.{change_by, assembled_rows, assembled_number, rows_fit_in}
use Rattle.assembly_rows.proofs.Outcomes.{no_longer}
use Rattle.assembly_rows.specs.declared.Meaning.{Meaning}

flag : (t : Bool) → eqb (pick t 0 7) 0 ≡ t
flag true = refl
flag false = refl

pub fits_when_taken : (meaning : Meaning) (beats values : List Float) (room : ℕ) → assembled_number (change_by meaning) beats values ≡ 0
    → rows_fit_in meaning beats values room ≡ leb (length (assembled_rows (change_by meaning) beats values)) room
unfolding rows_fit_in room_number
fits_when_taken meaning beats values room h =
    ⊎_elim
    (λ l. rw (lt-leb (length beats) room l, eq-eqb (assembled_number (change_by meaning) beats values) 0 h) (flag (leb (length (assembled_rows (change_by meaning) beats values)) room)))
    (λ l. rw (le-leb (length beats) room l, le-leb (length (assembled_rows (change_by meaning) beats values)) room (omega (arith, no_longer meaning beats values))))
    (below? room (length beats))
