-- The beats of rows within the limit are accepted, each with its own row, and where rows rise the asked row never falls. Assumes nothing.
use Prim.Native.Nat.{◌≤◌}
use mathlib.Core.List.{List, [], ◌∷◌}
use mathlib.Core.Bool.{true}
use mathlib.Core.Path.{◌≡◌, refl}
use borrow.Author.Tests.{leb-true}
use native.Mathlib.Omega.{arith}
use lib.IntN.{ℤ, nat_abs}
use lib.Signed.{lt_z}
use lib.Ieee.{binary64}
use Rattle.rows.specs.Rows.{row, beat_of}
use Rattle.rows.proofs.RowOfBeat.{row_of_beat}
use Rattle.rows.proofs.RowOrder.{lt_not}
use Rattle.rows.proofs.BeatsRise.{beat-allowed}
use Rattle.rows.proofs.Allowed.{allowed-taken}
use Rattle.limits.specs.Numbers.{every, row_in, most_row}
use Rattle.limits.specs.Neighbours.{neighbours, every_two}
use Rattle.limits.proofs.Every.{every_rest}
use Rattle.clock_walk.specs.Course.{one}
use Rattle.clock_tests.specs.TimingNumbers.{beat_number}
use Rattle.clock_histories.specs.Costs.{beats_of, accepted_rows, falls}
use Rattle.note_sheet.specs.Sheet.{sheet_questions}

row_near : (r : ℤ) → row_in r ≡ true → nat_abs r ≤ most_row
unfolding row_in
row_near r h = leb-true (nat_abs r) most_row h

-- a row's beat has that row, and is taken
row-again : (r : ℤ) → row_in r ≡ true → row binary64 (beat_of binary64 r) ≡ r
row-again r h = row_of_beat binary64 binary64 r (row_near r h)

pub row-taken : (r : ℤ) → row_in r ≡ true → beat_number (beat_of binary64 r) ≡ 0
unfolding beat_number
row-taken r h = rw (allowed-taken (beat_of binary64 r) (beat-allowed binary64 r (row_near r h)))

-- so the rows that are accepted are the rows themselves
pub rows_accepted : (rows : List ℤ) → every row_in rows ≡ true → accepted_rows (beats_of (sheet_questions rows)) ≡ rows
unfolding accepted_rows
rows_accepted [] near = refl
rows_accepted (r ∷ rows) near =
    let n = every_rest row_in r rows near in
    rw (row-taken r n.0, row-again r n.0, rows_accepted rows n.1)

-- F = 0
pub no-falls : (rows : List ℤ) → every_two lt_z rows ≡ true → falls rows ≡ 0
unfolding falls neighbours
no-falls [] up = refl
no-falls (a ∷ []) up = refl
no-falls (a ∷ b ∷ rows) up =
    let n = every_rest _ (a, b) (neighbours (b ∷ rows)) up in
    let here : one (lt_z b a) ≡ 0 = rw (lt_not a b n.0) in
    omega (arith, here, no-falls (b ∷ rows) n.1)
