-- `clock::is_same_mark` is `same_mark`. Assumes nothing.
use mathlib.Core.Bool.{Bool, true, false}
use mathlib.Core.Path.{◌≡◌, sym, ◌∙◌}
use mir.Syntax.{w32}
use mir.Val.{SFits, to_z, of_z}
use lib.IntN.{ℤ}
use Rattle.rows.proofs.BackFromBits.{back}
use Rattle.clock.specs.Marked.{same_row, same_mark}
use borrow.Author.Rules.{rules}
use Rattle.clock.proofs.is_same_mark.Goals as goal
use Rattle.clock.proofs.is_same_mark.Goals.{After-is_same_row, After-is_same_row-then-is_same_places}

-- what a test of rows that stand in structs found
rows_are : (one other : ℤ) (told found : Bool) → SFits w32 one → SFits w32 other → told ≡ same_row (to_z w32 (of_z w32 one)) (to_z w32 (of_z w32 other)) → told ≡ found → same_row one other ≡ found
rows_are one other told found f g is e = sym (rw (back one f, back other g) at is) ∙ e

first-row : (c : After-is_same_row) (found : Bool) → c.is_same_row.result ≡ found → same_row c.args.one.row c.args.other.row ≡ found
first-row c found e =
    rows_are _ _ _ found (record { sfits = c.struct_told-1.given.1.0.1 }) (record { sfits = c.struct_told-2-1.given.1.0.1 }) c.is_same_row.ensures e

second-row : (c : After-is_same_row-then-is_same_places) (found : Bool) → c.is_same_row-then-is_same_places.result ≡ found → same_row c.args.one.state.row c.args.other.state.row ≡ found
second-row c found e =
    rows_are _ _ _ found (record { sfits = c.struct_told-then-is_same_places-1.given.1.1.1.1.0.1 }) (record { sfits = c.struct_told-then-is_same_places-2-1.given.1.1.1.1.0.1 }) c.is_same_row-then-is_same_places.ensures e

pub returns-then-is_same_bits : goal.returns-then-is_same_bits
unfolding same_mark
returns-then-is_same_bits c =
    let third = c in
    let second = third in
    let first = second in
    rw (first-row (goal.at.returns-then-is_same_bits first).After-is_same_row true first.if-is_same_row.true, sym second.is_same_places.ensures ∙ second.if-is_same_places.true, second-row (goal.at.returns-then-is_same_bits third).After-is_same_row-then-is_same_places true third.if-is_same_row-2.true, sym c.is_same_bits.ensures ∙ c.if-is_same_bits.true) c.is_same_warp.ensures

pub returns-then-is_same_row-2 : goal.returns-then-is_same_row-2
unfolding same_mark
returns-then-is_same_row-2 c =
    let third = c in
    let second = third in
    let first = second in
    rw (first-row (goal.at.returns-then-is_same_row-2 first).After-is_same_row true first.if-is_same_row.true, sym second.is_same_places.ensures ∙ second.if-is_same_places.true, second-row (goal.at.returns-then-is_same_row-2 third).After-is_same_row-then-is_same_places true third.if-is_same_row-2.true, sym c.is_same_bits.ensures ∙ c.if-is_same_bits.false)

pub returns-then-is_same_places : goal.returns-then-is_same_places
unfolding same_mark
returns-then-is_same_places c =
    let second = c in
    let first = second in
    rw (first-row (goal.at.returns-then-is_same_places first).After-is_same_row true first.if-is_same_row.true, sym second.is_same_places.ensures ∙ second.if-is_same_places.true, second-row (goal.at.returns-then-is_same_places c).After-is_same_row-then-is_same_places false c.if-is_same_row-2.false)

pub returns-then-is_same_row : goal.returns-then-is_same_row
unfolding same_mark
returns-then-is_same_row c =
    let first = c in
    rw (first-row (goal.at.returns-then-is_same_row first).After-is_same_row true first.if-is_same_row.true, sym c.is_same_places.ensures ∙ c.if-is_same_places.false)

pub returns : goal.returns
unfolding same_mark
returns c = rw (first-row (goal.at.returns c).After-is_same_row false c.if-is_same_row.false)
