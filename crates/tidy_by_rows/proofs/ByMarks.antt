-- Beats that are allowed are moved to their rows by marks too; and where each is on a later row than the one before it, rows never fall. Assumes nothing.
use Prim.Native.Nat.{ℕ, ◌≤◌}
use mathlib.Core.Path.{◌≡◌, refl, ap, ap₂, ◌∙◌}
use mathlib.Core.Bool.{Bool, true, false}
use mathlib.Core.List.{List, [], ◌∷◌, map}
use native.Mathlib.Omega.{arith}
use lib.Ieee.{Float}
use lib.ListN.{length}
use borrow.Author.Tests.{ltb-true, le-leb}
use Rattle.picks.specs.Pick.{pick}
use Rattle.limits.specs.declared.Kind.TheVariants.{Beat}
use Rattle.limits.specs.Numbers.{in_range, range_of, all_in}
use Rattle.limits.specs.Neighbours.{neighbours, every_two}
use Rattle.limits.proofs.Every.{every_rest}
use Rattle.limits.proofs.EachTwo.{passes}
use Rattle.order.specs.Order.{may_precede, never_falls, laid}
use Rattle.columns.specs.Each.{laid_each}
use Rattle.columns.proofs.EachOverFront.{each_over_front}
use Rattle.rows.specs.RowKey.{row_key_at, beat_on_row}
use Rattle.rows.proofs.RowMarks.{mark-beat}
use Rattle.rows.proofs.Allowed.{taken-allowed}
use Rattle.tidy_by_rows.specs.ByMarks.{row_rises, on_marked_row}

same_rows : (beats : List Float) → all_in (range_of Beat) beats ≡ true → map on_marked_row beats ≡ map beat_on_row beats
same_rows [] h = refl
same_rows (b ∷ beats) h =
    let each = every_rest (in_range (range_of Beat)) b beats h in
    ap₂ ◌∷◌ (mark-beat b (taken-allowed b each.0)) (same_rows beats each.1)

pub marked_over_front : (beats old : List Float) → all_in (range_of Beat) beats ≡ true → length beats ≤ length old → laid_each on_marked_row beats old ≡ laid (map beat_on_row beats) old
marked_over_front beats old h l = each_over_front on_marked_row beats old l ∙ ap (λ (list : List Float). laid list old) (same_rows beats h)

pub rising_never_falls : (beats : List Float) → every_two row_rises beats ≡ true → never_falls row_key_at beats ≡ true
unfolding neighbours never_falls may_precede
rising_never_falls [] h = refl
rising_never_falls (b ∷ []) h = refl
rising_never_falls (b ∷ next ∷ beats) h =
    let two = every_rest (passes row_rises) (b, next) (neighbours (next ∷ beats)) h in
    let up : row_key_at b ≤ row_key_at next = omega (arith, ltb-true (row_key_at b) (row_key_at next) two.0) in
    rw (le-leb (row_key_at b) (row_key_at next) up) (rising_never_falls (next ∷ beats) two.1)

-- what `tidy_by_rows::rise` tells
both : (a b : Bool) → pick a b false ≡ true → (a ≡ true) × (b ≡ true)
both true b h = (refl, h)
both false b h = let z : ◌≡◌ {A = ℕ} 0 1 = cc in absurd (omega arith)

pub allowed_and_rising : (beats : List Float) → pick (all_in (range_of Beat) beats) (every_two row_rises beats) false ≡ true → (all_in (range_of Beat) beats ≡ true) × (every_two row_rises beats ≡ true)
allowed_and_rising beats h = both (all_in (range_of Beat) beats) (every_two row_rises beats) h
