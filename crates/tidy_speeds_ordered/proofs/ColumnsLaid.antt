-- Of columns that are apart every entry is kept, and the entries on their rows are the columns, beats moved to their rows. Assumes nothing.
use Prim.Native.Nat.{ℕ}
use mathlib.Core.Path.{◌≡◌, refl}
use mathlib.Core.Bool.{true, false}
use mathlib.Core.List.{List, [], ◌∷◌}
use native.Mathlib.Omega.{arith}
use lib.Ieee.{Float}
use borrow.Author.Tests.{ltb-true, not-true}
use Rattle.limits.specs.Neighbours.{neighbours, every_two}
use Rattle.limits.proofs.Every.{every_rest}
use Rattle.limits.proofs.EachTwo.{passes}
use Rattle.order.specs.Entries.{entries}
use Rattle.rows.specs.RowKey.{row_key_at}
use Rattle.tidy_kept.specs.Near.{near_to, far_from}
use Rattle.tidy_kept.proofs.AllApart.{Apart}
use Rattle.tidy_by_rows.specs.ByMarks.{row_rises}
use Rattle.tidy_speeds_entries.specs.Speed.{near_speed, speed_entries}
use Rattle.tidy_speeds_entries.proofs.FieldsOfSpeeds.{Even, Fields, speed-fields}
use Rattle.tidy_speeds_ordered.specs.inside.Apart.{ColumnsApart}
use Rattle.tidy_speeds_ordered.specs.OrderedSpeeds.{kept_speeds}
use Rattle.tidy_speeds_ordered.proofs.AllKept.{first-kept, none_kept}

far-speed : (r d : Float) (u : ℕ) (r' d' : Float) (u' : ℕ) → far_from r r' ≡ true → near_speed (r', (d', u')) (r, (d, u)) ≡ false
unfolding near_speed
far-speed r d u r' d' u' h = rw (not-true (near_to r' r) h)

speeds-apart : (b r d : Float) (u : ℕ) (beats ratios delays : List Float) (units : List ℕ) → Even beats ratios delays units → every_two row_rises (b ∷ beats) ≡ true → every_two far_from (r ∷ ratios) ≡ true
    → Apart row_key_at near_speed (b, (r, (d, u))) (speed_entries beats ratios delays units)
unfolding neighbours entries
speeds-apart b r d u [] ratios delays units e rise far = tt
speeds-apart b r d u (b' ∷ beats) [] delays units e rise far = absurd (omega (arith, e.ratios_even))
speeds-apart b r d u (b' ∷ beats) (r' ∷ ratios) [] units e rise far = absurd (omega (arith, e.delays_even))
speeds-apart b r d u (b' ∷ beats) (r' ∷ ratios) (d' ∷ delays) [] e rise far = absurd (omega (arith, e.units_even))
speeds-apart b r d u (b' ∷ beats) (r' ∷ ratios) (d' ∷ delays) (u' ∷ units) e rise far =
    let up = every_rest (passes row_rises) (b, b') (neighbours (b' ∷ beats)) rise in
    let away = every_rest (passes far_from) (r, r') (neighbours (r' ∷ ratios)) far in
    let even : Even beats ratios delays units = record { ratios_even = omega (arith, e.ratios_even); delays_even = omega (arith, e.delays_even); units_even = omega (arith, e.units_even) } in
    (ltb-true (row_key_at b) (row_key_at b') up.0, far-speed r d u r' d' u' away.0, speeds-apart b' r' d' u' beats ratios delays units even up.1 away.1)

all : (beats ratios delays : List Float) (units : List ℕ) → Even beats ratios delays units → every_two row_rises beats ≡ true → every_two far_from ratios ≡ true
    → kept_speeds (speed_entries beats ratios delays units) ≡ speed_entries beats ratios delays units
unfolding entries
all [] ratios delays units e rise far = none_kept [] refl
all (b ∷ beats) [] delays units e rise far = absurd (omega (arith, e.ratios_even))
all (b ∷ beats) (r ∷ ratios) [] units e rise far = absurd (omega (arith, e.delays_even))
all (b ∷ beats) (r ∷ ratios) (d ∷ delays) [] e rise far = absurd (omega (arith, e.units_even))
all (b ∷ beats) (r ∷ ratios) (d ∷ delays) (u ∷ units) e rise far =
    first-kept (b, (r, (d, u))) (speed_entries beats ratios delays units)
    (speeds-apart b r d u beats ratios delays units (record { ratios_even = omega (arith, e.ratios_even); delays_even = omega (arith, e.delays_even); units_even = omega (arith, e.units_even) }) rise far)

module _ (beats ratios delays : List Float) (units : List ℕ) (a : ColumnsApart beats ratios delays units) where
  even : Even beats ratios delays units
  even = record { ratios_even = a.ratios_even; delays_even = a.delays_even; units_even = a.units_even }

  pub apart-kept : kept_speeds (speed_entries beats ratios delays units) ≡ speed_entries beats ratios delays units
  apart-kept = all beats ratios delays units even a.rising a.far

  pub apart-columns : Fields beats ratios delays units
  apart-columns = speed-fields beats ratios delays units even
