-- Lists that are not refused can be looked into. Assumes nothing.
use Rattle.std.proofs.Common.{◌≡◌, ℕ, Bool, true, false, eqb, List, refl, arith, eqb-true}
use borrow.Author.Tests.{eqb-false}
use lib.Ieee.{Float}
use Rattle.picks.specs.Pick.{pick}
use Rattle.limits.specs.declared.Range.{Range}
use Rattle.limits.specs.declared.Kind.TheVariants.{Beat, Pause, Value}
use Rattle.limits.specs.Numbers.{range_of}
use Rattle.limits.specs.Refusals.{list_number}
use Rattle.limits.proofs.NoRefusal.{lower-none}
use Rattle.limits.proofs.ListTaken.{Taken, list-taken}
use Rattle.lookup.specs.Lookups.{ListColumns, WarpLists, LookupLists, but_fakes, rows_rise, rising_number, warp_number, fake_number, judgable_number}
use Rattle.lookup.specs.inside.Finding.{Usable, AllUsable}

-- a list that answers 0 is taken as any list is, and its rows rise
pub rising-taken : (value : Range) (beats values : List Float) → rising_number value beats values ≡ 0 → Taken (range_of Beat) value beats values × (rows_rise beats ≡ true)
unfolding rising_number
rising-taken value beats values h = go (eqb (list_number (range_of Beat) value beats values) 0) (rows_rise beats) refl refl h
  where
    go : (t r : Bool) → eqb (list_number (range_of Beat) value beats values) 0 ≡ t → rows_rise beats ≡ r → pick t (pick r 0 5) (list_number (range_of Beat) value beats values) ≡ 0 → Taken (range_of Beat) value beats values × (rows_rise beats ≡ true)
    go true true e k z = (list-taken (eqb-true (list_number (range_of Beat) value beats values) 0 e), k)
    go true false e k z = absurd (omega arith)
    go false r e k z = absurd (apart (list_number (range_of Beat) value beats values) e z)
      where
        apart : (n : ℕ) → eqb n 0 ≡ false → n ≡ 0 → ⊥
        apart n e z = eqb-false n 0 e z

usable : (value : Range) (beats values : List Float) → rising_number value beats values ≡ 0 → Usable beats values
usable value beats values h = let all = rising-taken value beats values h in (all.0.even, all.1)

pub warp-usable : (lists : WarpLists) (allowed : Bool) → warp_number lists allowed ≡ 0
    → Usable lists.stops.beats lists.stops.values × Usable lists.delays.beats lists.delays.values × Usable lists.warps.beats lists.warps.values
warp-usable lists allowed h =
    let both = lower-none _ _ h in
    let pauses = lower-none _ _ both.0 in (
      usable (range_of Pause) lists.stops.beats lists.stops.values pauses.0,
      usable (range_of Pause) lists.delays.beats lists.delays.values pauses.1,
      usable (range_of Value) lists.warps.beats lists.warps.values (lower-none _ _ both.1).0,
    )

pub fake-usable : (fakes : ListColumns) (allowed : Bool) → fake_number fakes allowed ≡ 0 → Usable fakes.beats fakes.values
fake-usable fakes allowed h = usable (range_of Value) fakes.beats fakes.values (lower-none _ _ h).0

pub judgable_usable : (lists : LookupLists) (allowed : Bool) → judgable_number lists allowed ≡ 0 → AllUsable lists
judgable_usable lists allowed h =
    let both = lower-none _ _ h in
    let warps = warp-usable (but_fakes lists) allowed both.0 in
    record { stops = warps.0; delays = warps.1; warps = warps.2; fakes = fake-usable lists.fakes allowed both.1 }
