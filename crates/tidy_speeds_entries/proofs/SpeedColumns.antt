-- Four columns as a list of speeds: how many, each of them, the first n, and with a part replaced. Assumes nothing.
use Prim.Native.Nat.{ℕ, ◌+◌, ◌≤◌, ◌<◌, min}
use mathlib.Core.Path.{◌≡◌, refl, sym, ap, ◌∙◌}
use mathlib.Core.Bool.{Bool}
use mathlib.Core.List.{List}
use native.Mathlib.Omega.{arith}
use lib.ListN.{length, get_or, set}
use lib.Ieee.{Float, nan}
use Rattle.order.specs.Entries.{entries}
use Rattle.order.proofs.Columns.{entries-set, length-entries}
use Rattle.tidy_kept.specs.Changing.{spliced_in}
use Rattle.tidy_kept.proofs.ShortestColumn.{many-entries, entry_at}
use Rattle.tidy_kept.proofs.ColumnsPlaced.{entries_spliced_in}
use Rattle.tidy_speeds_entries.specs.Speed.{SpeedValue, no_speed, speed_values, speed_entries}
use Rattle.tidy_speeds_entries.specs.LaidSpeeds.{least_of}

module _ (ratios delays : List Float) (units : List ℕ) where
  pub many-values : length (speed_values ratios delays units) ≡ min (length ratios) (min (length delays) (length units))
  many-values = omega (arith, many-entries ratios (entries delays units), many-entries delays units)

  pub value-at : (i : ℕ) → i < length ratios → i < length delays → i < length units → get_or (speed_values ratios delays units) i no_speed ≡ (get_or ratios i nan, (get_or delays i nan, get_or units i 0))
  value-at i a b c =
      entry_at ratios (entries delays units) i nan (nan, 0) a (omega (arith, many-entries delays units)) ∙ rw (entry_at delays units i nan 0 b c)

  pub set_value : (i : ℕ) (v : SpeedValue) → speed_values (set ratios i v.0) (set delays i v.1.0) (set units i v.1.1) ≡ set (speed_values ratios delays units) i v
  set_value i v = rw (entries-set delays units i v.1.0 v.1.1) (entries-set ratios (entries delays units) i v.0 v.1)

  pub splice_values : (n low high : ℕ) (comes : Bool) (v : SpeedValue) → length ratios ≡ length delays → length ratios ≡ length units → n < length ratios → low ≤ high → high ≤ n
      → speed_values (spliced_in n low high comes v.0 ratios) (spliced_in n low high comes v.1.0 delays) (spliced_in n low high comes v.1.1 units)
      ≡ spliced_in n low high comes v (speed_values ratios delays units)
  splice_values n low high comes v d u room h k =
      rw (entries_spliced_in n low high comes v.1.0 v.1.1 delays units (omega arith) (omega arith) h k)
      (entries_spliced_in n low high comes v.0 v.1 ratios (entries delays units) (d ∙ sym (length-entries delays units (omega arith))) room h k)

  module _ (beats : List Float) where
    pub many-speeds : length (speed_entries beats ratios delays units) ≡ least_of (length beats) (length ratios) (length delays) (length units)
    many-speeds = omega (arith, many-entries beats (speed_values ratios delays units), many-values)

    pub speed-here : (i : ℕ) → i < least_of (length beats) (length ratios) (length delays) (length units)
        → get_or (speed_entries beats ratios delays units) i (nan, no_speed) ≡ (get_or beats i nan, (get_or ratios i nan, (get_or delays i nan, get_or units i 0)))
    speed-here i h = entry_at beats (speed_values ratios delays units) i nan no_speed (omega arith) (omega (arith, many-values)) ∙ rw (value-at i (omega arith) (omega arith) (omega arith))

    -- with what is read of the other three columns
    pub speed-entry : (i : ℕ) (v : SpeedValue) → i < least_of (length beats) (length ratios) (length delays) (length units) → v ≡ get_or (speed_values ratios delays units) i no_speed
        → get_or (speed_entries beats ratios delays units) i (nan, no_speed) ≡ (get_or beats i nan, v)
    speed-entry i v h is = rw is (entry_at beats (speed_values ratios delays units) i nan no_speed (omega arith) (omega (arith, many-values)))
