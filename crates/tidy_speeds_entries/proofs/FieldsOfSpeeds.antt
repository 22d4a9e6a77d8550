-- Four columns of one length are the fields of their speeds, each on its row; and so are the fronts of longer ones. Assumes nothing.
use Prim.Native.Nat.{ℕ, ◌≤◌}
use mathlib.Core.Path.{◌≡◌, refl, sym, ap, ◌∙◌}
use mathlib.Core.List.{List, [], ◌∷◌, map}
use native.Mathlib.Omega.{arith}
use lib.ListN.{length, take}
use lib.Seq.{length-take-le}
use lib.Ieee.{Float}
use Rattle.order.specs.Entries.{entries, first}
use Rattle.rows.specs.RowKey.{beat_on_row}
use Rattle.tidy_kept.specs.inside.Placing.{front_entries}
use Rattle.tidy_kept.proofs.ColumnsPlaced.{entries-take}
use Rattle.tidy_speeds_entries.specs.Speed.{SpeedEntry, speed_values, speed_entries, speed_on_row}
use Rattle.tidy_speeds_entries.specs.LaidSpeeds.{ratio_of, delay_of, unit_of}

pub record Even (beats ratios delays : List Float) (units : List ℕ) : Type 0 where
  pub ratios_even : length ratios ≡ length beats
  pub delays_even : length delays ≡ length beats
  pub units_even : length units ≡ length beats

pub record Fields (beats ratios delays : List Float) (units : List ℕ) : Type 0 where
  pub beats_are : map first (map speed_on_row (speed_entries beats ratios delays units)) ≡ map beat_on_row beats
  pub ratios_are : map ratio_of (map speed_on_row (speed_entries beats ratios delays units)) ≡ ratios
  pub delays_are : map delay_of (map speed_on_row (speed_entries beats ratios delays units)) ≡ delays
  pub units_are : map unit_of (map speed_on_row (speed_entries beats ratios delays units)) ≡ units

pub speed-fields : (beats ratios delays : List Float) (units : List ℕ) → Even beats ratios delays units → Fields beats ratios delays units
unfolding entries
speed-fields [] [] [] [] e = record { beats_are = refl; ratios_are = refl; delays_are = refl; units_are = refl }
speed-fields [] (r ∷ ratios) delays units e = absurd (omega (arith, e.ratios_even))
speed-fields [] [] (d ∷ delays) units e = absurd (omega (arith, e.delays_even))
speed-fields [] [] [] (u ∷ units) e = absurd (omega (arith, e.units_even))
speed-fields (b ∷ beats) [] delays units e = absurd (omega (arith, e.ratios_even))
speed-fields (b ∷ beats) (r ∷ ratios) [] units e = absurd (omega (arith, e.delays_even))
speed-fields (b ∷ beats) (r ∷ ratios) (d ∷ delays) [] e = absurd (omega (arith, e.units_even))
speed-fields (b ∷ beats) (r ∷ ratios) (d ∷ delays) (u ∷ units) e =
    let rest = speed-fields beats ratios delays units (record { ratios_even = omega (arith, e.ratios_even); delays_even = omega (arith, e.delays_even); units_even = omega (arith, e.units_even) }) in
    record { beats_are = ap (◌∷◌ (beat_on_row b)) rest.beats_are; ratios_are = ap (◌∷◌ r) rest.ratios_are; delays_are = ap (◌∷◌ d) rest.delays_are; units_are = ap (◌∷◌ u) rest.units_are }

module _ (n : ℕ) (beats ratios delays : List Float) (units : List ℕ) (b : n ≤ length beats) (r : n ≤ length ratios) (d : n ≤ length delays) (u : n ≤ length units) where
  -- the first n entries are those of the fronts
  pub front-speeds : front_entries n beats (speed_values ratios delays units) ≡ speed_entries (take n beats) (take n ratios) (take n delays) (take n units)
  front-speeds =
      ap (entries (take n beats)) (sym (ap (entries (take n ratios)) (entries-take n delays units) ∙ entries-take n ratios (entries delays units)))

  pub front-fields : Fields (take n beats) (take n ratios) (take n delays) (take n units)
  front-fields =
      let long = length-take-le n beats b in
      speed-fields (take n beats) (take n ratios) (take n delays) (take n units) (record {
        ratios_even = length-take-le n ratios r ∙ sym long;
        delays_even = length-take-le n delays d ∙ sym long;
        units_even = length-take-le n units u ∙ sym long;
      })
