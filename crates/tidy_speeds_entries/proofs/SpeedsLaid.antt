-- Speeds laid over the fronts of four rooms, each on its row, entry by entry. Assumes nothing.
use Prim.Native.Nat.{ℕ, ◌+◌, ◌≤◌, ◌<◌, min}
use mathlib.Core.Path.{◌≡◌}
use mathlib.Core.List.{List, [], ◌∷◌, map}
use native.Mathlib.Omega.{arith}
use lib.ListN.{length, set}
use lib.Ieee.{Float}
use Rattle.order.specs.Entries.{first}
use Rattle.tidy_kept.proofs.FieldsLaid.{LayingField, field-none, field-same, field_room, field-more, field-count, field-all}
use Rattle.tidy_speeds_entries.specs.Speed.{SpeedEntry, speed_on_row}
use Rattle.tidy_speeds_entries.specs.LaidSpeeds.{ratio_of, delay_of, unit_of, least_of}
use Rattle.tidy_speeds_entries.specs.inside.LaidRooms.{LaidRooms}

-- of the whole list `left` is still to come
pub record LayingSpeeds (whole left : List SpeedEntry) (beats_old beats_new ratios_old ratios_new delays_old delays_new : List Float) (units_old units_new : List ℕ) (count : ℕ) : Type 0 where
  pub beats_so : LayingField speed_on_row first whole left beats_old beats_new count
  pub ratios_so : LayingField speed_on_row ratio_of whole left ratios_old ratios_new count
  pub delays_so : LayingField speed_on_row delay_of whole left delays_old delays_new count
  pub units_so : LayingField speed_on_row unit_of whole left units_old units_new count

pub speeds-none : (whole left : List SpeedEntry) (beats_old ratios_old delays_old : List Float) (units_old : List ℕ) → left ≡ whole → LayingSpeeds whole left beats_old beats_old ratios_old ratios_old delays_old delays_old units_old units_old 0
speeds-none whole left beats_old ratios_old delays_old units_old e = record {
  beats_so = field-none speed_on_row first whole left beats_old e;
  ratios_so = field-none speed_on_row ratio_of whole left ratios_old e;
  delays_so = field-none speed_on_row delay_of whole left delays_old e;
  units_so = field-none speed_on_row unit_of whole left units_old e;
}

module _ (whole left : List SpeedEntry) (beats_old beats_new ratios_old ratios_new delays_old delays_new : List Float) (units_old units_new : List ℕ) (count : ℕ)
    (p : LayingSpeeds whole left beats_old beats_new ratios_old ratios_new delays_old delays_new units_old units_new count) where
  pub speeds-same : (other : List SpeedEntry) → left ≡ other → LayingSpeeds whole other beats_old beats_new ratios_old ratios_new delays_old delays_new units_old units_new count
  speeds-same other e = record {
    beats_so = field-same speed_on_row first whole left beats_old beats_new count p.beats_so other e;
    ratios_so = field-same speed_on_row ratio_of whole left ratios_old ratios_new count p.ratios_so other e;
    delays_so = field-same speed_on_row delay_of whole left delays_old delays_new count p.delays_so other e;
    units_so = field-same speed_on_row unit_of whole left units_old units_new count p.units_so other e;
  }

  module _ (e : SpeedEntry) (less : List SpeedEntry) (is : left ≡ e ∷ less) where
    pub speeds-room : length whole ≤ (least_of (length beats_old) (length ratios_old) (length delays_old) (length units_old)) → (count < length beats_new) × (count < length ratios_new) × (count < length delays_new) × (count < length units_new)
    speeds-room h = (
      field_room speed_on_row first whole left beats_old beats_new count p.beats_so e less is (omega arith),
      field_room speed_on_row ratio_of whole left ratios_old ratios_new count p.ratios_so e less is (omega arith),
      field_room speed_on_row delay_of whole left delays_old delays_new count p.delays_so e less is (omega arith),
      field_room speed_on_row unit_of whole left units_old units_new count p.units_so e less is (omega arith),
    )

    pub speeds-more : (beats_next ratios_next delays_next : List Float) (units_next : List ℕ) → (count < length beats_new) × (count < length ratios_new) × (count < length delays_new) × (count < length units_new)
        → beats_next ≡ set beats_new count (first (speed_on_row e)) → ratios_next ≡ set ratios_new count (ratio_of (speed_on_row e)) → delays_next ≡ set delays_new count (delay_of (speed_on_row e)) → units_next ≡ set units_new count (unit_of (speed_on_row e))
        → LayingSpeeds whole less beats_old beats_next ratios_old ratios_next delays_old delays_next units_old units_next (count + 1)
    speeds-more beats_next ratios_next delays_next units_next h beats_is ratios_is delays_is units_is = record {
      beats_so = field-more speed_on_row first whole left beats_old beats_new count p.beats_so e less is beats_next beats_is h.0;
      ratios_so = field-more speed_on_row ratio_of whole left ratios_old ratios_new count p.ratios_so e less is ratios_next ratios_is h.1;
      delays_so = field-more speed_on_row delay_of whole left delays_old delays_new count p.delays_so e less is delays_next delays_is h.2;
      units_so = field-more speed_on_row unit_of whole left units_old units_new count p.units_so e less is units_next units_is h.3;
    }

  module _ (is : left ≡ []) where
    pub speeds-count : count ≡ length whole
    speeds-count = field-count speed_on_row first whole left beats_old beats_new count p.beats_so is

    pub speeds-all : LaidRooms (map speed_on_row whole) beats_old beats_new ratios_old ratios_new delays_old delays_new units_old units_new
    speeds-all = record {
      beats_are = field-all speed_on_row first whole left beats_old beats_new count p.beats_so is;
      ratios_are = field-all speed_on_row ratio_of whole left ratios_old ratios_new count p.ratios_so is;
      delays_are = field-all speed_on_row delay_of whole left delays_old delays_new count p.delays_so is;
      units_are = field-all speed_on_row unit_of whole left units_old units_new count p.units_so is;
    }
