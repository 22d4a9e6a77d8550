-- Where rows rise and no ratio is near the one before it, every entry is kept, and its columns over the fronts of the rooms are the outcome. Assumes nothing.
use Prim.Native.Nat.{ℕ, ◌≤◌}
use mathlib.Core.Path.{◌≡◌, sym, ap, ◌∙◌}
use mathlib.Core.Bool.{true}
use mathlib.Core.List.{List, map}
use native.Mathlib.Omega.{arith}
use lib.ListN.{length}
use lib.Ieee.{Float}
use Rattle.limits.specs.Neighbours.{every_two}
use Rattle.tidy_kept.specs.Near.{far_from}
use Rattle.tidy_by_rows.specs.ByMarks.{row_rises}
use Rattle.tidy_by_rows.proofs.ByMarks.{rising_never_falls}
use Rattle.tidy_speeds_entries.specs.Speed.{speed_entries, speed_on_row}
use Rattle.tidy_speeds_entries.specs.LaidSpeeds.{least_of}
use Rattle.tidy_speeds_entries.specs.inside.LaidRooms.{LaidRooms}
use Rattle.tidy_speeds_entries.proofs.SpeedColumns.{many-speeds}
use Rattle.tidy_speeds_ordered.specs.inside.Apart.{ColumnsApart}
use Rattle.tidy_speeds_ordered.specs.OrderedSpeeds.{kept_speeds, OrderedTidied}
use Rattle.tidy_speeds_ordered.proofs.ColumnsLaid.{apart-kept}
use Rattle.tidy_speeds_ordered.proofs.KeptInOnePass.{ordered-laid}
use Rattle.chart.specs.ChartColumns.{speed_columns}
use Rattle.columns.specs.declared.Outcome.{Outcome}
use Rattle.tidy_speeds.specs.SpeedTidying.{speed_list_number, SpeedsTidied}
use Rattle.tidy_speeds.proofs.ListTaken.{speeds-taken}
use Rattle.tidy_speeds.proofs.Outcomes.{ordered-number, ordered-list}

module _ (beats ratios delays : List Float) (units : List ℕ) (h : speed_list_number beats ratios delays units ≡ 0) (rising : every_two row_rises beats ≡ true) where
  -- as a list in order
  pub as_ordered : {outcome : Outcome} {beats_old beats_new ratios_old ratios_new delays_old delays_new : List Float} {units_old units_new : List ℕ}
      → OrderedTidied (speed_columns beats ratios delays units) outcome (speed_columns beats_old ratios_old delays_old units_old) (speed_columns beats_new ratios_new delays_new units_new)
      → SpeedsTidied beats ratios delays units outcome beats_old beats_new ratios_old ratios_new delays_old delays_new units_old units_new
  as_ordered p = let ordered = rising_never_falls beats rising in rw (ordered-number beats ratios delays units h ordered, ordered-list beats ratios delays units h ordered) p

  module _ (far : every_two far_from ratios ≡ true) where
    pub columns-apart : ColumnsApart beats ratios delays units
    columns-apart =
        let taken = speeds-taken h in
        record { ratios_even = sym taken.ratios_even; delays_even = sym taken.delays_even; units_even = sym taken.units_even; allowed = taken.beats_in; rising = rising; far = far }

    many : length (kept_speeds (speed_entries beats ratios delays units)) ≡ length beats
    many =
        let taken = speeds-taken h in
        omega (arith, ap length (apart-kept beats ratios delays units columns-apart), many-speeds ratios delays units beats, taken.ratios_even, taken.delays_even, taken.units_even)

    pub columns-tidied : (beats_old ratios_old delays_old : List Float) (units_old : List ℕ) {beats_new ratios_new delays_new : List Float} {units_new : List ℕ}
        → length beats ≤ least_of (length beats_old) (length ratios_old) (length delays_old) (length units_old)
        → LaidRooms (map speed_on_row (speed_entries beats ratios delays units)) beats_old beats_new ratios_old ratios_new delays_old delays_new units_old units_new
        → SpeedsTidied beats ratios delays units (record { number = 0; count = length beats }) beats_old beats_new ratios_old ratios_new delays_old delays_new units_old units_new
    columns-tidied beats_old ratios_old delays_old units_old room l =
        as_ordered
        (ordered-laid (speed_entries beats ratios delays units) beats_old ratios_old delays_old units_old (length beats) _ _ _ _ (omega (arith, many, room)) (sym many)
        (rw (apart-kept beats ratios delays units columns-apart) l))
