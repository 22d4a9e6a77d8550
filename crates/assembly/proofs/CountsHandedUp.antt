-- What the lists hand up is how many of their raw entries were off the grid, and after a refusal none. Assumes nothing.
use Prim.Native.Nat.{ℕ, ◌≤◌}
use mathlib.Core.Path.{◌≡◌, sym, ap, ◌∙◌}
use mathlib.Core.List.{List, map}
use native.Mathlib.Omega.{arith}
use borrow.Author.Tests.{ne_eqb}
use lib.Dec.{eqb}
use lib.ListN.{length}
use lib.Ieee.{Float}
use Rattle.picks.specs.Pick.{pick}
use Rattle.limits.proofs.ListTaken.{list-taken}
use Rattle.limits.proofs.NoRefusal.{lower-none}
use Rattle.order.specs.Entries.{entries, first}
use Rattle.order.proofs.Columns.{first-entries}
use Rattle.columns_each.specs.OffGrid.{moved_of, moved_in, moved_under, always, round_count}
use Rattle.columns_each.proofs.OffGridCounts.{all-counted, moved-few, few-held}
use Rattle.tidy_kept.proofs.ShortestColumn.{many-entries}
use Rattle.tidy_speeds_entries.specs.Speed.{speed_entries}
use Rattle.tidy_speeds.proofs.ListTaken.{speeds-taken}
use Rattle.chart.specs.declared.TimingFormat.{TimingFormat}
use Rattle.chart.specs.ChartColumns.{ListColumns, SpeedColumns, ChartColumns}
use Rattle.assembly_moved.specs.MovedRaw.{stays_in, moved_raw}
use Rattle.assembly_speeds.proofs.NarrowedSpeeds.{beats_so_lem}
use Rattle.assembly_warps.specs.MergedWarps.{three_number}
use Rattle.assembly_tempos.proofs.WorkColumns.{lengths-few}
use Rattle.assembly_tempos.proofs.MadeWarps.{made_not_counted}
use Rattle.assembly.specs.declared.MovedBeats.{MovedBeats}
use Rattle.assembly.specs.Assembly.{list_tests, others_number, seven_number, processed_together, processed_chart, moved_list, moved_beats, none_moved}
use Rattle.assembly.proofs.Ends.{others-taken}

-- the count of a call that took its list
pub under-taken : {number moved handed : ℕ} → number ≡ 0 → handed ≡ moved_under number moved → handed ≡ moved
under-taken {number} {moved} h e = e ∙ ap (λ (n : ℕ). moved_under n moved) h

-- raw tempos or stops: no list that is taken counts round
raw-counted : (format : TimingFormat) (beats values : List Float) {handed : ℕ} → length beats ≤ 1024 → handed ≡ round_count (moved_raw format beats values) → handed ≡ moved_raw format beats values
raw-counted format beats values few e =
    let list = entries beats values in
    e ∙ few-held (moved_raw format beats values) (omega (arith, moved-few (stays_in format) first list, many-entries beats values))

-- a column is what is counted of its list
list_counted : (list : ListColumns) {handed : ℕ} → list_tests list.beats list.values ≡ 0 → handed ≡ moved_in list.beats → handed ≡ moved_list list
list_counted list taken e =
    e ∙ ap moved_in (sym (first-entries list.beats list.values (list-taken taken).even)) ∙ sym (all-counted first (entries list.beats list.values))

module _ (format : TimingFormat) (raw : ChartColumns) (moved : MovedBeats) where
  pub record HandedUp : Type 0 where
    pub tempos_up : moved.tempos ≡ round_count (moved_raw format raw.tempos.beats raw.tempos.values)
    pub stops_up : moved.stops ≡ round_count (moved_raw format raw.stops.beats raw.stops.values)
    pub delays_up : moved.delays ≡ moved_in raw.delays.beats
    pub warps_up : moved.warps ≡ moved_in (map first (processed_chart format raw).warps)
    pub speeds_up : moved.speeds ≡ moved_in raw.speeds.beats
    pub scrolls_up : moved.scrolls ≡ moved_in raw.scrolls.beats
    pub fakes_up : moved.fakes ≡ moved_in raw.fakes.beats

  pub all_handed_up : seven_number raw ≡ 0 → HandedUp → moved ≡ moved_beats format raw
  all_handed_up taken up =
      let both = lower-none (three_number (processed_together raw)) (others_number raw.delays raw.speeds raw.scrolls raw.fakes) taken in
      let few = lengths-few (processed_together raw) both.0 in
      let others = others-taken raw.delays raw.speeds raw.scrolls raw.fakes both.1 in
      let list = raw.speeds in
      let even = speeds-taken others.speeds in
      let tempos = raw-counted format raw.tempos.beats raw.tempos.values few.tempos up.tempos_up in
      let stops = raw-counted format raw.stops.beats raw.stops.values few.stops up.stops_up in
      let delays = list_counted raw.delays others.delays up.delays_up in
      let warps = up.warps_up ∙ made_not_counted format (processed_together raw) both.0 in
      let speeds =
      up.speeds_up ∙ ap moved_in (sym (beats_so_lem list.beats list.ratios list.delays list.units even.ratios_even even.delays_even even.units_even))
      ∙ sym (all-counted first (speed_entries list.beats list.ratios list.delays list.units)) in
      let scrolls = list_counted raw.scrolls others.scrolls up.scrolls_up in
      let fakes = list_counted raw.fakes others.fakes up.fakes_up in
      λ i. record { tempos = tempos i; stops = stops i; delays = delays i; warps = warps i; speeds = speeds i; scrolls = scrolls i; fakes = fakes i }

-- after a refusal
pub refused-up : (format : TimingFormat) (raw : ChartColumns) (given : ℕ) {number warps : ℕ} → (number ≡ 0 → ⊥) → warps ≡ moved_under number given
    → ◌≡◌ {A = MovedBeats} (record { tempos = 0; stops = 0; delays = 0; warps = warps; speeds = 0; scrolls = 0; fakes = 0 }) (pick (eqb number 0) (moved_beats format raw) none_moved)
refused-up format raw given {number = number} h e =
    let none = rw (ne_eqb number 0 h) at e in
    rw (ne_eqb number 0 h) (λ i. record { tempos = 0; stops = 0; delays = 0; warps = none i; speeds = 0; scrolls = 0; fakes = 0 })
