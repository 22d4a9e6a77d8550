-- What assembly writes is a tidy timing: the clock, the lookups and SM stops take its lists; the clock refuses just the offsets that are beyond their limit. Assumes nothing.
use Prim.Native.Nat.{ℕ, ◌%◌, ◌≤◌}
use mathlib.Core.Path.{◌≡◌, refl, ◌∙◌}
use mathlib.Core.Bool.{Bool, true, false}
use mathlib.Core.List.{List, map, map-id}
use borrow.Author.Tests.{eq-eqb}
use lib.ListN.{length, length-map}
use lib.Ieee.{Float}
use Rattle.picks.specs.Pick.{pick}
use Rattle.limits.specs.declared.Kind.TheVariants.{Beat, Value, Pause, Offset}
use Rattle.limits.specs.Numbers.{range_of, in_range}
use Rattle.order.specs.Entries.{first, second}
use Rattle.limits.specs.Refusals.{lower}
use Rattle.limits.proofs.NoRefusal.{lower-none}
use Rattle.process_raw.specs.RawLists.{raw_numbers}
use Rattle.chart.specs.Timing.{Timing, timing}
use Rattle.clock_tests.specs.TimingNumbers.{timing_lists_number, offset_number, offsets_number, order_number, timing_number, beat_number}
use Rattle.clock.specs.Question.{fresh_cursor, question}
use Rattle.clock_histories.proofs.FreshNumber.{fresh-number}
use Rattle.lookup.specs.Lookups.{lookup_lists, judgable_number}
use Rattle.stops_for_sm.specs.Merging.{sources}
use Rattle.stops_for_sm.specs.Filling as filling
use Rattle.stops_for_sm.specs.Filling.{flat}
use Rattle.chart.specs.declared.TimingFormat.{TimingFormat}
use Rattle.process.specs.ByFormat.{ThreeLists}
use Rattle.chart.specs.ChartColumns.{list_columns}
use Rattle.process_raw.specs.LentLists.{three_columns}
use Rattle.assembly_warps.specs.MergedWarps.{warps_number, three_number, merged_lists}
use Rattle.assembly_rows.specs.AssembledRows.{change_by, assembled_rows}
use Rattle.assembly_rows.proofs.QuantizedTaken.{quantized-taken}
use Rattle.assembly_tempos.specs.AssembledTempos.{assembled_tempos, assembled_stops, assembled_warps}
use Rattle.assembly_tempos.proofs.WorkColumns.{merged-stops, stops_on_rows, merged-warps}
use Rattle.assembly.specs.Assembly.{list_tests, assembled_delays, assembled_fakes}
use Rattle.assembly_laws.proofs.RowLists.{TidyRows, lengths-tidy, pauses-tidy}
use Rattle.assembly_laws.proofs.TidiedTempos.{TidyTempos}
use Rattle.assembly_laws.proofs.FlatStops.{flat-taken}
use Rattle.assembly_laws.proofs.ProcessedTempos as processed
use Rattle.assembly_rows.specs.declared.Meaning.TheVariants.{Lengths, Values}

-- ---- lists that are assembled as they are given

pub delays-tidy : (beats values : List Float) → list_tests beats values ≡ 0 → TidyRows (range_of Pause) (assembled_delays beats values)
delays-tidy beats values h = pauses-tidy (change_by Values) beats values (quantized-taken beats values Values h)

pub fakes-tidy : (beats lengths : List Float) → list_tests beats lengths ≡ 0 → TidyRows (range_of Value) (assembled_fakes beats lengths)
fakes-tidy beats lengths h = lengths-tidy (change_by Lengths) beats lengths (quantized-taken beats lengths Lengths h)

-- ---- lists that are processed first: raw lists that are taken, and no more warps than a list may have
module _ (format : TimingFormat) (tempo_beats tempo_values stop_beats stop_values warp_beats warp_lengths : List Float) (taken : three_number (three_columns tempo_beats tempo_values stop_beats stop_values warp_beats warp_lengths) ≡ 0) where
  abbrev lists : ThreeLists
  lists = merged_lists format (three_columns tempo_beats tempo_values stop_beats stop_values warp_beats warp_lengths)

  -- stops are on rows, so that quantising them again changes nothing
  stops-are : assembled_stops lists ≡ assembled_rows (change_by Values) (map first lists.stops) (map second lists.stops)
  unfolding assembled_rows
  stops-are = rw (stops_on_rows format (three_columns tempo_beats tempo_values stop_beats stop_values warp_beats warp_lengths) taken, map-id (map second lists.stops))

  pub stops-tidy : TidyRows (range_of Pause) (assembled_stops lists)
  stops-tidy =
      rw stops-are
      (pauses-tidy (change_by Values) (map first lists.stops) (map second lists.stops)
      (quantized-taken (map first lists.stops) (map second lists.stops) Values (merged-stops format (three_columns tempo_beats tempo_values stop_beats stop_values warp_beats warp_lengths) taken)))

  pub warps-tidy : length lists.warps ≤ 1024 → TidyRows (range_of Value) (assembled_warps lists)
  warps-tidy few =
      lengths-tidy (change_by Lengths) (map first lists.warps) (map second lists.warps)
      (quantized-taken (map first lists.warps) (map second lists.warps) Lengths (merged-warps format (three_columns tempo_beats tempo_values stop_beats stop_values warp_beats warp_lengths) taken (rw (length-map lists.warps first) few)))

  -- tempos start at beat 0, rise strictly by row, and none is 0
  pub tempos-tidy : TidyTempos (assembled_tempos lists)
  tempos-tidy = processed.tempos-tidy format tempo_beats tempo_values stop_beats stop_values (lower-none (raw_numbers tempo_beats tempo_values stop_beats stop_values) (warps_number (list_columns warp_beats warp_lengths)) taken).0

  -- ---- all lists
  module _ (few : length lists.warps ≤ 1024) (delay_beats delay_values : List Float) (delays : list_tests delay_beats delay_values ≡ 0) where
    -- the timing that is written
    abbrev pub written : Timing
    written =
        timing (map first (assembled_tempos lists)) (map second (assembled_tempos lists)) (map first (assembled_stops lists)) (map second (assembled_stops lists)) (map first (assembled_delays delay_beats delay_values)) (map second (assembled_delays delay_beats delay_values)) (map first (assembled_warps lists)) (map second (assembled_warps lists))

    -- of it the clock asks only that both offsets are within their limit, and refuses with 4 otherwise
    pub offset-asked : (offset global : Float) → timing_number written offset global ≡ pick (in_range (range_of Offset) offset) (pick (in_range (range_of Offset) global) 0 4) 4
    unfolding timing_number timing_lists_number offsets_number offset_number order_number lower
    offset-asked offset global =
        let t = tempos-tidy in
        let s = stops-tidy in
        let d = delays-tidy delay_beats delay_values delays in
        let w = warps-tidy few in
        rw (t.taken, s.taken, d.taken, w.taken, t.rising, s.rising, d.rising, w.rising, t.starts) (by (in_range (range_of Offset) offset) (in_range (range_of Offset) global))
      where
        by : (o g : Bool) → lower (lower (pick o 0 4) (pick g 0 4)) 0 ≡ pick o (pick g 0 4) 4
        by true true = refl
        by true false = refl
        by false true = refl
        by false false = refl

    pub clock_takes : (offset global : Float) → in_range (range_of Offset) offset ≡ true → in_range (range_of Offset) global ≡ true → timing_number written offset global ≡ 0
    clock_takes offset global o g = offset-asked offset global ∙ rw (o, g)

    -- and so does a fresh cursor that is asked an allowed beat
    pub first-question : (offset global beat : Float) → beat_number beat ≡ 0
        → (question written (fresh_cursor offset global) offset global beat).number ≡ pick (in_range (range_of Offset) offset) (pick (in_range (range_of Offset) global) 0 4) 4
    first-question offset global beat allowed = fresh-number written offset global beat allowed ∙ offset-asked offset global

    -- SM stops, with the stops in a flat list and a work list of even length
    pub sm_stops_take : (size : ℕ) → size % 2 ≡ 0
        → filling.sources_number
        (sources (map first (assembled_tempos lists)) (map second (assembled_tempos lists)) (flat (assembled_stops lists)) (map first (assembled_delays delay_beats delay_values)) (map second (assembled_delays delay_beats delay_values)) (map first (assembled_warps lists)) (map second (assembled_warps lists)))
        size
        ≡ 0
    unfolding filling.sources_number lower
    sm_stops_take size even =
        rw (tempos-tidy.taken, flat-taken (range_of Beat) (range_of Pause) (assembled_stops lists) stops-tidy.taken, (delays-tidy delay_beats delay_values delays).taken, (warps-tidy few).taken, eq-eqb (size % 2) 0 even)

    -- the lookups, for any row or beat within the limit
    pub lookups_take : (fake_beats fake_lengths : List Float) → list_tests fake_beats fake_lengths ≡ 0
        → judgable_number
        (lookup_lists
        (map first (assembled_stops lists)) (map second (assembled_stops lists))
        (map first (assembled_delays delay_beats delay_values)) (map second (assembled_delays delay_beats delay_values))
        (map first (assembled_warps lists)) (map second (assembled_warps lists))
        (map first (assembled_fakes fake_beats fake_lengths)) (map second (assembled_fakes fake_beats fake_lengths)))
        true
        ≡ 0
    unfolding lower
    lookups_take fake_beats fake_lengths fakes =
        rw (stops-tidy.found, (delays-tidy delay_beats delay_values delays).found, (warps-tidy few).found, (fakes-tidy fake_beats fake_lengths fakes).found)
