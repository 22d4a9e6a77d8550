-- Work columns: long enough for what processing makes, read back as the lists that it made, and fit to be assembled. Assumes nothing.
use Prim.Native.Nat.{ℕ, ◌+◌, ◌*◌, ◌≤◌, max}
use mathlib.Core.Path.{◌≡◌, sym, ap, ◌∙◌}
use mathlib.Core.Bool.{Bool, true, false}
use mathlib.Core.List.{List, [], ◌∷◌, ◌++◌, map, map-append}
use lib.ListN.{length, take, length-map, length-append, length-take}
use lib.Ieee.{Float}
use native.Mathlib.Omega.{arith}
use Rattle.picks.specs.Pick.{pick}
use Rattle.rows.specs.Rows.{quantized}
use Rattle.limits.specs.declared.Kind.TheVariants.{Beat, Value}
use Rattle.limits.specs.Numbers.{range_of, in_range, every}
use Rattle.limits.proofs.NoRefusal.{lower-none}
use Rattle.limits.proofs.ListTaken.{list-taken, list-passes}
use Rattle.order.specs.Entries.{entries, first, second}
use Rattle.order.proofs.Columns.{length-entries, first-entries, second-entries, entries-columns}
use Rattle.columns.specs.Laying.{given, LaidList}
use Rattle.tidy_rows.specs.RowTidying.{rows_number}
use Rattle.process_raw.specs.declared.Processed as processed
use Rattle.process_raw.specs.RawLists.{raw_numbers, list_room}
use Rattle.process_raw.proofs.BothTaken.{both-taken}
use Rattle.process_sm_laws.proofs.ChangesTaken.{same-columns}
use Rattle.chart.specs.declared.TimingFormat.{TimingFormat}
use Rattle.process.specs.ByFormat.{ThreeLists, processed_lists}
use Rattle.process.specs.ListsTaken.{ListsTaken}
use Rattle.process.proofs.ListsTaken.{lists-taken}
use Rattle.process.proofs.TidiedOnGrid.{tempos_on_rows_lem}
use Rattle.process.proofs.ValuesF32.{values_f32}
use Rattle.process_raw.specs.LentLists.{ThreeColumns, three_columns}
use Rattle.assembly_warps.specs.MergedWarps.{warps_number, three_number, merged_lists, ListsOver}
use Rattle.assembly_marks.specs.LentMarks.{MarkColumns, with_made}
use Rattle.assembly_rows.proofs.Outcomes.{number_with_room}
use Rattle.assembly_rows.proofs.NarrowedFront.{front-laid}
use Rattle.assembly_tempos.specs.declared.AssembledTempos.{AssembledTempos}
use Rattle.assembly_tempos.specs.AssembledTempos.{made_warps, ListWritten, ThreeLaid}
use Rattle.assembly_tempos.specs.inside.ProcessedColumns.{Held, Processed, lists_of, WorkRooms}

-- ---- read back

front-columns : {list : List (Float × Float)} {count : ℕ} {first_old first_new second_old second_new : List Float} → LaidList 0 list count first_old first_new second_old second_new
    → (take count first_new ≡ map first list) × (take count second_new ≡ map second list)
unfolding given
front-columns {list} {count} {first_old} {first_new} {second_old} {second_new} l = (
  rw l.first_is (front-laid (map first list) first_old count (l.counted ∙ sym (length-map list first))),
  rw l.second_is (front-laid (map second list) second_old count (l.counted ∙ sym (length-map list second))),
)

pub record Fronts (lists : ThreeLists) (outcome : processed.Processed) (columns : ThreeColumns) : Type 0 where
  pub tempo_beats_are : take outcome.tempos columns.tempos.beats ≡ map first lists.tempos
  pub tempo_values_are : take outcome.tempos columns.tempos.values ≡ map second lists.tempos
  pub stop_beats_are : take outcome.stops columns.stops.beats ≡ map first lists.stops
  pub stop_values_are : take outcome.stops columns.stops.values ≡ map second lists.stops
  pub warp_beats_are : take outcome.warps columns.warps.beats ≡ map first lists.warps
  pub warp_lengths_are : take outcome.warps columns.warps.values ≡ map second lists.warps
  pub offset_is : outcome.offset ≡ lists.offset
  pub tempos_fit : outcome.tempos ≡ length lists.tempos
  pub stops_fit : outcome.stops ≡ length lists.stops
  pub warps_fit : outcome.warps ≡ length lists.warps

module _ {number : ℕ} {lists : ThreeLists} {outcome : processed.Processed} {old new : ThreeColumns} (p : ListsOver number lists outcome old new) where
  -- where there is room, the number is that of the tests
  pub number_is : WorkRooms number lists old → outcome.number ≡ number
  number_is w =
      p.number
      ∙ rw (number_with_room number (length lists.stops) (list_room old.stops) w.stops, number_with_room number (length lists.warps) (list_room old.warps) w.warps, number_with_room number (length lists.tempos) (list_room old.tempos) w.tempos)

  pub fronts : outcome.number ≡ 0 → Fronts lists outcome new
  unfolding given
  fronts h =
      let t : ListWritten 0 lists.tempos outcome.tempos old.tempos new.tempos = rw h at p.tempos_laid in
      let s : ListWritten 0 lists.stops outcome.stops old.stops new.stops = rw h at p.stops_laid in
      let w : ListWritten 0 lists.warps outcome.warps old.warps new.warps = rw h at p.warps_laid in
      record {
        tempo_beats_are = (front-columns t).0;
        tempo_values_are = (front-columns t).1;
        stop_beats_are = (front-columns s).0;
        stop_values_are = (front-columns s).1;
        warp_beats_are = (front-columns w).0;
        warp_lengths_are = (front-columns w).1;
        offset_is = rw h at p.offset_is;
        tempos_fit = t.counted;
        stops_fit = s.counted;
        warps_fit = w.counted;
      }

-- the first entries of work columns, as many as were processed
abbrev pub front_columns : processed.Processed → ThreeColumns → ThreeColumns
front_columns outcome work =
    three_columns (take outcome.tempos work.tempos.beats) (take outcome.tempos work.tempos.values)
    (take outcome.stops work.stops.beats) (take outcome.stops work.stops.values)
    (take outcome.warps work.warps.beats) (take outcome.warps work.warps.values)

module _ {lists : ThreeLists} {outcome : processed.Processed} {work : ThreeColumns} (f : Fronts lists outcome work) where
  lists-read : lists_of (front_columns outcome work) outcome.offset ≡ lists
  lists-read =
      rw (f.tempo_beats_are, f.tempo_values_are, f.stop_beats_are, f.stop_values_are, f.warp_beats_are, f.warp_lengths_are, f.offset_is, entries-columns lists.tempos, entries-columns lists.stops, entries-columns lists.warps)

  -- what is assembled of the columns is assembled of the lists
  pub as_read : {raw later most : ℕ} {r : AssembledTempos} {old new : ThreeColumns} {left : List ℕ} (marks : MarkColumns) (behind made : ℕ) → raw ≡ 0 → behind ≡ made
      → ThreeLaid 0 later most (lists_of (front_columns outcome work) outcome.offset) (with_made behind marks) r old new left
      → ThreeLaid raw later most lists (with_made made marks) r old new left
  as_read marks behind made h m q = rw h (rw (lists-read, m) at q)

inside : (count : ℕ) (column : List Float) {front : List Float} → take count column ≡ front → (size : ℕ) → length front ≡ size → count ≡ size → count ≤ length column
inside count column e size f c = omega (arith, ap length e, length-take count column)

-- as many as were processed are there
pub record Inside (outcome : processed.Processed) (work : ThreeColumns) : Type 0 where
  pub tempo_beats_in : outcome.tempos ≤ length work.tempos.beats
  pub tempo_values_in : outcome.tempos ≤ length work.tempos.values
  pub stop_beats_in : outcome.stops ≤ length work.stops.beats
  pub stop_values_in : outcome.stops ≤ length work.stops.values
  pub warp_beats_in : outcome.warps ≤ length work.warps.beats
  pub warp_lengths_in : outcome.warps ≤ length work.warps.values

pub fronts-inside : {lists : ThreeLists} {outcome : processed.Processed} {work : ThreeColumns} → Fronts lists outcome work → Inside outcome work
fronts-inside {lists} f =
    record {
      tempo_beats_in = inside _ _ f.tempo_beats_are (length lists.tempos) (length-map lists.tempos first) f.tempos_fit;
      tempo_values_in = inside _ _ f.tempo_values_are (length lists.tempos) (length-map lists.tempos second) f.tempos_fit;
      stop_beats_in = inside _ _ f.stop_beats_are (length lists.stops) (length-map lists.stops first) f.stops_fit;
      stop_values_in = inside _ _ f.stop_values_are (length lists.stops) (length-map lists.stops second) f.stops_fit;
      warp_beats_in = inside _ _ f.warp_beats_are (length lists.warps) (length-map lists.warps first) f.warps_fit;
      warp_lengths_in = inside _ _ f.warp_lengths_are (length lists.warps) (length-map lists.warps second) f.warps_fit;
    }

-- ---- fit to be assembled

pub every_append : {A : Type 0} (test : A → Bool) (xs ys : List A) → every test xs ≡ true → every test ys ≡ true → every test (xs ++ ys) ≡ true
unfolding every
every_append test [] ys h k = k
every_append test (x ∷ xs) ys h k = go (test x) h (λ rest. every_append test xs ys rest k)
  where
    go : (t : Bool) → pick t (every test xs) false ≡ true → (every test xs ≡ true → every test (xs ++ ys) ≡ true) → pick t (every test (xs ++ ys)) false ≡ true
    go true h rest = rest h
    go false h rest = h

module _ (format : TimingFormat) (raw : ThreeColumns) (taken : three_number raw ≡ 0) where
  two-taken : (raw_numbers raw.tempos.beats raw.tempos.values raw.stops.beats raw.stops.values ≡ 0) × (warps_number raw.warps ≡ 0)
  two-taken = lower-none (raw_numbers raw.tempos.beats raw.tempos.values raw.stops.beats raw.stops.values) (warps_number raw.warps) taken

  lists : ListsTaken (max (length raw.tempos.beats) 1) (length raw.stops.beats) (processed_lists format raw.tempos.beats raw.tempos.values raw.stops.beats raw.stops.values)
  lists = lists-taken format raw.tempos.beats raw.tempos.values raw.stops.beats raw.stops.values two-taken.0

  -- how long the merged lists are
  pub few-tempos : length (merged_lists format raw).tempos ≤ max (length raw.tempos.beats) 1
  few-tempos = omega (arith, lists.few_tempos)

  pub few-stops : length (merged_lists format raw).stops ≤ length raw.stops.beats
  few-stops = lists.few_stops

  pub few-warps : length (merged_lists format raw).warps ≤ length raw.warps.beats + (max (length raw.tempos.beats) 1 + length raw.stops.beats)
  few-warps =
      let made = (processed_lists format raw.tempos.beats raw.tempos.values raw.stops.beats raw.stops.values).warps in
      omega (arith, length-append (entries raw.warps.beats raw.warps.values) made, length-entries raw.warps.beats raw.warps.values (list-taken two-taken.1).even, lists.few_warps)

  -- the given ones and those that are made
  pub warps-merged : length (merged_lists format raw).warps ≡ length raw.warps.beats + made_warps format raw
  warps-merged =
      let made = (processed_lists format raw.tempos.beats raw.tempos.values raw.stops.beats raw.stops.values).warps in
      omega (arith, length-append (entries raw.warps.beats raw.warps.values) made, length-entries raw.warps.beats raw.warps.values (list-taken two-taken.1).even)

  -- the stops are taken, and lie on rows
  pub merged-stops : rows_number (map first (merged_lists format raw).stops) (map second (merged_lists format raw).stops) ≡ 0
  merged-stops = lists.stops

  pub stops_on_rows : map quantized (map first (merged_lists format raw).stops) ≡ map first (merged_lists format raw).stops
  stops_on_rows = lists.on_rows

  -- as many warps as a list may have are taken
  pub merged-warps : length (map first (merged_lists format raw).warps) ≤ 1024
      → rows_number (map first (merged_lists format raw).warps) (map second (merged_lists format raw).warps) ≡ 0
  merged-warps few =
      let made = (processed_lists format raw.tempos.beats raw.tempos.values raw.stops.beats raw.stops.values).warps in
      let merged = entries raw.warps.beats raw.warps.values ++ made in
      let is = list-taken two-taken.1 in
      let beats : every (in_range (range_of Beat)) (map first merged) ≡ true = rw (map-append, first-entries raw.warps.beats raw.warps.values is.even) (every_append (in_range (range_of Beat)) raw.warps.beats (map first made) is.beats_in lists.warp_beats) in
      let lengths : every (in_range (range_of Value)) (map second merged) ≡ true = rw (map-append, second-entries raw.warps.beats raw.warps.values is.even) (every_append (in_range (range_of Value)) raw.warps.values (map second made) is.values_in lists.warp_lengths) in
      list-passes (range_of Beat) (range_of Value) (map first merged) (map second merged) few (same-columns merged) beats lengths

  pub processed-columns : {outcome : processed.Processed} {work : ThreeColumns}
      → Fronts (merged_lists format raw) outcome work
      → Processed (front_columns outcome work)
  processed-columns f =
      let merged = (merged_lists format raw).warps in
      record {
        tempos = rw (f.tempo_beats_are, f.tempo_values_are) (same-columns (processed_lists format raw.tempos.beats raw.tempos.values raw.stops.beats raw.stops.values).tempos);
        tempos_on_rows = rw f.tempo_beats_are (tempos_on_rows_lem format raw.tempos.beats raw.tempos.values raw.stops.beats raw.stops.values two-taken.0);
        stops = rw (f.stop_beats_are, f.stop_values_are) merged-stops;
        on_rows = rw f.stop_beats_are stops_on_rows;
        even = rw (f.warp_beats_are, f.warp_lengths_are) (same-columns merged);
        warps = λ few. rw (f.warp_beats_are, f.warp_lengths_are) (merged-warps (rw f.warp_beats_are at few));
      }

  -- SM's values are f32s
  pub tempos-held : {outcome : processed.Processed} {work : ThreeColumns}
      → Fronts (merged_lists format raw) outcome work
      → Held format (take outcome.tempos work.tempos.values)
  tempos-held f is = rw (f.tempo_values_are, is) (values_f32 raw.tempos.beats raw.tempos.values raw.stops.beats raw.stops.values two-taken.0).0

  pub stops-held : {outcome : processed.Processed} {work : ThreeColumns}
      → Fronts (merged_lists format raw) outcome work
      → Held format (take outcome.stops work.stops.values)
  stops-held f is = rw (f.stop_values_are, is) (values_f32 raw.tempos.beats raw.tempos.values raw.stops.beats raw.stops.values two-taken.0).1

-- lists that are taken are short
pub record ThreeFew (most : ℕ) (lists : ThreeColumns) : Type 0 where
  pub tempos : length lists.tempos.beats ≤ most
  pub stops : length lists.stops.beats ≤ most
  pub warps : length lists.warps.beats ≤ most

pub lengths-few : (lists : ThreeColumns) → three_number lists ≡ 0 → ThreeFew 1024 lists
lengths-few lists taken =
    let two = lower-none (raw_numbers lists.tempos.beats lists.tempos.values lists.stops.beats lists.stops.values) (warps_number lists.warps) taken in
    let both = both-taken two.0 in
    record { tempos = (list-taken both.tempos).few; stops = (list-taken both.stops).few; warps = (list-taken two.1).few }

-- ARRAYS OF ANY LENGTH: where the lists have no more than `most` entries, `most` places hold the tempos and the stops, and three times as many the warps
pub work-rooms : (most : ℕ) (format : TimingFormat) (lists : ThreeColumns) {room warp_room : List Float} → 1 ≤ most → length room ≡ most → length warp_room ≡ 3 * most
    → (three_number lists ≡ 0 → ThreeFew most lists) → WorkRooms (three_number lists) (merged_lists format lists) (three_columns room room room room warp_room warp_room)
work-rooms most format lists some r w few =
    record {
      tempos = λ h. omega (arith, few-tempos format lists h, (few h).tempos);
      stops = λ h. omega (arith, few-stops format lists h, (few h).stops);
      warps = λ h. omega (arith, few-warps format lists h, (few h).tempos, (few h).stops, (few h).warps);
    }
