-- Warps that fit, with the marks of the given ones and 1 for each that is made: laid without marks where all are the same or beats rise, and tidied with them elsewhere.
-- Assumes nothing.
use Prim.Native.Nat.{ℕ, zero, suc, ◌≤◌, min}
use mathlib.Core.Path.{◌≡◌, refl, sym, ap, ap₂, ◌∙◌}
use mathlib.Core.Bool.{true}
use mathlib.Core.List.{List, map, append-nil}
use native.Mathlib.Omega.{arith}
use lib.ListN.{length, take, drop, replicate, length-map}
use lib.Seq.{length-take-le, take_at}
use lib.Ieee.{Float, lt}
use Rattle.rows.specs.Rows.{quantized}
use Rattle.limits.specs.Numbers.{every}
use Rattle.limits.specs.Neighbours.{every_two}
use Rattle.limits.proofs.ListTaken.{list-taken}
use Rattle.order.specs.Order.{laid}
use Rattle.order.specs.Entries.{entries, first}
use Rattle.order.proofs.Columns.{first-entries, entries-columns}
use Rattle.columns.specs.declared.Outcome.{Outcome}
use Rattle.columns.specs.Each.{laid_each}
use Rattle.columns.specs.Laying.{given, LaidPair, LaidList}
use Rattle.columns.proofs.Rooms.{number-taken, list_of_pair}
use Rattle.columns.proofs.EachOverFront.{copied_over_front}
use Rattle.columns_each.specs.declared.ListOutcome.{ListOutcome}
use Rattle.columns_each.specs.OffGrid.{moved_in, moved_under}
use Rattle.tidy_rows.specs.RowTidying.{tidy_rows}
use Rattle.tidy_rows.proofs.NoLonger.{tidy_no_longer}
use Rattle.tidy_warps.specs.Marks.{Warp, is_mark, length_of}
use Rattle.tidy_warps.specs.WarpTidying.{tidy_warps, tidy_marks, marked_warps_number, WarpsTidied}
use Rattle.tidy_warps.proofs.MarkedTaken.{marks-pass, both-taken}
use Rattle.tidy_warps.proofs.WithoutMarks as tidied
use Rattle.assembly_rows.specs.declared.Meaning.TheVariants.{Lengths}
use Rattle.assembly_rows.specs.AssembledRows.{narrowed_entry, change_by, assembled_rows, EachLaid, RowsUntested, narrowed_front}
use Rattle.assembly_rows.proofs.QuantizedTaken.{quantized-taken}
use Rattle.assembly_rows.proofs.RisingRows.{rising-values}
use Rattle.assembly_rows.proofs.Untested.{rising, untested_taken}
use Rattle.assembly_marks.specs.AssembledMarks.{merged_marks, assembled_marks, all_the_same}
use Rattle.assembly_marks.proofs.CarriedMarks.{as_many_marks}
use Rattle.assembly_marks.proofs.MergedMarks.{merged-length}
use Rattle.assembly_marks.proofs.SameMarks.{same-front}
use Rattle.process_raw.specs.LentLists.{ThreeColumns}
use Rattle.assembly_tempos.specs.AssembledTempos.{assembled_warps, fit_number}
use Rattle.assembly_tempos.specs.inside.ProcessedColumns.{Processed, MarksBeside, WarpsFit, WarpsWritten, lists_of}
use Rattle.assembly_tempos.proofs.ProcessedColumns.{fitting, warps-are}
use Rattle.assembly_tempos.proofs.WorkColumns.{every_append}

-- where none is made
pub none_made : (marks : List ℕ) (made : ℕ) → made ≡ 0 → merged_marks marks made ≡ marks
none_made marks made h = rw h (append-nil marks)

-- ---- warps that fit are written
module _ (beats lengths : List Float) (marks : List ℕ) (beats_old lengths_old : List Float) (marks_old : List ℕ)
    (fit : WarpsFit beats lengths marks (length beats_old) (length lengths_old) (length marks_old)) where
  abbrev result : List (Float × Float)
  result = assembled_rows (change_by Lengths) beats lengths

  pub few-beats : length beats ≤ 1024
  few-beats = (list-taken fit.list).few

  pub even-lengths : length beats ≡ length lengths
  even-lengths = (list-taken fit.list).even

  both : length lengths ≡ length marks
  both = sym even-lengths ∙ fit.even

  -- what is left of them
  as_many_rows : length result ≡ length (tidy_rows (map quantized beats) (map quantized lengths))
  unfolding assembled_rows
  as_many_rows = length-map (tidy_rows (map quantized beats) (map quantized lengths)) narrowed_entry

  no_more : length result ≤ length beats
  no_more = omega (arith, as_many_rows, tidy_no_longer (map quantized beats) (map quantized lengths), length-map beats quantized)

  -- ---- beats and lengths laid, whichever way
  module _ {outcome : Outcome} {beats_new lengths_new : List Float} (p : LaidPair 0 result outcome beats_old beats_new lengths_old lengths_new) where
    none : outcome.number ≡ 0
    none = p.number ∙ sym (number-taken 0 (length result) _ refl (omega (arith, fit.fits)))

    laid-list : LaidList 0 result outcome.count beats_old beats_new lengths_old lengths_new
    laid-list = list_of_pair p none

    counted : outcome.count ≡ length result
    unfolding given
    counted = laid-list.counted

    written : {moved : ℕ} {marks_new : List ℕ} → moved ≡ moved_under outcome.number (moved_in beats) → marks_new ≡ laid (assembled_marks beats marks) marks_old
        → WarpsWritten beats lengths marks (record { outcome = outcome; moved = moved }) beats_old beats_new lengths_old lengths_new marks_old marks_new
    written m k = record { list = laid-list; marks_are = k; moved = m ∙ ap (λ (n : ℕ). moved_under n (moved_in beats)) none }

  -- ---- laid without marks
  module _ {outcome : Outcome} {beats_new lengths_new : List Float} (q : RowsUntested Lengths beats lengths outcome beats_old beats_new lengths_old lengths_new) where
    pair : LaidPair 0 result outcome beats_old beats_new lengths_old lengths_new
    pair = rw (quantized-taken beats lengths Lengths fit.list) at (untested_taken beats lengths Lengths fit.list q)

  -- marks that are all the same: a front of them
  module _ (warps : ListOutcome) {beats_new lengths_new : List Float} (q : RowsUntested Lengths beats lengths warps.outcome beats_old beats_new lengths_old lengths_new) where
    pub marks-inside : warps.outcome.count ≤ length marks
    marks-inside = omega (arith, counted (pair q), no_more, fit.even)

    pub front-written : {marks_new : List ℕ} → warps.moved ≡ moved_under warps.outcome.number (moved_in beats) → all_the_same marks ≡ true
        → marks_new ≡ laid_each (λ (x : ℕ). x) (take warps.outcome.count marks) marks_old
        → WarpsWritten beats lengths marks warps beats_old beats_new lengths_old lengths_new marks_old marks_new
    front-written m same e =
        written (pair q) m
        (e ∙ copied_over_front (take warps.outcome.count marks) marks_old (omega (arith, length-take-le warps.outcome.count marks marks-inside, counted (pair q), fit.fits))
        ∙ ap (λ (l : List ℕ). laid l marks_old) (same-front (map quantized beats) marks warps.outcome.count same (counted (pair q) ∙ sym (as_many_marks beats lengths marks both)) marks-inside))

  -- what is laid, with how many were off the grid
  all-written : {outcome : Outcome} {warps : ListOutcome} {off : ℕ} {beats_new lengths_new : List Float} {marks_new : List ℕ} → LaidPair 0 result outcome beats_old beats_new lengths_old lengths_new
      → warps.outcome ≡ outcome → warps.moved ≡ moved_under outcome.number off → off ≡ moved_in beats → marks_new ≡ laid (assembled_marks beats marks) marks_old
      → WarpsWritten beats lengths marks warps beats_old beats_new lengths_old lengths_new marks_old marks_new
  all-written {outcome} {warps} {off} {beats_new} {lengths_new} p same moved are marks_are =
      let own : LaidPair 0 result warps.outcome beats_old beats_new lengths_old lengths_new = rw same p in
      written own (moved ∙ ap₂ (λ (o : Outcome) (n : ℕ). moved_under o.number n) (sym same) are) marks_are

  -- ---- marks that differ, over beats that rise: as they are
  module _ {quantised : List Float} (e : quantised ≡ map quantized beats) (rise : every_two lt quantised ≡ true) where
    marks-still : assembled_marks beats marks ≡ marks
    unfolding tidy_marks
    marks-still = rising-values beats marks (list-taken fit.list).beats_in fit.even (ap (every_two lt) (sym e) ∙ rise)

    marks-few : length marks ≤ length marks_old
    marks-few = omega (arith, ap length marks-still, as_many_marks beats lengths marks both, fit.fits)

    pub rising-written : {outcome : Outcome} {warps : ListOutcome} {off : ℕ} {beats_new lengths_new : List Float} {marks_new : List ℕ}
        → EachLaid Lengths quantised lengths outcome beats_old beats_new lengths_old lengths_new → marks_new ≡ laid_each (λ (x : ℕ). x) marks marks_old
        → warps.outcome ≡ outcome → warps.moved ≡ moved_under outcome.number off → off ≡ moved_in beats
        → WarpsWritten beats lengths marks warps beats_old beats_new lengths_old lengths_new marks_old marks_new
    rising-written p m same moved are =
        all-written (pair (rising beats lengths Lengths even-lengths few-beats e rise p)) same moved are
        (m ∙ copied_over_front marks marks_old marks-few ∙ ap (λ (l : List ℕ). laid l marks_old) (sym marks-still))

  -- ---- and over any others: tidied with the quantised warps, in columns as long as the list
  abbrev warped : List Warp
  warped = tidy_warps (map quantized beats) (map quantized lengths) marks

  even-after : length (map quantized lengths) ≡ length marks
  even-after = length-map lengths quantized ∙ both

  taken : marked_warps_number (map quantized beats) (map quantized lengths) marks ≡ 0
  taken =
      both-taken (map quantized beats) (map quantized lengths) marks (quantized-taken beats lengths Lengths fit.list)
      (marks-pass (map quantized beats) marks (omega (arith, length-map beats quantized, few-beats)) (length-map beats quantized ∙ fit.even) fit.are_marks)

  as_many_warps : length warped ≡ length result
  as_many_warps = tidied.as_many_rows (map quantized beats) (map quantized lengths) marks even-after ∙ sym as_many_rows

  module _ {work_beats work_lengths : List Float} (wb : work_beats ≡ map quantized beats) (wl : work_lengths ≡ map quantized lengths)
      {tidy : Outcome} {tidy_beats tidy_beats_new tidy_lengths tidy_lengths_new : List Float} {marks_new : List ℕ} (b : length tidy_beats ≡ length beats) (l : length tidy_lengths ≡ length beats)
      (work : WarpsTidied work_beats work_lengths marks tidy tidy_beats tidy_beats_new tidy_lengths tidy_lengths_new marks_old marks_new) where
    q : WarpsTidied (map quantized beats) (map quantized lengths) marks tidy tidy_beats tidy_beats_new tidy_lengths tidy_lengths_new marks_old marks_new
    q = rw (wb, wl) at work

    tidy-none : tidy.number ≡ 0
    tidy-none = q.number ∙ sym (number-taken _ (length warped) _ taken (omega (arith, as_many_warps, no_more, fit.fits, b, l)))

    tidy-count : tidy.count ≡ length warped
    unfolding given
    tidy-count = rw tidy-none at q.count

    front_of : (field : Warp → Float) (old : List Float) {new : List Float} → new ≡ laid (map field warped) old → take tidy.count new ≡ map field warped
    unfolding laid
    front_of field old e = ap (take tidy.count) e ∙ take_at (map field warped) (drop (length (map field warped)) old) tidy.count (length-map warped field ∙ sym tidy-count)

    beats-front : take tidy.count tidy_beats_new ≡ map first warped
    unfolding given
    beats-front = front_of first tidy_beats (rw tidy-none at q.beats_are)

    lengths-front : take tidy.count tidy_lengths_new ≡ map length_of warped
    unfolding given
    lengths-front = front_of length_of tidy_lengths (rw tidy-none at q.lengths_are)

    fronts : narrowed_front tidy.count tidy_beats_new tidy_lengths_new ≡ result
    unfolding assembled_rows
    fronts =
        ap (map narrowed_entry)
        (ap₂ entries (beats-front ∙ tidied.beats-carried (map quantized beats) (map quantized lengths) marks even-after) (lengths-front ∙ tidied.lengths-carried (map quantized beats) (map quantized lengths) marks even-after)
        ∙ entries-columns (tidy_rows (map quantized beats) (map quantized lengths)))

    marks-left : marks_new ≡ laid (assembled_marks beats marks) marks_old
    unfolding given
    marks-left =
        (rw tidy-none at q.marks_are) ∙ ap (λ (l : List ℕ). laid l marks_old) (tidied.marks-carried (map quantized beats) (map quantized lengths) marks even-after)

    pub tidied-written : {outcome : Outcome} {warps : ListOutcome} {off : ℕ} {beats_new lengths_new : List Float}
        → LaidPair tidy.number (narrowed_front tidy.count tidy_beats_new tidy_lengths_new) outcome beats_old beats_new lengths_old lengths_new
        → warps.outcome ≡ outcome → warps.moved ≡ moved_under outcome.number off → off ≡ moved_in beats
        → WarpsWritten beats lengths marks warps beats_old beats_new lengths_old lengths_new marks_old marks_new
    tidied-written p same moved are = all-written (rw (tidy-none, fronts) at p) same moved are marks-left

-- ---- processed warps fit
ones : (made : ℕ) → every is_mark (replicate made 1) ≡ true
unfolding every
ones zero = refl
ones (suc made) = ones made

module _ (columns : ThreeColumns) (offset : Float) (p : Processed columns) where
  abbrev beats : List Float
  beats = columns.warps.beats

  abbrev lengths : List Float
  lengths = columns.warps.values

  pub warps-fit : length columns.warps.beats ≤ 1024 → (marks : List ℕ) (made : ℕ) → MarksBeside columns.warps.beats marks made → (beat_room length_room mark_room : ℕ)
      → fit_number (assembled_warps (lists_of columns offset)) (min (min beat_room length_room) mark_room) ≡ 0
      → WarpsFit columns.warps.beats columns.warps.values (merged_marks marks made) beat_room length_room mark_room
  warps-fit few marks made beside beat_room length_room mark_room fit = record {
    list = p.warps few;
    even = sym beside.as_many ∙ sym (merged-length marks made);
    are_marks = every_append is_mark marks (replicate made 1) beside.are_marks (ones made);
    fits = omega (arith, fitting _ (min (min beat_room length_room) mark_room) fit, ap length (warps-are columns offset p));
  }

  -- over the warps as a list
  module _ {marks : List ℕ} {warps : ListOutcome} {beats_old beats_new lengths_old lengths_new : List Float} {marks_old marks_new : List ℕ}
      (w : WarpsWritten columns.warps.beats columns.warps.values marks warps beats_old beats_new lengths_old lengths_new marks_old marks_new) where
    firsts : map first (lists_of columns offset).warps ≡ beats
    firsts = first-entries beats lengths p.even

    pub list_written : LaidList 0 (assembled_warps (lists_of columns offset)) warps.outcome.count beats_old beats_new lengths_old lengths_new
    list_written = rw (warps-are columns offset p) w.list

    pub marks-written : marks_new ≡ laid (assembled_marks (map first (lists_of columns offset).warps) marks) marks_old
    marks-written = w.marks_are ∙ ap (λ (l : List Float). laid (assembled_marks l marks) marks_old) (sym firsts)

    pub moved-written : warps.moved ≡ moved_in (map first (lists_of columns offset).warps)
    moved-written = w.moved ∙ ap moved_in (sym firsts)
