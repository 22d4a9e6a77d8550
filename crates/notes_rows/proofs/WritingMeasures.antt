-- A loop that writes the beats of each measure behind those of the measures before: what holds where it begins, after each measure, and where it ends.
-- Assumes nothing.
use Prim.Native.Nat.{ℕ, ◌+◌, ◌-◌, ◌≤◌}
use mathlib.Core.List.{List, [], ◌++◌, append_assoc, append-nil}
use mathlib.Core.Path.{◌≡◌, refl, sym, ap, ◌∙◌}
use native.Mathlib.Numerals.{add-one}
use native.Mathlib.Omega.{arith}
use lib.ListN.{length, take, drop, length-append}
use lib.Ieee.{Float}
use borrow.Rule.Slice.PartMut.{put_mid}
use Rattle.order.specs.Order.{laid}
use Rattle.order.proofs.LaidOverFront.{laid-length, laid_more}
use Rattle.notes_rows.specs.declared.Measure.{Measure}
use Rattle.notes_rows.specs.Measures.{all_rows, measures}
use Rattle.notes_rows.specs.RowBeats.{measure_beats, beats_from, rows_to_beats}
use Rattle.notes_rows.specs.inside.Counting.{measures_from, MeasureCounted}
use Rattle.notes_rows.proofs.MeasureByMeasure.{measure_after_measure, rows_after_rows, ends-within, none-behind, all_at_first}
use Rattle.notes_rows.proofs.MeasureWritesRows.{measure_writes_rows, measures_write_rows, data_writes_rows}

-- `index` measures stand before the place, and their beats, `written` many, over the front of the room.
pub record Writing (note_data : List ℕ) (old room : List Float) (index written place : ℕ) : Type 0 where
  pub done : List Float
  pub many : written ≡ length done
  pub laid_so_far : room ≡ laid done old
  pub whole : done ++ beats_from index (measures_from place note_data) ≡ rows_to_beats note_data
  pub each_a_place : index ≤ place
  pub within : place ≤ length note_data + 1

module _ {note_data : List ℕ} {old : List Float} where
  pub nothing_written : Writing note_data old old 0 0 0
  unfolding laid rows_to_beats
  nothing_written =
      record { done = []; many = refl; laid_so_far = refl; whole = ap (beats_from 0) (all_at_first note_data); each_a_place = omega arith; within = omega arith }

  module _ (fits : all_rows (measures note_data) ≤ length old) {room : List Float} {index written place : ℕ} (so_far : Writing note_data old room index written place) where
    -- what is written and what is left have room
    room-left : written + all_rows (measures_from place note_data) ≤ length old
    room-left =
        omega (
          arith,
          so_far.many,
          length-append so_far.done (beats_from index (measures_from place note_data)),
          ap length so_far.whole,
          measures_write_rows index (measures_from place note_data),
          data_writes_rows note_data,
        )

    pub same-room : length room ≡ length old
    same-room = ap length so_far.laid_so_far ∙ laid-length so_far.done old (omega (arith, room-left, so_far.many))

    module _ {measure : Measure} (place-within : place ≤ length note_data) (counted : MeasureCounted note_data place measure) where
      pub measure_fits : written + measure.rows ≤ length room
      measure_fits = omega (arith, room-left, same-room, rows_after_rows note_data place place-within counted)

      pub measure_written : {back : List Float} → back ≡ laid (measure_beats index measure.rows) (take (length room - written) (drop written room))
          → Writing note_data old (put_mid written (length room - written) room back) (index + 1) (written + measure.rows) (measure.end + 1)
      unfolding beats_from
      measure_written {back} is =
          let beats = measure_beats index measure.rows in
          let rest = beats_from (index + 1) (measures_from (measure.end + 1) note_data) in
          let left : beats_from index (measures_from place note_data) ≡ beats ++ rest =
          ap (beats_from index) (measure_after_measure note_data place place-within counted) ∙ rw (add-one index, counted.rows) in
          record {
            done = so_far.done ++ beats;
            many = omega (arith, so_far.many, length-append so_far.done beats, measure_writes_rows index measure.rows);
            laid_so_far =
                laid_more room back old so_far.done beats written so_far.laid_so_far so_far.many
                (omega (arith, so_far.many, same-room, measure_fits, measure_writes_rows index measure.rows))
                is;
            whole = append_assoc so_far.done beats rest ∙ sym (ap (λ (l : List Float). so_far.done ++ l) left) ∙ so_far.whole;
            each_a_place = omega (arith, so_far.each_a_place, counted.end);
            within = omega (arith, ends-within note_data place place-within counted);
          }

    pub all-written : length note_data + 1 ≤ place → room ≡ laid (rows_to_beats note_data) old
    unfolding beats_from
    all-written past =
        let all : so_far.done ≡ rows_to_beats note_data =
        sym (append-nil so_far.done) ∙ rw (none-behind note_data place (omega arith)) at so_far.whole in
        so_far.laid_so_far ∙ ap (λ (l : List Float). laid l old) all
