-- What is read from processed columns: the three lists as they are assembled, and their rooms. Assumes nothing.
use Prim.Native.Nat.{ℕ, ◌≤◌}
use mathlib.Core.Path.{◌≡◌, refl, sym, ap, ◌∙◌}
use mathlib.Core.Bool.{Bool, true, false}
use mathlib.Core.List.{List, map, map-id, map-map}
use lib.Dec.{leb}
use lib.ListN.{length, length-map}
use lib.Ieee.{Float}
use native.Mathlib.Omega.{arith}
use borrow.Author.Tests.{leb-true}
use Rattle.picks.specs.Pick.{pick}
use Rattle.ieee.specs.Narrowing.{narrow}
use Rattle.limits.specs.Refusals.{lower}
use Rattle.limits.proofs.NoRefusal.{lower-none}
use Rattle.limits.proofs.ListTaken.{list-taken}
use Rattle.order.specs.Order.{laid}
use Rattle.order.specs.Entries.{entries, first, second}
use Rattle.order.proofs.Columns.{length-entries, first-entries, second-entries}
use Rattle.columns.specs.declared.Outcome.{Outcome}
use Rattle.columns.specs.Laying.{room_number, LaidPair, LaidList}
use Rattle.columns.specs.Each.{laid_each}
use Rattle.columns.proofs.Rooms.{list-laid, list_of_pair}
use Rattle.columns.proofs.EachOverFront.{each_over_front}
use Rattle.process_raw.specs.RawLists.{room_for}
use Rattle.process_raw.specs.LentLists.{ThreeColumns}
use Rattle.assembly_rows.specs.AssembledRows.{narrowed_entry, change_by, assembled_rows, RowsUntested, rows_fit_in}
use Rattle.assembly_rows.proofs.QuantizedTaken.{quantized-taken}
use Rattle.assembly_rows.proofs.Untested.{untested_taken}
use Rattle.assembly_tempos.specs.AssembledTempos.{assembled_tempos, assembled_stops, assembled_warps, three_rooms, fit_number}
use Rattle.assembly_tempos.specs.inside.ProcessedColumns.{Processed, lists_of}
use Rattle.assembly_tempos.proofs.OnRows.{held-laid, on_row_held}
use Rattle.assembly_tempos.proofs.RowsFit.{fit-number}
use Rattle.assembly_rows.specs.declared.Meaning.TheVariants.{Lengths, Values}

-- a list that fits is no longer than its room
pub fitting : (count room : ℕ) → room_number 0 count room ≡ 0 → count ≤ room
unfolding room_number
fitting count room h = go (leb count room) refl h
  where
    go : (t : Bool) → leb count room ≡ t → ◌≡◌ {A = ℕ} (pick t 0 7) 0 → count ≤ room
    go true e h = leb-true count room e
    go false e h = absurd (omega arith)

-- ---- the columns of narrowed entries
module _ (beats values : List Float) (even : length beats ≡ length values) where
  narrowed-firsts : map first (map narrowed_entry (entries beats values)) ≡ map narrow beats
  narrowed-firsts = map-map first narrowed_entry (entries beats values) ∙ sym (map-map narrow first (entries beats values)) ∙ ap (map narrow) (first-entries beats values even)

  narrowed-seconds : map second (map narrowed_entry (entries beats values)) ≡ map narrow values
  narrowed-seconds = map-map second narrowed_entry (entries beats values) ∙ sym (map-map narrow second (entries beats values)) ∙ ap (map narrow) (second-entries beats values even)

module _ (columns : ThreeColumns) (offset : Float) (p : Processed columns) where
  tempos-count : length (assembled_tempos (lists_of columns offset)) ≡ length columns.tempos.beats
  tempos-count = length-map (entries columns.tempos.beats columns.tempos.values) narrowed_entry ∙ length-entries columns.tempos.beats columns.tempos.values p.tempos

  stops-are : assembled_stops (lists_of columns offset) ≡ assembled_rows (change_by Values) columns.stops.beats columns.stops.values
  unfolding assembled_rows
  stops-are =
      let even = (list-taken p.stops).even in
      rw (first-entries columns.stops.beats columns.stops.values even, second-entries columns.stops.beats columns.stops.values even, p.on_rows, map-id columns.stops.values)

  pub warps-are : assembled_warps (lists_of columns offset) ≡ assembled_rows (change_by Lengths) columns.warps.beats columns.warps.values
  warps-are = rw (first-entries columns.warps.beats columns.warps.values p.even, second-entries columns.warps.beats columns.warps.values p.even)

  pub warps-count : length (entries columns.warps.beats columns.warps.values) ≡ length columns.warps.beats
  warps-count = length-entries columns.warps.beats columns.warps.values p.even

  module _ (few : length columns.warps.beats ≤ 1024) where
    -- the numbers of the rooms, as they are asked
    pub rooms-are : (tempo_room stop_room warp_room : ℕ)
        → lower (lower (pick (leb (length columns.tempos.beats) tempo_room) 0 7) (pick (rows_fit_in Values columns.stops.beats columns.stops.values stop_room) 0 7)) (pick (rows_fit_in Lengths columns.warps.beats columns.warps.values warp_room) 0 7)
        ≡ three_rooms (lists_of columns offset) tempo_room stop_room warp_room
    rooms-are tempo_room stop_room warp_room =
        rw (fit-number Values columns.stops.beats columns.stops.values stop_room p.stops, fit-number Lengths columns.warps.beats columns.warps.values warp_room (p.warps few), stops-are, warps-are, tempos-count)
        (unfold room_number in refl)

  -- rooms that hold the three lists: each is laid
  module _ {first_old first_new second_old second_new : List Float} where
    pub tempos-laid : fit_number (assembled_tempos (lists_of columns offset)) (room_for first_old second_old) ≡ 0
        → first_new ≡ laid_each (λ (x : Float). x) columns.tempos.beats first_old → second_new ≡ laid_each narrow columns.tempos.values second_old
        → LaidList 0 (assembled_tempos (lists_of columns offset)) (length columns.tempos.beats) first_old first_new second_old second_new
    tempos-laid fit firsts seconds =
        let fits : length columns.tempos.beats ≤ room_for first_old second_old = omega (arith, tempos-count, fitting _ (room_for first_old second_old) fit) in
        list-laid (sym tempos-count)
        (firsts ∙ held-laid columns.tempos.beats first_old (on_row_held columns.tempos.beats p.tempos_on_rows) ∙ each_over_front narrow columns.tempos.beats first_old (omega (arith, fits)) ∙ ap (λ (l : List Float). laid l first_old) (sym (narrowed-firsts columns.tempos.beats columns.tempos.values p.tempos)))
        (seconds ∙ each_over_front narrow columns.tempos.values second_old (omega (arith, fits, p.tempos)) ∙ ap (λ (l : List Float). laid l second_old) (sym (narrowed-seconds columns.tempos.beats columns.tempos.values p.tempos)))

    pub stops-laid : {outcome : Outcome} → fit_number (assembled_stops (lists_of columns offset)) (room_for first_old second_old) ≡ 0
        → RowsUntested Values columns.stops.beats columns.stops.values outcome first_old first_new second_old second_new
        → LaidList 0 (assembled_stops (lists_of columns offset)) outcome.count first_old first_new second_old second_new
    stops-laid {outcome} fit q =
        let q' : LaidPair 0 (assembled_stops (lists_of columns offset)) outcome first_old first_new second_old second_new =
        rw stops-are (rw (quantized-taken columns.stops.beats columns.stops.values Values p.stops) at (untested_taken columns.stops.beats columns.stops.values Values p.stops q)) in
        list_of_pair q' (q'.number ∙ fit)

pub record AllFit (later tempos stops warps : ℕ) : Type 0 where
  pub tempo_fit : tempos ≡ 0
  pub stop_fit : stops ≡ 0
  pub warp_fit : warps ≡ 0

pub all_fit : (later tempos stops warps : ℕ) → lower later (lower (lower tempos stops) warps) ≡ 0 → AllFit later tempos stops warps
all_fit later tempos stops warps h =
    let rooms = lower-none (lower tempos stops) warps (lower-none later (lower (lower tempos stops) warps) h).1 in
    let two = lower-none tempos stops rooms.0 in
    record { tempo_fit = two.0; stop_fit = two.1; warp_fit = rooms.1 }
