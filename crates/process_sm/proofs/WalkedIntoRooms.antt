-- Stops and warps that the walk has written into their rooms, and tempos tidied: the one outcome of processing. Assumes nothing.
use Rattle.std.proofs.Common.{◌≡◌, ℕ, ◌≤◌, min, max, List, map, length, sym, refl, ◌∙◌, arith, ne_eqb}
use native.Mathlib.Nat.{max-le, le-max_left, le-max_right}
use lib.ListN.{length-map}
use lib.Ieee.{Float}
use Rattle.order.specs.Order.{laid}
use Rattle.order.specs.Entries.{first, second}
use Rattle.columns.specs.declared.Outcome.{Outcome}
use Rattle.columns.specs.Laying.{given, column_laid, LaidPair}
use Rattle.columns.proofs.Rooms.{number-taken}
use Rattle.process_raw.specs.LentLists.{two_columns, three_columns}
use Rattle.process_raw.specs.RawLists.{raw_numbers, processed_nothing, room_for}
use Rattle.process_raw.proofs.BothTaken.{both-taken}
use Rattle.process_sm_changes.specs.SmChanges.{sm_changes}
use Rattle.process_sm_walk.specs.declared.Walked.{Walked}
use Rattle.process_sm_walk.specs.Chart.{Output}
use Rattle.process_sm_walk.specs.Columns.{Columns, columns}
use Rattle.process_sm_walk.specs.Walking.{WalkLaid}
use Rattle.process_sm_walk.proofs.Lengths.{Bounded}
use Rattle.tidy_tempos.specs.TempoTidying.{tidy_tempos}
use Rattle.limits.specs.declared.Kind.TheVariants.{Beat, TidyTempo}
use Rattle.limits.specs.Numbers.{range_of}
use Rattle.limits.specs.Refusals.{list_number}
use Rattle.process_sm_laws.proofs.ChangesTaken.{few-changes, few-written}
use Rattle.process_sm_laws.proofs.AssemblyTakes.{sm_tempos_tidied}
use Rattle.process_sm_walk_raw.specs.RawWalk.{RawWalked, walked_number, sm_written}
use Rattle.process_sm_walk_raw.proofs.Numbers.{number_with_room}
use Rattle.tidy_tempos.specs.TempoTidying.{tidied_tempos}
use Rattle.process_sm_lent.proofs.Ends.{by_tests, taken}
use Rattle.process_sm_lent.proofs.WalkedColumns.{Fronts, walked-fronts}
use Rattle.process_sm.specs.inside.Rooms.{WalkRooms, ResultRooms}
use Rattle.process_sm.specs.Sm.{SmProcessed}
use Rattle.process_sm.proofs.FewTidied.{few-tidied}
use Rattle.process_sm.proofs.WorkRoom.{room_for_lem}

-- a refusal writes nothing
untouched : (number : ℕ) (field : Float × Float → Float) (list : List (Float × Float)) (column : List Float) → (number ≡ 0 → ⊥) → column_laid field number list column ≡ column
unfolding given laid
untouched number field list column h = rw (ne_eqb number 0 h)

module _ (tb tv sb sv wtb wtv otb otv osb osv owb owl : List Float)
    (rooms : ResultRooms (length tb) (length sb) (three_columns otb otv osb osv owb owl)) (work : raw_numbers tb tv sb sv ≡ 0 → max (length tb) 1 ≤ min (length wtb) (length wtv)) where
  abbrev old : Columns
  old = columns wtb wtv osb osv owb owl

  abbrev out : Output
  out = sm_written tb tv sb sv

  work-rooms : WalkRooms (two_columns tb tv sb sv) old
  work-rooms = record { tempos = work; stops = λ h. rooms.stops_fit; warps = λ h. rooms.warps_fit }

  number_is : walked_number tb tv sb sv old ≡ raw_numbers tb tv sb sv
  number_is = number_with_room tb tv sb sv old (room_for_lem tb tv sb sv work-rooms)

  module _ (walked : Walked) (new : Columns) (w : RawWalked (two_columns tb tv sb sv) walked old new) where
    pub number-walked : walked.number ≡ raw_numbers tb tv sb sv
    number-walked = w.number ∙ number_is

    laid_by_number : WalkLaid (sm_changes tb tv) (sm_changes sb sv) (raw_numbers tb tv sb sv) walked old new
    laid_by_number = rw number_is at w

    pub into_refused : (walked.number ≡ 0 → ⊥)
        → SmProcessed tb tv sb sv (processed_nothing walked.number) otb otb otv otv osb new.stop_beats osv new.stop_values owb new.warp_beats owl new.warp_lengths
    into_refused h =
        let l = laid_by_number in
        let k : raw_numbers tb tv sb sv ≡ 0 → ⊥ = λ e. h (number-walked ∙ e) in
        let n = raw_numbers tb tv sb sv in
        rw (
          number-walked,
          l.stop_beats ∙ untouched n first out.stops osb k,
          l.stop_values ∙ untouched n second out.stops osv k,
          l.warp_beats ∙ untouched n first out.warps owb k,
          l.warp_lengths ∙ untouched n second out.warps owl k,
        ) (by_tests k)

    module _ (passed : raw_numbers tb tv sb sv ≡ 0) where
      laid_now : WalkLaid (sm_changes tb tv) (sm_changes sb sv) 0 walked old new
      laid_now = rw passed at laid_by_number

      bound : Bounded (length (sm_changes tb tv)) (length (sm_changes sb sv)) out
      bound = few-written tb tv sb sv (both-taken passed).tempos (both-taken passed).stops

      pub fronts : Fronts (sm_changes tb tv) (sm_changes sb sv) walked new
      fronts = walked-fronts laid_now bound (room_for_lem tb tv sb sv work-rooms passed)

      tempos-fit : length (tidied_tempos out.tempos) ≤ min (length otb) (length otv)
      tempos-fit =
          let t = few-tidied (map first out.tempos) (map second out.tempos) in
          let l = length-map out.tempos first in
          let few = few-changes tb tv (both-taken passed).tempos in
          let m = max-le {a = length (sm_changes tb tv)} {b = 1} {k = max (length tb) 1} (omega (arith, le-max_left (length tb) 1)) (le-max_right (length tb) 1) in
          let n = max-le {a = length (map first out.tempos)} {b = 1} {k = max (length tb) 1} (omega (arith, bound.tempos)) (le-max_right (length tb) 1) in
          omega (arith, rooms.tempos_fit)

      stops-fit : length out.stops ≤ room_for osb osv
      stops-fit = omega (arith, bound.stops, few-changes sb sv (both-taken passed).stops, rooms.stops_fit)

      warps-fit : length out.warps ≤ room_for owb owl
      warps-fit = omega (arith, bound.warps, few-changes tb tv (both-taken passed).tempos, few-changes sb sv (both-taken passed).stops, rooms.warps_fit)

      pub into_taken : (b v : List Float) {outcome : Outcome} {otb' otv' : List Float} {offset : Float} → b ≡ map first out.tempos → v ≡ map second out.tempos
          → LaidPair (list_number (range_of Beat) (range_of TidyTempo) b v) (tidy_tempos b v) outcome otb otb' otv otv' → offset ≡ walked.offset
          → SmProcessed tb tv sb sv (record { number = 0; tempos = outcome.count; stops = walked.stops; warps = walked.warps; offset = offset })
          otb otb' otv otv' osb new.stop_beats osv new.stop_values owb new.warp_beats owl new.warp_lengths
      unfolding given
      into_taken b v {outcome} {otb'} {otv'} {offset} eb ev pair o =
          let tidy : LaidPair 0 (tidied_tempos out.tempos) outcome otb otb' otv otv' = rw (eb, ev, sm_tempos_tidied tb tv sb sv passed) at pair in
          let none : outcome.number ≡ 0 = tidy.number ∙ sym (number-taken 0 (length (tidied_tempos out.tempos)) (min (length otb) (length otv)) refl tempos-fit) in
          rw (o ∙ laid_now.offset)
          (taken passed stops-fit warps-fit tidy walked.stops walked.warps none laid_now.stops laid_now.warps laid_now.stop_beats laid_now.stop_values laid_now.warp_beats laid_now.warp_lengths)
