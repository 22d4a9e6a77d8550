-- The opening and the walk together. Assumes nothing.
use Rattle.process_sm_machine.specs.declared.Entry.{Entry}
use Rattle.std.proofs.Common.{◌≡◌, ◌≤◌, max, true, List, [], ◌∷◌, length, sym, refl, ap, ◌∙◌, arith, Option}
use native.Mathlib.Nat.{le-max_left, le-max_right, max-le}
use lib.Ieee.{Float, eq, of_bits}
use Rattle.ieee.specs.Constants.{sixty32}
use Rattle.process_sm_machine.specs.declared.Moved.{Moved}
use Rattle.order.specs.Entries.{entries}
use Rattle.process_sm_walk.specs.Changes.{changes_left}
use Rattle.process_sm_walk.specs.Chart.{Output, written_list, written_by, walk_changes, first_tempo, tempos_by0, stops_before, opening_tempo, offset_of, opening_places, processed, TemposNumbers, Chart}
use Rattle.process_sm_walk.specs.Columns.{Columns, most_written}
use Rattle.process_sm_walk.specs.inside.Written.{written_into, counted, none_counted}
use Rattle.process_sm_walk.specs.inside.Rooms.{Room, WrittenWithin, Reached}
use Rattle.process_sm_machine.specs.Machine.{open_chart, fits}
use Rattle.process_sm_walk.specs.declared.Places.{Places}
use Rattle.process_sm_walk.specs.declared.Counts.{Counts}
use Rattle.process_sm_walk.specs.declared.Opener.{Opener}
use Rattle.process_sm_walk.specs.declared.Early.{Early}
use Rattle.process_sm_walk.specs.declared.Finished.{Finished}
use Rattle.order.proofs.Columns.{length-entries}
use Rattle.process_sm_walk.proofs.PlacedInColumns.{written-more, counted-more}
use Rattle.process_sm_machine.proofs.Either.{either}
use Rattle.process_sm_walk.proofs.OneChange.{room-less}
use Rattle.process_sm_walk.proofs.Opening.{fewer-tempos, fewer-stops, last-number}

opening-one : (tempo : Float) → length (written_list (open_chart tempo).tempo) ≤ 1
unfolding open_chart
opening-one tempo = either (λ (w : Option Entry). length (written_list w) ≤ 1) (fits tempo) _ _ (omega arith) (omega arith)

sixty-number : eq sixty32 sixty32 ≡ true
unfolding eq of_bits
sixty-number = refl

first-number : (l : List (Float × Float)) → TemposNumbers l → eq (first_tempo l) (first_tempo l) ≡ true
first-number [] n = sixty-number
first-number (x ∷ l) n = n.0

module _ (tb tv sb sv : List Float) (chart : Chart tb tv sb sv) where
  pub opening-reached : Reached (length tb) (length sb) (opening_places (entries tb tv) (entries sb sv))
  opening-reached =
      let a = fewer-tempos (entries tb tv) in let b = fewer-stops (entries sb sv) in let d = length-entries tb tv chart.tempos in let e = length-entries sb sv chart.stops in
      let f = le-max_left (length tb) 1 in
      record { tempo = max-le {a = tempos_by0 (entries tb tv)} {b = 1} {k = max (length tb) 1} (omega arith) (le-max_right (length tb) 1); stop = omega arith }

  pub opening-within : WrittenWithin (opening_places (entries tb tv) (entries sb sv)) (open_chart (opening_tempo (entries tb tv))).state (counted none_counted (written_by (open_chart (opening_tempo (entries tb tv)))))
  unfolding open_chart
  opening-within =
      let a = opening-one (opening_tempo (entries tb tv)) in let b = le-max_right (tempos_by0 (entries tb tv)) 1 in
      record {
        number = last-number (entries tb tv) (first_tempo (entries tb tv)) chart.numbers (first-number (entries tb tv) chart.numbers);
        tempos = omega arith;
        stops = omega arith;
        warps = omega arith;
      }

  module _ (opener : Opener) (o : opener ≡ record { tempo = opening_tempo (entries tb tv); used = max (tempos_by0 (entries tb tv)) 1 })
      (early : Early) (e : early ≡ record { offset = offset_of (entries sb sv); used = stops_before (entries sb sv) })
      (opening : Moved) (m : opening ≡ open_chart opener.tempo) (into : Columns) (room : Room (most_written (length tb) (length sb)) into) where
    opening-is : opening ≡ open_chart (opening_tempo (entries tb tv))
    opening-is = m ∙ ap (λ (a : Opener). open_chart a.tempo) o

    places-are : ◌≡◌ {A = Places} (record { tempo = opener.used; stop = early.used }) (opening_places (entries tb tv) (entries sb sv))
    places-are = rw (o, e)

    pub room-opening : Room (counted none_counted (written_by opening)) into
    unfolding open_chart
    room-opening =
        rw opening-is
        (let a = opening-one (opening_tempo (entries tb tv)) in let b = le-max_right (length tb) 1 in
        room-less (counted none_counted (written_by (open_chart (opening_tempo (entries tb tv))))) (most_written (length tb) (length sb)) into (omega arith) (omega arith) (omega arith) room)

    pub reached-here : Reached (length tb) (length sb) (record { tempo = opener.used; stop = early.used })
    reached-here = rw places-are opening-reached

    pub within-here : (so_far : Counts) → so_far ≡ counted none_counted (written_by opening) → WrittenWithin (record { tempo = opener.used; stop = early.used }) opening.state so_far
    within-here so_far s = rw (s, places-are, opening-is) opening-within

    pub whole : (so_far counts : Counts) (mid last : Columns) → so_far ≡ counted none_counted (written_by opening) → mid ≡ written_into none_counted (written_by opening) into
        → counts ≡ counted so_far (walk_changes (changes_left (entries tb tv) (entries sb sv) (record { tempo = opener.used; stop = early.used })) opening.state)
        → last ≡ written_into so_far (walk_changes (changes_left (entries tb tv) (entries sb sv) (record { tempo = opener.used; stop = early.used })) opening.state) mid
        → (◌≡◌ {A = Finished} (record { offset = early.offset; counts = counts }) (record { offset = offset_of (entries sb sv); counts = counted none_counted (processed (entries tb tv) (entries sb sv)) }))
        × (last ≡ written_into none_counted (processed (entries tb tv) (entries sb sv)) into)
    whole so_far counts mid last s n k f =
        let first = written_by (open_chart (opening_tempo (entries tb tv))) in
        let rest = walk_changes (changes_left (entries tb tv) (entries sb sv) (opening_places (entries tb tv) (entries sb sv))) (open_chart (opening_tempo (entries tb tv))).state in
        let r : walk_changes (changes_left (entries tb tv) (entries sb sv) (record { tempo = opener.used; stop = early.used })) opening.state ≡ rest =
        ap (λ (p : Places). walk_changes (changes_left (entries tb tv) (entries sb sv) p) opening.state) places-are ∙ ap (λ (a : Moved). walk_changes (changes_left (entries tb tv) (entries sb sv) (opening_places (entries tb tv) (entries sb sv))) a.state) opening-is in
        let s' : so_far ≡ counted none_counted first = s ∙ ap (λ (a : Moved). counted none_counted (written_by a)) opening-is in
        let n' : mid ≡ written_into none_counted first into = n ∙ ap (λ (a : Moved). written_into none_counted (written_by a) into) opening-is in
        let k' : counts ≡ counted none_counted (processed (entries tb tv) (entries sb sv)) =
        k ∙ ap (λ (a : Output). counted so_far a) r ∙ ap (λ (a : Counts). counted a rest) s' ∙ sym (counted-more none_counted first rest) in
        let f' : last ≡ written_into none_counted (processed (entries tb tv) (entries sb sv)) into =
        f ∙ ap (λ (a : Output). written_into so_far a mid) r ∙ ap (λ (a : Counts). written_into a rest mid) s' ∙ ap (λ (a : Columns). written_into (counted none_counted first) rest a) n' ∙ sym (written-more none_counted first rest into) in
        (rw (k', e), f')
