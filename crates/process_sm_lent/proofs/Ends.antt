-- The ends of laying three lists are one outcome: refused by the tests, for the stops', the warps' or the tempos' room, and taken. Assumes nothing.
use Rattle.std.proofs.Common.{◌≡◌, ℕ, ◌<◌, ◌≤◌, List, map, length, sym, refl, ◌∙◌, arith, ne_eqb}
use lib.Ieee.{Float}
use Rattle.order.specs.Order.{laid}
use Rattle.order.specs.Entries.{entries, first, second}
use Rattle.order.proofs.Columns.{entries-columns}
use Rattle.tidy_tempos.specs.TempoTidying.{tidy_tempos}
use Rattle.process_raw.specs.declared.Processed.{Processed}
use Rattle.columns.specs.declared.Outcome.{Outcome}
use Rattle.columns.specs.Laying.{room_number, LaidPair}
use Rattle.columns.proofs.Rooms.{number_of_tests, number_no_room, number-taken, list-refused, list-laid, list_of_pair, pair_fits, pair-short, pair-untouched}
use Rattle.process_raw.specs.RawLists.{list_room, processed_nothing}
use Rattle.tidy_tempos.specs.TempoTidying.{tidied_tempos}
use Rattle.chart.specs.ChartColumns.{list_columns}
use Rattle.process_raw.specs.LentLists.{ThreeColumns, three_columns}
use Rattle.process_raw.specs.ProcessedLaid.{ProcessedLaid}

stays : (n count room : ℕ) → (n ≡ 0 → ⊥) → (m : ℕ) → m ≡ n → m ≡ room_number n count room
stays n count room h m e = e ∙ number_of_tests n count room h

module _ {tests : ℕ} {tempos stops warps : List (Float × Float)} {offset : Float} {old : ThreeColumns} where
  refused : {number : ℕ} → (number ≡ 0 → ⊥)
      → number ≡ room_number (room_number (room_number tests (length stops) (list_room old.stops)) (length warps) (list_room old.warps)) (length tempos) (list_room old.tempos)
      → ProcessedLaid tests tempos stops warps offset (processed_nothing number) old old
  refused {number} h e = record { number = e; tempos_laid = list-refused h; stops_laid = list-refused h; warps_laid = list-refused h; offset_is = rw (ne_eqb number 0 h) }

  pub by_tests : (tests ≡ 0 → ⊥) → ProcessedLaid tests tempos stops warps offset (processed_nothing tests) old old
  by_tests h =
      let one = number_of_tests tests (length stops) (list_room old.stops) h in
      let two = stays _ (length warps) (list_room old.warps) (λ e. h (one ∙ e)) tests one in
      refused h (stays _ (length tempos) (list_room old.tempos) (λ e. h (two ∙ e)) tests two)

  module _ (passed : tests ≡ 0) where
    pub for_stops : list_room old.stops < length stops → ProcessedLaid tests tempos stops warps offset (processed_nothing 7) old old
    for_stops short =
        let one = number_no_room tests _ _ passed short in
        let two = stays _ (length warps) (list_room old.warps) (λ e. let z : ◌≡◌ {A = ℕ} 7 0 = one ∙ e in omega arith) 7 one in
        refused (λ e. omega arith) (stays _ (length tempos) (list_room old.tempos) (λ e. let z : ◌≡◌ {A = ℕ} 7 0 = two ∙ e in omega arith) 7 two)

    module _ (stops_fit : length stops ≤ list_room old.stops) where
      pub for_warps : list_room old.warps < length warps → ProcessedLaid tests tempos stops warps offset (processed_nothing 7) old old
      for_warps short =
          let two = number_no_room _ (length warps) (list_room old.warps) (sym (number-taken tests _ _ passed stops_fit)) short in
          refused (λ e. omega arith) (stays _ (length tempos) (list_room old.tempos) (λ e. let z : ◌≡◌ {A = ℕ} 7 0 = two ∙ e in omega arith) 7 two)

      module _ (warps_fit : length warps ≤ list_room old.warps) {outcome : Outcome} {tempo_beats_new tempo_values_new : List Float} (tidy : LaidPair 0 tempos outcome old.tempos.beats tempo_beats_new old.tempos.values tempo_values_new) where
        pub for_tempos : (outcome.number ≡ 0 → ⊥) → ProcessedLaid tests tempos stops warps offset (processed_nothing 7) old (record { tempos = list_columns tempo_beats_new tempo_values_new; stops = old.stops; warps = old.warps })
        for_tempos h =
            let same = pair-untouched tidy h in
            rw (same.0, same.1) (refused (λ e. omega arith) (number_no_room _ _ _ (sym (number-taken _ _ _ (sym (number-taken tests _ _ passed stops_fit)) warps_fit)) (pair-short tidy h)))

        pub taken : (stop_count warp_count : ℕ) {stop_beats_new stop_values_new warp_beats_new warp_lengths_new : List Float} → outcome.number ≡ 0 → stop_count ≡ length stops → warp_count ≡ length warps
            → stop_beats_new ≡ laid (map first stops) old.stops.beats → stop_values_new ≡ laid (map second stops) old.stops.values
            → warp_beats_new ≡ laid (map first warps) old.warps.beats → warp_lengths_new ≡ laid (map second warps) old.warps.values
            → ProcessedLaid tests tempos stops warps offset (record { number = 0; tempos = outcome.count; stops = stop_count; warps = warp_count; offset = offset }) old (three_columns tempo_beats_new tempo_values_new stop_beats_new stop_values_new warp_beats_new warp_lengths_new)
        taken stop_count warp_count h sc wc a b d e = record {
          number = number-taken _ _ _ (sym (number-taken _ _ _ (sym (number-taken tests _ _ passed stops_fit)) warps_fit)) (pair_fits tidy h);
          tempos_laid = list_of_pair tidy h;
          stops_laid = list-laid sc a b;
          warps_laid = list-laid wc d e;
          offset_is = refl;
        }

-- results that are read from columns are the lists that stand there
module _ (T : List (Float × Float)) {tests : ℕ} {S W : List (Float × Float)} {o offset : Float} {outcome : Processed} {tb tv sb sv wb wl : List Float} {old new : ThreeColumns} where
  pub as_read : ProcessedLaid 0 (tidy_tempos tb tv) (entries sb sv) (entries wb wl) o outcome old new
      → tests ≡ 0 → tb ≡ map first T → tv ≡ map second T → sb ≡ map first S → sv ≡ map second S → wb ≡ map first W → wl ≡ map second W → o ≡ offset
      → ProcessedLaid tests (tidied_tempos T) S W offset outcome old new
  as_read p t a b c d e f g =
      let laid-stops : entries sb sv ≡ S = rw (c, d) (entries-columns S) in
      let laid-warps : entries wb wl ≡ W = rw (e, f) (entries-columns W) in
      rw t (rw (a, b, laid-stops, laid-warps, g) at p)
