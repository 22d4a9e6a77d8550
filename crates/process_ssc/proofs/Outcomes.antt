-- The four ends of the call are its one outcome: refused by the tests, for the stops' room, for the tempos' room, and taken. Assumes nothing.
use Prim.Native.Nat.{ℕ, ◌≤◌, ◌<◌}
use mathlib.Core.Path.{◌≡◌, refl, sym, ◌∙◌}
use mathlib.Core.List.{List, map}
use native.Mathlib.Omega.{arith}
use lib.ListN.{length}
use lib.Ieee.{Float}
use Rattle.ieee.specs.Constants.{plus_zero}
use Rattle.order.specs.Order.{laid}
use Rattle.order.specs.Entries.{first, second}
use Rattle.columns.specs.declared.Outcome.{Outcome}
use Rattle.columns.specs.Laying.{room_number, LaidPair}
use Rattle.columns.proofs.Rooms.{number_of_tests, number_no_room, number-taken, list-refused, list-laid, list_of_pair, pair_fits, pair-short, pair-untouched}
use Rattle.process_raw.specs.RawLists.{raw_numbers, room_for, processed_nothing}
use Rattle.process_ssc.specs.Ssc.{stayed_ssc, ssc_tempos, SscProcessed}

module _ {tempo_beats tempo_values stop_beats stop_values tempo_beats_old tempo_values_old stop_beats_old stop_values_old : List Float} where
  refused : {number : ℕ} → (number ≡ 0 → ⊥)
      → number ≡ room_number (room_number (raw_numbers tempo_beats tempo_values stop_beats stop_values) (length (stayed_ssc stop_beats stop_values)) (room_for stop_beats_old stop_values_old)) (length (ssc_tempos tempo_beats tempo_values)) (room_for tempo_beats_old tempo_values_old)
      → SscProcessed tempo_beats tempo_values stop_beats stop_values (processed_nothing number) tempo_beats_old tempo_beats_old tempo_values_old tempo_values_old stop_beats_old stop_beats_old stop_values_old stop_values_old
  refused h e = record { number = e; tempos = list-refused h; stops = list-refused h; warps = refl; offset = refl }

  pub by_tests : (raw_numbers tempo_beats tempo_values stop_beats stop_values ≡ 0 → ⊥) → SscProcessed tempo_beats tempo_values stop_beats stop_values (processed_nothing (raw_numbers tempo_beats tempo_values stop_beats stop_values)) tempo_beats_old tempo_beats_old tempo_values_old tempo_values_old stop_beats_old stop_beats_old stop_values_old stop_values_old
  by_tests h =
      let first-room = number_of_tests (raw_numbers tempo_beats tempo_values stop_beats stop_values) (length (stayed_ssc stop_beats stop_values)) (room_for stop_beats_old stop_values_old) h in
      refused h (first-room ∙ number_of_tests _ _ _ (λ e. h (first-room ∙ e)))

  module _ (passed : raw_numbers tempo_beats tempo_values stop_beats stop_values ≡ 0) where
    pub for_stops : room_for stop_beats_old stop_values_old < length (stayed_ssc stop_beats stop_values)
        → SscProcessed tempo_beats tempo_values stop_beats stop_values (processed_nothing 7) tempo_beats_old tempo_beats_old tempo_values_old tempo_values_old stop_beats_old stop_beats_old stop_values_old stop_values_old
    for_stops short =
        let first-room = number_no_room _ _ _ passed short in
        refused (λ e. omega arith) (first-room ∙ number_of_tests _ _ _ (λ e. let z : ◌≡◌ {A = ℕ} 7 0 = first-room ∙ e in omega arith))

    module _ (fits : length (stayed_ssc stop_beats stop_values) ≤ room_for stop_beats_old stop_values_old) {outcome : Outcome} {tempo_beats_new tempo_values_new : List Float}
        (laid-tempos : LaidPair 0 (ssc_tempos tempo_beats tempo_values) outcome tempo_beats_old tempo_beats_new tempo_values_old tempo_values_new) where
      pub for_tempos : (outcome.number ≡ 0 → ⊥)
          → SscProcessed tempo_beats tempo_values stop_beats stop_values (processed_nothing 7) tempo_beats_old tempo_beats_new tempo_values_old tempo_values_new stop_beats_old stop_beats_old stop_values_old stop_values_old
      for_tempos h =
          let same = pair-untouched laid-tempos h in
          rw (same.0, same.1) (refused (λ e. omega arith) (number_no_room _ _ _ (sym (number-taken _ _ _ passed fits)) (pair-short laid-tempos h)))

      pub taken : (count : ℕ) {stop_beats_new stop_values_new : List Float} → outcome.number ≡ 0 → count ≡ length (stayed_ssc stop_beats stop_values)
          → stop_beats_new ≡ laid (map first (stayed_ssc stop_beats stop_values)) stop_beats_old → stop_values_new ≡ laid (map second (stayed_ssc stop_beats stop_values)) stop_values_old
          → SscProcessed tempo_beats tempo_values stop_beats stop_values (record { number = 0; tempos = outcome.count; stops = count; warps = 0; offset = plus_zero }) tempo_beats_old tempo_beats_new tempo_values_old tempo_values_new stop_beats_old stop_beats_new stop_values_old stop_values_new
      taken count h c a b = record {
        number = number-taken _ _ _ (sym (number-taken _ _ _ passed fits)) (pair_fits laid-tempos h);
        tempos = list_of_pair laid-tempos h;
        stops = list-laid c a b;
        warps = refl;
        offset = refl;
      }
