-- `process_ssc::process_known` refuses by the tests, for the stops' room and for the tempos', and else lays both results. Assumes nothing.
use Prim.Native.Nat.{◌≤◌, ◌<◌}
use mathlib.Core.Path.{◌≡◌, sym, ap, ◌∙◌}
use native.Mathlib.Omega.{arith}
use borrow.Author.Tests.{not-true, not-false, leb-true, leb-false}
use lib.ListN.{length}
use lib.Ieee.{of_bits}
use Rattle.limits.proofs.ListTaken.{list-taken}
use Rattle.process_raw.specs.RawLists.{raw_numbers, room_for, processed_nothing}
use Rattle.process_raw.proofs.BothTaken.{BothTaken, both-taken}
use Rattle.process_ssc.specs.Ssc.{stayed_ssc}
use Rattle.process_ssc.proofs.Outcomes.{by_tests, for_stops, for_tempos, taken}
use Rattle.process_ssc.proofs.process_known.Goals as goal
use Rattle.process_ssc.proofs.process_known.Goals.{Else-not-have_room, Else-number-ne-TAKEN}

passed : (c : Else-number-ne-TAKEN) → raw_numbers c.args.tempo_beats.now c.args.tempo_values.now c.args.stop_beats.now c.args.stop_values.now ≡ 0
passed c = sym c.number_of-number.ensures ∙ c.if-number-ne-TAKEN.false

both : (c : Else-number-ne-TAKEN) → BothTaken c.args.tempo_beats.now c.args.tempo_values.now c.args.stop_beats.now c.args.stop_values.now
both c = both-taken (passed c)

fit : (c : Else-not-have_room) → length (stayed_ssc c.args.stop_beats.now c.args.stop_values.now) ≤ room_for c.args.out_stop_beats.now c.args.out_stop_values.now
fit c = omega (arith, leb-true (length (stayed_ssc c.args.stop_beats.now c.args.stop_values.now)) c.room_of-stop_room.result (sym c.have_room.ensures ∙ not-false _ c.if-not-have_room.false-raw), c.room_of-stop_room.ensures)

pub returns-then-number-ne-TAKEN : goal.returns-then-number-ne-TAKEN
returns-then-number-ne-TAKEN c = rw (c.refused.ensures ∙ ap processed_nothing c.number_of-number.ensures) (by_tests (λ e. c.if-number-ne-TAKEN.true (c.number_of-number.ensures ∙ e)))

pub have_room-requires : goal.have_room-requires
have_room-requires c = (list-taken (both (goal.at.have_room-requires c).Else-number-ne-TAKEN).stops).even

pub returns-then-not-have_room : goal.returns-then-not-have_room
returns-then-not-have_room c =
    let short : room_for c.args.out_stop_beats.now c.args.out_stop_values.now < length (stayed_ssc c.args.stop_beats.now c.args.stop_values.now) = omega (arith, leb-false (length (stayed_ssc c.args.stop_beats.now c.args.stop_values.now)) c.room_of-stop_room.result (sym c.have_room.ensures ∙ not-true _ c.if-not-have_room.true-raw), c.room_of-stop_room.ensures) in
    rw c.refused-then-not-have_room.ensures (for_stops (passed (goal.at.returns-then-not-have_room c).Else-number-ne-TAKEN) short)

pub lay_tempos-tempos-requires : goal.lay_tempos-tempos-requires
lay_tempos-tempos-requires c =
    record {
      values_value = (both (goal.at.lay_tempos-tempos-requires c).Else-number-ne-TAKEN).tempos;
      known = c.requires.known;
    }

pub returns-then-tempos-ne-TAKEN : goal.returns-then-tempos-ne-TAKEN
returns-then-tempos-ne-TAKEN c = rw c.refused-then-tempos-ne-TAKEN.ensures (for_tempos (passed (goal.at.returns-then-tempos-ne-TAKEN c).Else-number-ne-TAKEN) (fit (goal.at.returns-then-tempos-ne-TAKEN c).Else-not-have_room) c.lay_tempos-tempos.ensures c.if-tempos-ne-TAKEN.true)

pub lay_stayed-stops-requires : goal.lay_stayed-stops-requires
lay_stayed-stops-requires c =
    record {
      beats_len = (list-taken (both (goal.at.lay_stayed-stops-requires c).Else-number-ne-TAKEN).stops).even;
      values_len_bound = fit (goal.at.lay_stayed-stops-requires c).Else-not-have_room;
      known = c.requires.known_2;
    }

pub returns : goal.returns
unfolding of_bits
returns c = taken (passed (goal.at.returns c).Else-number-ne-TAKEN) (fit (goal.at.returns c).Else-not-have_room) c.lay_tempos-tempos.ensures c.lay_stayed-stops.result c.if-tempos-ne-TAKEN.false c.lay_stayed-stops.ensures.value c.lay_stayed-stops.ensures.out_beats_after c.lay_stayed-stops.ensures.out_values_after
