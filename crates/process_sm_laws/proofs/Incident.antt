-- The charts that were once scored wrong: 120 beats a minute, backwards from beat 4 on, and a pause on beat 8, where two seconds are owed. By computation. Assumes nothing.
--
-- A pause of one second leaves one owed, and a pause of two leaves nothing owed: neither ends the warp, and no stop is written.
-- A pause of three is more than is owed: the warp is written up to it, one second of it is left as a stop, and as the tempo still goes backwards another warp starts.
-- And one whose tempo turns forward again on beat 8, so that two beats work off one of two seconds, and half a second of a pause on beat 10 a part of the other:
-- the warp ends on beat 11, where nothing is owed, and the pause is written nowhere.
use mathlib.Core.List.{List, [], ◌∷◌}
use mathlib.Core.Bool.{true, false}
use mathlib.Core.Path.{◌≡◌, refl}
use lib.IntN.{pos, negsuc}
use lib.Count.{count_trailing_zeros}
use lib.Ieee.{Float, fin, add, sub, mul, div, neg, lt, le, eq, of_int, of_bits, of_fields, round, sum, size, span, climb, units, odd}
use Rattle.ieee.specs.Rounding.{rint, hold}
use Rattle.process_sm_machine.specs.Machine.{fits, warp_over, tempo_after, open_chart, owed_at, keep_warp, close_by_time, pass_in_warp, pass, tempo_outside, meet_tempo, stop_outside, close_by_stop, begin_again, stop_in_warp, meet_stop, warp_end_of, finish_warp, finish}
use Rattle.process_sm_walk.specs.Chart.{Output, walk_changes, stops_before, last_tempo, tempos_by0, processed}

abbrev start : Float
start = fin false 0 (pos 0)

abbrev half : Float
half = fin false 1 (negsuc 0)

abbrev one : Float
one = fin false 1 (pos 0)

abbrev two : Float
two = fin false 1 (pos 1)

abbrev three : Float
three = fin false 3 (pos 0)

abbrev four : Float
four = fin false 1 (pos 2)

abbrev seven : Float
seven = fin false 7 (pos 0)

abbrev eight : Float
eight = fin false 1 (pos 3)

abbrev ten : Float
ten = fin false 5 (pos 1)

-- 120 and -120
abbrev forward : Float
forward = fin false 15 (pos 3)

abbrev backward : Float
backward = fin true 15 (pos 3)

-- 44,739,244 beats, as far as rows go
abbrev to_the_last_row : Float
to_the_last_row = fin false 11184811 (pos 2)

abbrev given : List (Float × Float)
given = (start, forward) ∷ (four, backward) ∷ []

-- the warp from beat 4 runs on to the end
abbrev goes_on_from : Output
goes_on_from = record { tempos = (start, forward) ∷ (four, backward) ∷ []; stops = []; warps = (four, to_the_last_row) ∷ [] }

pub pause_of_one : processed given ((eight, one) ∷ []) ≡ goes_on_from
unfolding walk_changes stops_before last_tempo tempos_by0 open_chart fits warp_over tempo_after owed_at keep_warp close_by_time pass_in_warp pass tempo_outside meet_tempo stop_outside close_by_stop begin_again stop_in_warp meet_stop warp_end_of finish_warp finish rint hold add sub mul div neg lt le eq of_int of_bits of_fields round sum size span climb units odd count_trailing_zeros
pause_of_one = refl

pub pause_of_two : processed given ((eight, two) ∷ []) ≡ goes_on_from
unfolding walk_changes stops_before last_tempo tempos_by0 open_chart fits warp_over tempo_after owed_at keep_warp close_by_time pass_in_warp pass tempo_outside meet_tempo stop_outside close_by_stop begin_again stop_in_warp meet_stop warp_end_of finish_warp finish rint hold add sub mul div neg lt le eq of_int of_bits of_fields round sum size span climb units odd count_trailing_zeros
pause_of_two = refl

pub pause_of_three : processed given ((eight, three) ∷ []) ≡ record { tempos = (start, forward) ∷ (eight, backward) ∷ []; stops = (eight, one) ∷ []; warps = (four, four) ∷ (eight, to_the_last_row) ∷ [] }
unfolding walk_changes stops_before last_tempo tempos_by0 open_chart fits warp_over tempo_after owed_at keep_warp close_by_time pass_in_warp pass tempo_outside meet_tempo stop_outside close_by_stop begin_again stop_in_warp meet_stop warp_end_of finish_warp finish rint hold add sub mul div neg lt le eq of_int of_bits of_fields round sum size span climb units odd count_trailing_zeros
pause_of_three = refl

pub pause_worked_off : processed ((start, forward) ∷ (four, backward) ∷ (eight, forward) ∷ []) ((ten, half) ∷ []) ≡ record { tempos = (start, forward) ∷ []; stops = []; warps = (four, seven) ∷ [] }
unfolding walk_changes stops_before last_tempo tempos_by0 open_chart fits warp_over tempo_after owed_at keep_warp close_by_time pass_in_warp pass tempo_outside meet_tempo stop_outside close_by_stop begin_again stop_in_warp meet_stop warp_end_of finish_warp finish rint hold add sub mul div neg lt le eq of_int of_bits of_fields round sum size span climb units odd count_trailing_zeros
pause_worked_off = refl
