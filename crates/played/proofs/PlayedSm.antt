-- The SM examples hold, step by step: the changes, the walk over them, and the tempos tidied. By computation. Assumes nothing.
use mathlib.Core.Path.{◌≡◌, refl, ap, ◌∙◌}
use mathlib.Core.Bool.{true, false}
use mathlib.Core.List.{List, [], ◌∷◌}
use lib.IntN.{pos}
use lib.Count.{count_trailing_zeros}
use lib.Ieee.{Float, fin, add, sub, mul, div, of_int, of_bits, of_fields, neg, lt, le, eq, to_bits, round, sum, size, span, climb, units, odd}
use Rattle.ieee.specs.Rounding.{rint, hold}
use Rattle.ieee.specs.Narrowing.{convert, narrow}
use Rattle.order.specs.Order.{run, ins, ordered, put, tidied}
use Rattle.order.specs.Entries.{entries}
use Rattle.order.specs.FloatKey.{float_key}
use Rattle.columns.specs.Kept.{kept}
use Rattle.tidy_tempos.specs.TempoTidying.{from_zero_else, changes_after, changes, tidy_tempos}
use Rattle.process_sm_changes.specs.SmChanges.{stays_sm, sm_changes}
use Rattle.process_sm_machine.specs.Machine.{fits, warp_over, tempo_after, open_chart, owed_at, keep_warp, close_by_time, pass_in_warp, pass, tempo_outside, meet_tempo, warp_end_of, finish_warp, finish}
use Rattle.process_sm_walk.specs.Chart.{Output, processed, walk_changes, stops_before, last_tempo, tempos_by0}
use Rattle.tidy_tempos.specs.TempoTidying.{tidied_tempos as Sm·tidied}
use Rattle.played.specs.Numbers.{decimal_float, whole_float}
use Rattle.played.specs.Table.{sm_of}

abbrev start : Float
start = fin false 0 (pos 0)

abbrev four : Float
four = fin false 1 (pos 2)

abbrev eight : Float
eight = fin false 1 (pos 3)

-- 120 and -120
abbrev forward : Float
forward = fin false 15 (pos 3)

abbrev backward : Float
backward = fin true 15 (pos 3)

abbrev three : List (Float × Float)
three = (start, forward) ∷ (four, backward) ∷ (eight, forward) ∷ []

abbrev two : List (Float × Float)
two = (start, backward) ∷ (four, forward) ∷ []

abbrev tidied_of : Output → Output
tidied_of output = record { tempos = Sm·tidied output.tempos; stops = output.stops; warps = output.warps }

abbrev output_of : List (Float × Float) → List (Float × Float) → Output
output_of tempos warps = record { tempos = tempos; stops = []; warps = warps }

no-stops : sm_changes [] [] ≡ []
unfolding kept entries run ordered
no-stops = refl

three-changes : sm_changes (whole_float 0 ∷ whole_float 4 ∷ whole_float 8 ∷ []) (whole_float 120 ∷ neg (whole_float 120) ∷ whole_float 120 ∷ []) ≡ (start, forward) ∷ (four, backward) ∷ (eight, forward) ∷ []
unfolding decimal_float neg eq to_bits round convert narrow run ins ordered entries float_key kept stays_sm
three-changes = refl

two-changes : sm_changes (whole_float 0 ∷ whole_float 4 ∷ []) (neg (whole_float 120) ∷ whole_float 120 ∷ []) ≡ (start, backward) ∷ (four, forward) ∷ []
unfolding decimal_float neg eq to_bits round convert narrow run ins ordered entries float_key kept stays_sm
two-changes = refl

three-walked : processed ((start, forward) ∷ (four, backward) ∷ (eight, forward) ∷ []) [] ≡ record { tempos = (start, forward) ∷ []; stops = []; warps = (four, eight) ∷ [] }
unfolding walk_changes stops_before last_tempo tempos_by0 open_chart fits warp_over tempo_after owed_at keep_warp close_by_time pass_in_warp pass tempo_outside meet_tempo warp_end_of finish_warp finish rint hold add sub mul div neg lt le eq of_int of_bits of_fields round sum size span climb units odd count_trailing_zeros
three-walked = refl

two-walked : processed ((start, backward) ∷ (four, forward) ∷ []) [] ≡ record { tempos = (four, forward) ∷ []; stops = []; warps = [] }
unfolding walk_changes stops_before last_tempo tempos_by0 open_chart fits warp_over tempo_after owed_at keep_warp close_by_time pass_in_warp pass tempo_outside meet_tempo warp_end_of finish_warp finish rint hold add sub mul div neg lt le eq of_int of_bits of_fields round sum size span climb units odd count_trailing_zeros
two-walked = refl

tidied_at_start : Sm·tidied ((start, forward) ∷ []) ≡ (whole_float 0, whole_float 120) ∷ []
unfolding decimal_float round eq to_bits run put tidied entries float_key from_zero_else changes_after changes tidy_tempos
tidied_at_start = refl

tidied_at_four : Sm·tidied ((four, forward) ∷ []) ≡ (whole_float 0, whole_float 120) ∷ []
unfolding decimal_float round eq to_bits run put tidied entries float_key from_zero_else changes_after changes tidy_tempos
tidied_at_four = refl

warp_as_given : ◌≡◌ {A = List (Float × Float)} ((four, eight) ∷ []) ((whole_float 4, whole_float 8) ∷ [])
unfolding decimal_float round
warp_as_given = refl

pub sm_backward : sm_of (whole_float 0 ∷ whole_float 4 ∷ whole_float 8 ∷ []) (whole_float 120 ∷ neg (whole_float 120) ∷ whole_float 120 ∷ []) ≡ record { tempos = (whole_float 0, whole_float 120) ∷ []; stops = []; warps = (whole_float 4, whole_float 8) ∷ [] }
sm_backward =
    ap (λ (l : List (Float × Float)). tidied_of (processed l (sm_changes [] []))) three-changes
    ∙ ap (λ (l : List (Float × Float)). tidied_of (processed three l)) no-stops
    ∙ ap tidied_of three-walked
    ∙ ap (λ (l : List (Float × Float)). output_of l ((four, eight) ∷ [])) tidied_at_start
    ∙ ap (λ (l : List (Float × Float)). output_of ((whole_float 0, whole_float 120) ∷ []) l) warp_as_given

pub sm_backward_from_the_start : sm_of (whole_float 0 ∷ whole_float 4 ∷ []) (neg (whole_float 120) ∷ whole_float 120 ∷ []) ≡ record { tempos = (whole_float 0, whole_float 120) ∷ []; stops = []; warps = [] }
sm_backward_from_the_start =
    ap (λ (l : List (Float × Float)). tidied_of (processed l (sm_changes [] []))) two-changes
    ∙ ap (λ (l : List (Float × Float)). tidied_of (processed two l)) no-stops
    ∙ ap tidied_of two-walked
    ∙ ap (λ (l : List (Float × Float)). output_of l []) tidied_at_four
