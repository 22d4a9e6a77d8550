-- Small sheets that show where it is easy to go wrong, by computation. Assumes nothing.
use mathlib.Core.Path.{◌≡◌, refl}
use mathlib.Core.List.{[], ◌∷◌}
use lib.IntN.{pos, negsuc}
use lib.Ieee.{Float, fin, lt, le, eq, neg}
use Rattle.limits.specs.Numbers.{in_range, every, row_in}
use Rattle.limits.specs.Refusals.{lower, list_number}
use Rattle.chart.specs.Timing.{timing}
use Rattle.chart.specs.ChartColumns.{list_columns}
use Rattle.limits.specs.Neighbours.{neighbours}
use Rattle.clock_tests.specs.TimingNumbers.{rises, starts_at_zero, timing_lists_number, offset_number, offsets_number, order_number, timing_number}
use Rattle.lookup_tests.specs.Refused.{rows_rise, rising_number}
use Rattle.note_sheet.specs.Snap.{place_in_beat, first_rule, snap_of}
use Rattle.note_sheet.specs.declared.Snap.TheVariants.{Eighth, Sixteenth, TwentyFourth, OneNinetySecond}
use Rattle.note_sheet.specs.Sheet.{Song, song, rows_order_number, sheet_room_number, sheet_number}
use mathlib.Core.Bool.{false}

-- ---- colours

-- row -1 is the last place of the beat before
one-before : place_in_beat (negsuc 0) ≡ 47
unfolding place_in_beat
one-before = refl

its_colour : snap_of (negsuc 0) ≡ OneNinetySecond
unfolding place_in_beat first_rule
its_colour = refl

half_a_beat_before : snap_of (negsuc 23) ≡ Eighth
unfolding place_in_beat first_rule
half_a_beat_before = refl

-- 24 is a multiple of 12 and of 8 too, and 36 of 6, 4 and 3: the first rule counts
half_a_beat : snap_of (pos 72) ≡ Eighth
unfolding place_in_beat first_rule
half_a_beat = refl

three_quarters : snap_of (pos 36) ≡ Sixteenth
unfolding place_in_beat first_rule
three_quarters = refl

a_sixth : snap_of (pos 40) ≡ TwentyFourth
unfolding place_in_beat first_rule
a_sixth = refl

-- ---- numbers, over a song without any list
abbrev nothing : Float
nothing = fin false 0 (pos 0)

abbrev silent : Song
silent = song (timing [] [] [] [] [] [] [] []) nothing nothing (list_columns [] [])

no_rows : sheet_number silent [] 0 ≡ 0
unfolding sheet_number rows_order_number sheet_room_number neighbours every lower list_number in_range rises starts_at_zero timing_lists_number offset_number offsets_number order_number timing_number rows_rise rising_number lt le eq neg
no_rows = refl

equal-rows : sheet_number silent (pos 0 ∷ pos 0 ∷ []) 2 ≡ 5
unfolding sheet_number rows_order_number sheet_room_number neighbours every row_in lower list_number in_range rises starts_at_zero timing_lists_number offset_number offsets_number order_number timing_number rows_rise rising_number lt le eq neg
equal-rows = refl

-- beyond the limit, falling, and no room: the lowest number
beyond_and_falling : sheet_number silent (pos 3145729 ∷ pos 0 ∷ []) 0 ≡ 3
unfolding sheet_number rows_order_number sheet_room_number neighbours every row_in lower list_number in_range rises starts_at_zero timing_lists_number offset_number offsets_number order_number timing_number rows_rise rising_number lt le eq neg
beyond_and_falling = refl

at_the_limit : sheet_number silent (negsuc 3145727 ∷ pos 3145728 ∷ []) 2 ≡ 0
unfolding sheet_number rows_order_number sheet_room_number neighbours every row_in lower list_number in_range rises starts_at_zero timing_lists_number offset_number offsets_number order_number timing_number rows_rise rising_number lt le eq neg
at_the_limit = refl

no_room : sheet_number silent (pos 0 ∷ pos 1 ∷ []) 1 ≡ 7
unfolding sheet_number rows_order_number sheet_room_number neighbours every row_in lower list_number in_range rises starts_at_zero timing_lists_number offset_number offsets_number order_number timing_number rows_rise rising_number lt le eq neg
no_room = refl
