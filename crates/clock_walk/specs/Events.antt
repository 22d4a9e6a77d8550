-- What is ahead of a state, and what a walk to an asked beat meets next. Definitions only.
use Rattle.std.specs.Prelude.{ℕ, Bool, true, false, List, length, ℤ, pos, int_lt, nat_lt, slice_index_or, Float, Option, Some, None}
use Rattle.std.specs.Float.{nan, binary64}
use Rattle.picks.specs.Pick.{pick}
use Rattle.chart.specs.Timing.{Timing}
use Rattle.rows.specs.Rows.{row}
use Rattle.chart.specs.declared.State.{State}
use Rattle.clock_walk.specs.declared.Next.{Next}
use Rattle.clock_walk.specs.declared.Event.{Event}
use Rattle.clock_walk.specs.declared.Event.TheVariants.{WarpEnd, Tempo, Delay, Stop, Warp}

-- ---- a search by rows, over candidates of any kind

-- where nothing is found: the greatest i32, which no row is below, so that an event on it is never found
abbrev pub farthest : ℤ
farthest = pos 2147483647

-- one more candidate: only one on a lower row takes the place of what was found so far
unfoldable pub sooner : {A : Type 0} → (A → ℤ) → A → A → A
sooner row_of best c = pick (int_lt (row_of c) (row_of best)) c best

-- the entry at a place of a list, if there is one, as a candidate
unfoldable pub offered : {A : Type 0} → (A → ℤ) → (Next → A) → A → List Float → ℕ → Event → A
offered row_of made best beats place kind =
    pick (nat_lt place (length beats)) (sooner row_of best (made (record { row = row binary64 (slice_index_or beats place nan); kind = kind }))) best

-- the end of the warp, while warping
unfoldable pub end_offered : {A : Type 0} → (A → ℤ) → (Next → A) → A → Bool → Float → A
end_offered row_of made best warping end = pick warping (sooner row_of best (made (record { row = row binary64 end; kind = WarpEnd }))) best

-- ---- what is ahead

abbrev pub row_ahead : Option Next → ℤ
row_ahead (Some n) = n.row
row_ahead None = farthest

-- The least row is ahead. On one row the warp's end comes first, then the tempo, the delay, the stop, the warp.
unfoldable pub ahead : Timing → State → Option Next
ahead t s =
    let entry = offered row_ahead Some in
    entry
    (entry
    (entry (entry (end_offered row_ahead Some None s.warping s.end) t.tempo_beats s.tempos Tempo) t.delay_beats s.delays Delay)
    t.stop_beats s.stops Stop)
    t.warp_beats s.warps Warp

-- ---- what is due: an event that goes before the asked beat, or the asked beat

-- on the row of the asked beat
abbrev pub goes_first : Event → Bool
goes_first WarpEnd = true
goes_first Tempo = true
goes_first Delay = true
goes_first Stop = false
goes_first Warp = false

-- on a lower row, or on the asked one and going first there
unfoldable pub goes_before : ℤ → Next → Bool
goes_before asked n = pick (int_lt n.row asked) true (pick (int_lt asked n.row) false (goes_first n.kind))

abbrev pub due_of : ℤ → Option Next → Option Next
due_of asked (Some n) = pick (goes_before asked n) (Some n) None
due_of asked None = None

abbrev pub due : Timing → ℤ → State → Option Next
due t asked s = due_of asked (ahead t s)
