-- The rule of the next event as it is written down: the least row among six candidates, of which the asked beat is one. Definitions only.
use Rattle.std.specs.Prelude.{Bool, true, false, ℤ, Option, Some, None}
use Rattle.chart.specs.Timing.{Timing}
use Rattle.clock_walk.specs.Events.{farthest, sooner, offered, end_offered}
use Rattle.chart.specs.declared.State.{State}
use Rattle.clock_walk.specs.declared.Next.{Next}
use Rattle.clock_walk.specs.declared.Event.TheVariants.{Tempo, Delay, Stop, Warp}

pub data Candidate : Type 0 where
  event : Next → Candidate
  asked_beat : ℤ → Candidate
  nothing : Candidate

abbrev pub candidate_row : Candidate → ℤ
candidate_row (event n) = n.row
candidate_row (asked_beat asked) = asked
candidate_row nothing = farthest

-- The least row is next. On one row the warp's end comes first, then the tempo, the delay, the asked beat, the stop, the warp.
unfoldable pub next : Timing → ℤ → State → Candidate
next t asked s =
    let entry = offered candidate_row event in
    entry
    (entry
    (sooner candidate_row
    (entry (entry (end_offered candidate_row event nothing s.warping s.end) t.tempo_beats s.tempos Tempo) t.delay_beats s.delays Delay)
    (asked_beat asked))
    t.stop_beats s.stops Stop)
    t.warp_beats s.warps Warp

abbrev pub is_nothing : Candidate → Bool
is_nothing (event n) = false
is_nothing (asked_beat asked) = false
is_nothing nothing = true

-- what is due, as a candidate
abbrev pub candidate_of : ℤ → Option Next → Candidate
candidate_of asked (Some n) = event n
candidate_of asked None = asked_beat asked
