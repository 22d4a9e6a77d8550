-- The rows of what is ahead of a state, kept between the events of a walk, and what is ahead by them. Definitions only.
use Rattle.std.specs.Prelude.{List, ℤ, int_lt, Float, Option, Some, None}
use Rattle.std.specs.Float.{binary64}
use Rattle.picks.specs.Pick.{pick}
use Rattle.rows.specs.Rows.{row}
use Rattle.clock_walk.specs.Events.{farthest, sooner}
use Rattle.clock_walk.specs.Quiet.{row_at, end_row}
use Rattle.chart.specs.declared.State.{State}
use Rattle.clock_walk.specs.declared.Next.{Next}
use Rattle.clock_walk.specs.declared.Heads.{Heads}
use Rattle.clock_walk.specs.declared.Event.{Event}
use Rattle.clock_walk.specs.declared.Event.TheVariants.{WarpEnd, Tempo, Delay, Stop, Warp}

-- the row of the warp's end and of the next entry of each list
unfoldable pub heads_of : (tempo_beats stop_beats delay_beats warp_beats : List Float) → State → Heads
heads_of tempo_beats stop_beats delay_beats warp_beats s = record {
  end = end_row s.warping s.end;
  tempo = row_at tempo_beats s.tempos;
  delay = row_at delay_beats s.delays;
  stop = row_at stop_beats s.stops;
  warp = row_at warp_beats s.warps;
}

-- after an event of a kind, which left the state: only what it passed is looked for anew
abbrev pub heads_after : (tempo_beats stop_beats delay_beats warp_beats : List Float) → Heads → State → Event → Heads
heads_after tempo_beats stop_beats delay_beats warp_beats h s WarpEnd = record { end = farthest; tempo = h.tempo; delay = h.delay; stop = h.stop; warp = h.warp }
heads_after tempo_beats stop_beats delay_beats warp_beats h s Tempo =
    record { end = h.end; tempo = row_at tempo_beats s.tempos; delay = h.delay; stop = h.stop; warp = h.warp }
heads_after tempo_beats stop_beats delay_beats warp_beats h s Delay =
    record { end = h.end; tempo = h.tempo; delay = row_at delay_beats s.delays; stop = h.stop; warp = h.warp }
heads_after tempo_beats stop_beats delay_beats warp_beats h s Stop =
    record { end = h.end; tempo = h.tempo; delay = h.delay; stop = row_at stop_beats s.stops; warp = h.warp }
heads_after tempo_beats stop_beats delay_beats warp_beats h s Warp =
    record { end = row binary64 s.end; tempo = h.tempo; delay = h.delay; stop = h.stop; warp = row_at warp_beats s.warps }

-- ---- what is ahead, by the rows alone

-- none of the rows: an event of the greatest i32, which goes before no beat
abbrev pub no_head : Next
no_head = record { row = farthest; kind = Warp }

unfoldable pub sooner_head : Next → ℤ → Event → Next
sooner_head best at kind = sooner (λ (n : Next). n.row) best (record { row = at; kind = kind })

-- the least row, ties as in `ahead`
unfoldable pub least_head : Heads → Next
least_head h =
    sooner_head (sooner_head (sooner_head (sooner_head (sooner_head no_head h.end WarpEnd) h.tempo Tempo) h.delay Delay) h.stop Stop) h.warp Warp

abbrev pub found_at : Next → Option Next
found_at n = pick (int_lt n.row farthest) (Some n) None

unfoldable pub ahead_of : Heads → Option Next
ahead_of h = found_at (least_head h)
