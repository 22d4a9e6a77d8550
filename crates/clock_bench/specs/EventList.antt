-- All events of a timing as one list, in the order in which they fall, the ends of warps among them. Definitions only.
use Rattle.std.specs.Prelude.{ℕ, zero, suc, ◌+◌, ◌*◌, Bool, true, false, List, [], ◌∷◌, length, ℤ, pos, ◌==◌, int_lt, nat_lt, slice_index_or, Float}
use Rattle.std.specs.Float.{nan, binary64}
use Rattle.std.specs.Float.Ieee.{add, lt}
use Rattle.ieee.specs.Constants.{plus_zero, sixty}
use Rattle.picks.specs.Pick.{pick}
use Rattle.rows.specs.Rows.{row}
use Rattle.chart.specs.Timing.{Timing}
use Rattle.clock_bench.specs.declared.Head.{Head}
use Rattle.clock_bench.specs.declared.Listed.{Listed}
use Rattle.clock_bench.specs.declared.Spot.{Spot}

-- ---- the kinds of event, numbered in the order in which they come on one row; the asked beat comes after a delay and before a stop

abbrev pub warp_ends : ℕ
warp_ends = 0

abbrev pub tempo_begins : ℕ
tempo_begins = 1

abbrev pub delay_begins : ℕ
delay_begins = 2

abbrev pub stop_begins : ℕ
stop_begins = 3

abbrev pub warp_begins : ℕ
warp_begins = 4

-- no kind of event: nothing is left
abbrev pub none_left : ℕ
none_left = 5

-- ---- the timing that is laid out

-- a timing without a tempo has the one of 60 at beat 0
unfoldable pub with_a_tempo : Timing → Timing
with_a_tempo t =
    pick (length t.tempo_beats == 0)
    (record {
      tempo_beats = plus_zero ∷ [];
      tempo_values = sixty ∷ [];
      stop_beats = t.stop_beats;
      stop_values = t.stop_values;
      delay_beats = t.delay_beats;
      delay_values = t.delay_values;
      warp_beats = t.warp_beats;
      warp_lengths = t.warp_lengths;
    })
    t

-- how many events a timing can have: a warp has two, where it begins and where it ends
unfoldable pub most_events : Timing → ℕ
most_events t = length t.tempo_beats + length t.stop_beats + length t.delay_beats + 2 * length t.warp_beats

-- ---- which event falls next

-- of two heads only one on a lower row takes the other's place
unfoldable pub lower_head : Head → ℤ → ℕ → Head
lower_head best at kind = pick (int_lt at best.row) (record { row = at; kind = kind }) best

-- the entry at a place of a list, if there is one
unfoldable pub or_entry : Head → List Float → ℕ → ℕ → Head
or_entry best beats place kind = pick (nat_lt place (length beats)) (lower_head best (row binary64 (slice_index_or beats place nan)) kind) best

-- the end of the open warp, if one is open
unfoldable pub or_end : Head → Bool → Float → Head
or_end best warping end = pick warping (lower_head best (row binary64 end) warp_ends) best

-- before anything is found: the greatest i32, which no row is below, so that an event on it never falls
abbrev pub nothing_left : Head
nothing_left = record { row = pos 2147483647; kind = none_left }

-- The least row is next, and on one row the least kind.
unfoldable pub next_head : (tempo_beats stop_beats delay_beats warp_beats : List Float) → Spot → Head
next_head tempo_beats stop_beats delay_beats warp_beats p =
    or_entry
    (or_entry
    (or_entry (or_entry (or_end nothing_left p.warping p.end) tempo_beats p.tempos tempo_begins) delay_beats p.delays delay_begins)
    stop_beats p.stops stop_begins)
    warp_beats p.warps warp_begins

-- ---- laying it

-- a warp's own end counts where it lies beyond the furthest so far, which is not forgotten once it is reached
unfoldable pub further_end : Float → Float → Float
further_end old own = pick (lt old own) own old

-- What an event brings: a tempo, the seconds of a pause, the beat where a warp ends.
unfoldable pub bringing : (tempo_values stop_values delay_values warp_beats warp_lengths : List Float) → Spot → ℕ → Float
bringing tempo_values stop_values delay_values warp_beats warp_lengths p kind =
    pick (kind == tempo_begins) (slice_index_or tempo_values p.tempos nan)
    (pick (kind == delay_begins) (slice_index_or delay_values p.delays nan)
    (pick (kind == stop_begins) (slice_index_or stop_values p.stops nan)
    (pick (kind == warp_begins) (further_end p.end (add binary64 (slice_index_or warp_beats p.warps nan) (slice_index_or warp_lengths p.warps nan))) p.end)))

-- how far the laying has come past an event of a kind, which brings a number
unfoldable pub spot_past : Spot → ℕ → Float → Spot
spot_past p kind number =
    pick (kind == tempo_begins) (record { tempos = p.tempos + 1; stops = p.stops; delays = p.delays; warps = p.warps; end = p.end; warping = p.warping })
    (pick (kind == delay_begins) (record { tempos = p.tempos; stops = p.stops; delays = p.delays + 1; warps = p.warps; end = p.end; warping = p.warping })
    (pick (kind == stop_begins) (record { tempos = p.tempos; stops = p.stops + 1; delays = p.delays; warps = p.warps; end = p.end; warping = p.warping })
    (pick (kind == warp_begins) (record { tempos = p.tempos; stops = p.stops; delays = p.delays; warps = p.warps + 1; end = number; warping = true })
    (record { tempos = p.tempos; stops = p.stops; delays = p.delays; warps = p.warps; end = p.end; warping = false }))))

-- the event that falls next from a spot on
unfoldable pub next_listed : Timing → Spot → Listed
next_listed t p =
    let head = next_head t.tempo_beats t.stop_beats t.delay_beats t.warp_beats p in
    record { row = head.row; kind = head.kind; number = bringing t.tempo_values t.stop_values t.delay_values t.warp_beats t.warp_lengths p head.kind }

-- the events from a spot on, so many at most
unfoldable pub listed_within : ℕ → Timing → Spot → List Listed
listed_within zero t p = []
listed_within (suc most) t p =
    let e = next_listed t p in
    pick (e.kind == none_left) [] (e ∷ listed_within most t (spot_past p e.kind e.number))

abbrev pub first_spot : Spot
first_spot = record { tempos = 0; stops = 0; delays = 0; warps = 0; end = plus_zero; warping = false }

-- all of them
unfoldable pub event_list : Timing → List Listed
event_list t = listed_within (most_events (with_a_tempo t)) (with_a_tempo t) first_spot
