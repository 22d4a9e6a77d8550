-- The lent room for the list of events: a column of rows, one of kinds and one of numbers. Definitions only.
use Rattle.std.specs.Prelude.{ℕ, min, List, [], ◌∷◌, map, length, ℤ, nat_le, Float}
use Rattle.picks.specs.Pick.{pick}
use Rattle.limits.specs.Table.{no_room}
use Rattle.order.specs.Order.{laid}
use Rattle.chart.specs.Timing.{Timing}
use Rattle.clock_bench.specs.EventList.{with_a_tempo, most_events}
use Rattle.clock_bench.specs.declared.Listed.{Listed}

pub record EventRoom : Type 0 where
  pub rows : List ℤ
  pub kinds : List ℕ
  pub numbers : List Float

abbrev pub event_room : List ℤ → List ℕ → List Float → EventRoom
event_room rows kinds numbers = record { rows = rows; kinds = kinds; numbers = numbers }

-- the shortest of the columns counts
unfoldable pub places_of : EventRoom → ℕ
places_of room = min (length room.rows) (min (length room.kinds) (length room.numbers))

-- 7 where they are fewer than the events that a timing of so many entries can have
unfoldable pub event_room_number : Timing → EventRoom → ℕ
event_room_number t room = pick (nat_le (most_events (with_a_tempo t)) (places_of room)) 0 no_room

abbrev pub listed_row : Listed → ℤ
listed_row e = e.row

abbrev pub listed_kind : Listed → ℕ
listed_kind e = e.kind

abbrev pub listed_number : Listed → Float
listed_number e = e.number

-- a list over the fronts of the columns
unfoldable pub room_with : List Listed → EventRoom → EventRoom
room_with list room = record {
  rows = laid (map listed_row list) room.rows;
  kinds = laid (map listed_kind list) room.kinds;
  numbers = laid (map listed_number list) room.numbers;
}

-- the events that stand in the columns, as far as all three go
unfoldable pub listed_in : List ℤ → List ℕ → List Float → List Listed
listed_in [] kinds numbers = []
listed_in (r ∷ rows) [] numbers = []
listed_in (r ∷ rows) (k ∷ kinds) [] = []
listed_in (r ∷ rows) (k ∷ kinds) (x ∷ numbers) = record { row = r; kind = k; number = x } ∷ listed_in rows kinds numbers
