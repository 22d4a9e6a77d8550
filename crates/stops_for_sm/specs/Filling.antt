-- The stops of an SM chart in a lent work list, or the caller's own list: the one outcome. Definitions only.
use Rattle.std.specs.Prelude.{◌≡◌, ℕ, ◌+◌, ◌*◌, ◌/◌, ◌%◌, Bool, true, false, List, [], ◌∷◌, map, length, take, ◌==◌, nat_le, nat_lt, Float}
use Rattle.limits.specs.Table.{uneven, no_room, no_tempo_given}
use Rattle.picks.specs.Pick.{pick}
use Rattle.limits.specs.declared.Kind.TheVariants.{Beat, Tempo, Pause, Value}
use Rattle.limits.specs.declared.Range.{Range}
use Rattle.limits.specs.Numbers.{range_of, in_range}
use Rattle.limits.specs.Refusals.{lower, list_number}
use Rattle.order.specs.Order.{laid}
use Rattle.columns.specs.Laying.{given}
use Rattle.stops_for_sm.specs.Merging.{Sources, merged_stops, at_first}
use Rattle.stops_for_sm.specs.declared.Filled.{Filled}

-- every beat, and every value, of a flat list
unfoldable pub beats_in : Range → List Float → Bool
beats_in range [] = true
beats_in range (beat ∷ []) = in_range range beat
beats_in range (beat ∷ value ∷ list) = pick (in_range range beat) (beats_in range list) false

unfoldable pub values_in : Range → List Float → Bool
values_in range [] = true
values_in range (beat ∷ []) = true
values_in range (beat ∷ value ∷ list) = pick (in_range range value) (values_in range list) false

-- a flat list has an even length
abbrev pub is_even : ℕ → Bool
is_even size = size % 2 == 0

-- a flat list by itself: more than 1,024 entries, an odd length, a beat, a value
unfoldable pub flat_number : Range → Range → List Float → ℕ
flat_number beat value list =
    pick (nat_lt 2048 (length list)) 1 (pick (is_even (length list)) (pick (beats_in beat list) (pick (values_in value list) 0 4) 3) 2)

-- entries in a flat list
unfoldable pub flat : List (Float × Float) → List Float
flat [] = []
flat (e ∷ list) = e.0 ∷ e.1 ∷ flat list

-- whether the caller's list is the answer: there is no delay and no warp
abbrev pub is_own : Sources → Bool
is_own s = pick (length s.delay_beats == 0) (length s.warp_beats == 0) false

-- the lowest number of the lists, the work list's size among them
unfoldable pub sources_number : Sources → ℕ → ℕ
sources_number s size =
    lower (lower (list_number (range_of Beat) (range_of Tempo) s.tempo_beats s.tempo_values) (flat_number (range_of Beat) (range_of Pause) s.stops))
    (lower (lower (list_number (range_of Beat) (range_of Pause) s.delay_beats s.delay_values) (list_number (range_of Beat) (range_of Value) s.warp_beats s.warp_lengths))
    (pick (is_even size) 0 uneven))

-- a warp and no tempo
abbrev pub lacks_tempo : Sources → Bool
lacks_tempo s = pick (length s.tempo_beats == 0) (nat_lt 0 (length s.warp_beats)) false

-- 8 for a warp and no tempo, and 7 for a result that is longer than its room, which is not asked then
unfoldable pub result_number : Sources → ℕ → ℕ
result_number s room =
    pick (is_own s) 0 (pick (lacks_tempo s) no_tempo_given (pick (nat_le (length (merged_stops s at_first)) room) 0 no_room))

unfoldable pub fill_number : Sources → ℕ → ℕ
fill_number s size = pick (sources_number s size == 0) (result_number s (size / 2)) (sources_number s size)

-- what is written: nothing after a refusal, nor where the caller's list is the answer
unfoldable pub filling : ℕ → Sources → List (Float × Float)
filling number s = given number (pick (is_own s) [] (merged_stops s at_first))

-- the one outcome: the number, the entries written, whether the caller's list is the answer, and the work list to its last place
pub record StopsFilled (s : Sources) (outcome : Filled) (old new : List Float) : Type 0 where
  pub number : outcome.number ≡ fill_number s (length old)
  pub count : outcome.count ≡ length (filling outcome.number s)
  pub own : outcome.own ≡ pick (outcome.number == 0) (is_own s) false
  pub work : new ≡ laid (flat (filling outcome.number s)) old

-- the caller's stops, or the filled part of the work list; a count that it has not is none
unfoldable pub chosen : Filled → List Float → List Float → List Float
chosen filled stops work = pick filled.own stops (pick (nat_le filled.count (length work / 2)) (take (filled.count * 2) work) [])
