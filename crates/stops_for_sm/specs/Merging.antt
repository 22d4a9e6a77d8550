-- Stops, delays and warps as the stops of an SM chart: three lists walked at once, all in f32. Definitions only.
use Rattle.std.specs.Prelude.{ℕ, zero, suc, ◌+◌, ◌-◌, ◌/◌, Bool, true, false, List, [], ◌∷◌, ◌++◌, length, drop, nat_lt, slice_index_or, Float}
use Rattle.std.specs.Float.{nan, inf, binary32}
use Rattle.std.specs.Float.Ieee.{add, sub, mul, div, lt, le, eq, ne}
use Rattle.ieee.specs.Constants.{plus_zero, sixty}
use Rattle.picks.specs.Pick.{pick}

-- the lists; stops are flat, a beat and then its value
pub record Sources : Type 0 where
  pub tempo_beats : List Float
  pub tempo_values : List Float
  pub stops : List Float
  pub delay_beats : List Float
  pub delay_values : List Float
  pub warp_beats : List Float
  pub warp_lengths : List Float

abbrev pub sources : (tempo_beats tempo_values stops delay_beats delay_values warp_beats warp_lengths : List Float) → Sources
sources tempo_beats tempo_values stops delay_beats delay_values warp_beats warp_lengths = record {
  tempo_beats = tempo_beats;
  tempo_values = tempo_values;
  stops = stops;
  delay_beats = delay_beats;
  delay_values = delay_values;
  warp_beats = warp_beats;
  warp_lengths = warp_lengths;
}

-- a place in each list: that of the tempo in force, and of the next stop, delay and warp; that of stops moves by two
pub record Heads : Type 0 where
  pub tempo : ℕ
  pub stop : ℕ
  pub delay : ℕ
  pub warp : ℕ

-- the beat and the sum of one turn, and the places after it
pub record Turned : Type 0 where
  pub heads : Heads
  pub beat : Float
  pub value : Float

-- ---- the least beat of the three heads

-- a head takes the place of the least so far only where it is less: of equal beats the first list's bits are kept
unfoldable pub lesser : Float → List Float → ℕ → Float
lesser least beats place = pick (nat_lt place (length beats)) (pick (lt (slice_index_or beats place nan) least) (slice_index_or beats place nan) least) least

unfoldable pub least_beat : (stops delay_beats warp_beats : List Float) → Heads → Float
least_beat stops delay_beats warp_beats h = lesser (lesser (lesser (inf false) stops h.stop) delay_beats h.delay) warp_beats h.warp

-- whether a list's head is on a beat, by value
unfoldable pub meets : List Float → ℕ → Float → Bool
meets beats place beat = pick (nat_lt place (length beats)) (eq (slice_index_or beats place nan) beat) false

-- ---- what is added and taken away there

abbrev pub plus : Bool → Float → Float → Float
plus met sum value = pick met (add binary32 sum value) sum

-- how many of a list's leading beats are at or before a beat
unfoldable pub leading : Float → List Float → ℕ
leading beat [] = 0
leading beat (b ∷ beats) = pick (le b beat) (suc (leading beat beats)) 0

-- the tempo's place moves forward only, and only where a warp is met: to the last of the leading tempos up to the beat
unfoldable pub forward : List Float → ℕ → Float → ℕ
forward tempo_beats place beat = place + leading beat (drop (place + 1) tempo_beats)

abbrev pub tempo_place : Bool → List Float → ℕ → Float → ℕ
tempo_place met tempo_beats place beat = pick met (forward tempo_beats place beat) place

-- a warp takes away the time that it would have lasted: 60 over the tempo, times its length
abbrev pub less : Bool → Float → Float → Float → Float
less met sum tempo length = pick met (sub binary32 sum (mul binary32 (div binary32 sixty tempo) length)) sum

abbrev pub moved_on : Bool → ℕ → ℕ → ℕ
moved_on met place by = pick met (place + by) place

-- ---- one turn: the least beat, its sum, and the heads after it
module _ (s : Sources) (h : Heads) where
  abbrev pub beat_here : Float
  beat_here = least_beat s.stops s.delay_beats s.warp_beats h

  abbrev pub stop_met : Bool
  stop_met = meets s.stops h.stop beat_here

  abbrev pub delay_met : Bool
  delay_met = meets s.delay_beats h.delay beat_here

  abbrev pub warp_met : Bool
  warp_met = meets s.warp_beats h.warp beat_here

  abbrev pub tempo_here : ℕ
  tempo_here = tempo_place warp_met s.tempo_beats h.tempo beat_here

  abbrev pub pauses_met : Float
  pauses_met = plus delay_met (plus stop_met plus_zero (slice_index_or s.stops (h.stop + 1) nan)) (slice_index_or s.delay_values h.delay nan)

  unfoldable pub turn : Turned
  turn = record {
    heads = record {
      tempo = tempo_here;
      stop = moved_on stop_met h.stop 2;
      delay = moved_on delay_met h.delay 1;
      warp = moved_on warp_met h.warp 1;
    };
    beat = beat_here;
    value = less warp_met pauses_met (slice_index_or s.tempo_values tempo_here nan) (slice_index_or s.warp_lengths h.warp nan);
  }

  -- no list has a head
  unfoldable pub is_over : Bool
  is_over =
      pick (nat_lt h.stop (length s.stops)) false
      (pick (nat_lt h.delay (length s.delay_beats)) false (pick (nat_lt h.warp (length s.warp_beats)) false true))

  -- how many turns there are at most: one for each entry
  abbrev pub turns_left : ℕ
  turns_left = (length s.stops + 1 - h.stop) / 2 + (length s.delay_beats - h.delay) + (length s.warp_beats - h.warp)

-- a sum of zero is dropped
unfoldable pub sum_written : Turned → List (Float × Float)
sum_written turned = pick (ne turned.value plus_zero) ((turned.beat, turned.value) ∷ []) []

-- with so many turns at most; the flag says whether it is over
unfoldable pub merged_within : ℕ → Bool → Sources → Heads → List (Float × Float)
merged_within zero over s h = []
merged_within (suc most) true s h = []
merged_within (suc most) false s h = sum_written (turn s h) ++ merged_within most (is_over s (turn s h).heads) s (turn s h).heads

unfoldable pub merged_stops : Sources → Heads → List (Float × Float)
merged_stops s h = merged_within (turns_left s h) (is_over s h) s h

abbrev pub at_first : Heads
at_first = record { tempo = 0; stop = 0; delay = 0; warp = 0 }
