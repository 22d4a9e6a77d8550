-- What was laid can be read back as the list; a call that is refused leaves its room, and one that is taken has room for all. Assumes nothing.
use Rattle.std.proofs.Common.{◌≡◌, ℕ, zero, suc, ◌+◌, ◌≤◌, min, Bool, true, false, eqb, leb, List, [], ◌∷◌, ◌++◌, map, length, take, ℤ, sym, refl, ap, ◌∙◌, arith, length-append, ne_eqb, leb-true}
use lib.ListN.{length-map}
use lib.Ieee.{Float, binary64, sub, neg}
use Rattle.ieee.specs.Constants.{plus_zero}
use Rattle.picks.specs.Pick.{pick}
use Rattle.limits.specs.Table.{no_room}
use Rattle.limits.proofs.NoRefusal.{lower-none}
use Rattle.rows.specs.Rows.{row}
use Rattle.order.specs.Order.{laid}
use Rattle.columns.specs.Laying.{given, refused_by}
use Rattle.chart.specs.Timing.{Timing}
use Rattle.clock_tests.specs.TimingNumbers.{timing_number, beat_number}
use Rattle.clock_bench.specs.EventList.{none_left, with_a_tempo, most_events, next_listed, spot_past, first_spot, listed_within, event_list}
use Rattle.clock_bench.specs.EventRoom.{EventRoom, event_room, places_of, event_room_number, listed_row, listed_kind, listed_number, room_with, listed_in}
use Rattle.clock_bench.specs.RunningDown.{comes_before, runner_past, time_on, run_down, set_off}
use Rattle.clock_bench.specs.BenchQuestion.{laying_number, EventsLaid, tempo_at_the_start, runner_at, bench_number, bench_refused, bench_question, BenchAnswered}
use Rattle.clock_bench.specs.declared.Listed.{Listed}
use Rattle.clock_bench.specs.declared.Spot.{Spot}
use Rattle.clock_bench.specs.declared.Runner.{Runner}
use Rattle.clock_bench.proofs.RunsOn.{one_more}

-- ---- how long the list is, and how many of it are passed

pub listed-most : (most : ℕ) (t : Timing) (p : Spot) → length (listed_within most t p) ≤ most
unfolding listed_within
listed-most zero t p = omega arith
listed-most (suc most) t p = go (eqb (next_listed t p).kind none_left) (listed-most most t (spot_past p (next_listed t p).kind (next_listed t p).number))
  where
    go : (b : Bool) → length (listed_within most t (spot_past p (next_listed t p).kind (next_listed t p).number)) ≤ most
        → length (pick b [] (next_listed t p ∷ listed_within most t (spot_past p (next_listed t p).kind (next_listed t p).number))) ≤ suc most
    go true h = omega arith
    go false h = omega arith

passed-most : (asked : ℤ) (x : Runner) (list : List Listed) → (run_down asked x list).passed ≤ x.passed + length list
unfolding run_down
passed-most asked x [] = omega arith
passed-most asked x (e ∷ list) = go (comes_before asked e.row e.kind) (passed-most asked (runner_past x e.row e.kind e.number) list)
  where
    go : (b : Bool) → (run_down asked (runner_past x e.row e.kind e.number) list).passed ≤ (runner_past x e.row e.kind e.number).passed + length list
        → (pick b (run_down asked (runner_past x e.row e.kind e.number) list) x).passed ≤ x.passed + length (e ∷ list)
    go true h = omega (arith, h, one_more x e.row e.kind e.number)
    go false h = omega arith

-- ---- what was laid

read_back : (list : List Listed) (rows : List ℤ) (kinds : List ℕ) (numbers : List Float)
    → take (length list) (listed_in (map listed_row list ++ rows) (map listed_kind list ++ kinds) (map listed_number list ++ numbers)) ≡ list
unfolding listed_in
read_back [] rows kinds numbers = refl
read_back (e ∷ list) rows kinds numbers = ap (λ (l : List Listed). e ∷ l) (read_back list rows kinds numbers)

module _ (list : List Listed) (rows : List ℤ) (kinds : List ℕ) (numbers : List Float) (room : EventRoom) (is : event_room rows kinds numbers ≡ room_with list room) where
  rows_are : rows ≡ (room_with list room).rows
  rows_are = ap (λ (x : EventRoom). x.rows) is

  kinds-are : kinds ≡ (room_with list room).kinds
  kinds-are = ap (λ (x : EventRoom). x.kinds) is

  numbers-are : numbers ≡ (room_with list room).numbers
  numbers-are = ap (λ (x : EventRoom). x.numbers) is

  pub laid-fits : (count : ℕ) → count ≡ length list → (count ≤ length rows) × (count ≤ length kinds) × (count ≤ length numbers)
  unfolding room_with laid
  laid-fits count e =
      (rw (e, rows_are) (simp (length-append, length-map) (omega arith)), rw (e, kinds-are) (simp (length-append, length-map) (omega arith)), rw (e, numbers-are) (simp (length-append, length-map) (omega arith)))

  laid-back : (count : ℕ) → count ≡ length list → take count (listed_in rows kinds numbers) ≡ list
  unfolding room_with laid
  laid-back count e = rw (e, rows_are, kinds-are, numbers-are) (read_back list _ _ _)

-- ---- the outcomes

has_room : (b : Bool) → ◌≡◌ {A = ℕ} (pick b 0 7) 0 → b ≡ true
has_room true h = refl
has_room false h = absurd (omega arith)

module _ (t : Timing) (room : EventRoom) (most : ℕ) (is_most : most ≡ most_events (with_a_tempo t)) where
  abbrev whole : List Listed
  whole = listed_within most (with_a_tempo t) first_spot

  whole_is : whole ≡ event_list t
  unfolding event_list
  whole_is = ap (λ (m : ℕ). listed_within m (with_a_tempo t) first_spot) is_most

  pub room-is : (n : ℕ) → n ≡ pick (leb most (min (length room.rows) (min (length room.kinds) (length room.numbers)))) 0 no_room → n ≡ event_room_number t room
  unfolding event_room_number places_of
  room-is n f = rw is_most at f

  shortest : event_room_number t room ≡ 0 → most_events (with_a_tempo t) ≤ min (length room.rows) (min (length room.kinds) (length room.numbers))
  unfolding event_room_number places_of
  shortest h = leb-true _ _ (has_room _ h)

  room_for_all : event_room_number t room ≡ 0 → (most ≤ length room.rows) × (most ≤ length room.kinds) × (most ≤ length room.numbers)
  room_for_all h = let s = shortest h in (omega (arith, is_most), omega (arith, is_most), omega (arith, is_most))

  pub laying-room : laying_number t room ≡ 0 → (most ≤ length room.rows) × (most ≤ length room.kinds) × (most ≤ length room.numbers)
  unfolding laying_number
  laying-room h = room_for_all (lower-none (timing_number t plus_zero plus_zero) _ h).1

  pub taken-laying : (count : ℕ) (new : EventRoom) → laying_number t room ≡ 0 → (count ≡ length whole) × (new ≡ room_with whole room) → EventsLaid t (record { number = 0; count = count }) room new
  unfolding given
  taken-laying count new h are = record {
    number = sym h;
    count = are.0 ∙ ap length whole_is;
    room_is = are.1 ∙ ap (λ (l : List Listed). room_with l room) whole_is;
  }

  module _ (offset global beat : Float) where
    pub bench_room : bench_number t offset global beat room ≡ 0 → (most ≤ length room.rows) × (most ≤ length room.kinds) × (most ≤ length room.numbers)
    unfolding bench_number
    bench_room h = room_for_all (lower-none (beat_number beat) _ (lower-none (timing_number t offset global) _ h).1).1

    module _ (count : ℕ) (rows : List ℤ) (kinds : List ℕ) (numbers : List Float) (are : (count ≡ length whole) × (event_room rows kinds numbers ≡ room_with whole room))
        (at : Runner) (asked : ℤ) (tempo : Float) (came : at ≡ run_down asked (set_off (sub binary64 (neg offset) global) tempo) (take count (listed_in rows kinds numbers))) where
      whole_run : at ≡ run_down asked (set_off (sub binary64 (neg offset) global) tempo) whole
      whole_run = rw (laid-back whole rows kinds numbers room are.1 count are.0) at came

      pub passed-few : at.passed ≤ most
      passed-few = rw whole_run (omega (arith, passed-most asked (set_off (sub binary64 (neg offset) global) tempo) whole, listed-most most (with_a_tempo t) first_spot))

      pub taken_bench : (time : Float) → bench_number t offset global beat room ≡ 0 → tempo ≡ tempo_at_the_start t.tempo_values → asked ≡ row binary64 beat → time ≡ time_on at asked
          → BenchAnswered t offset global beat (record { number = 0; time = sub binary64 time global; count = at.passed + 1; laid = count }) room (event_room rows kinds numbers)
      unfolding given bench_question runner_at
      taken_bench time h is_tempo is_row is_time =
          let run : at ≡ runner_at t offset global (row binary64 beat) = rw (is_tempo, is_row, whole_is) at whole_run in
          record {
            answer_is = rw (h, is_time, is_row, run, are.0, whole_is);
            room_is = are.1 ∙ ap (λ (l : List Listed). room_with l room) whole_is;
          }

module _ (t : Timing) (room : EventRoom) where
  pub refused-laying : (n : ℕ) → n ≡ laying_number t room → (n ≡ 0 → ⊥) → EventsLaid t (refused_by n) room room
  unfolding given room_with laid
  refused-laying n e h = record { number = e; count = rw (ne_eqb n 0 h); room_is = rw (ne_eqb n 0 h) }

  pub refused_bench : (offset global beat : Float) (n : ℕ) → n ≡ bench_number t offset global beat room → (n ≡ 0 → ⊥) → BenchAnswered t offset global beat (bench_refused n) room room
  unfolding given room_with laid bench_question
  refused_bench offset global beat n e h = record { answer_is = rw (← e, ne_eqb n 0 h); room_is = rw (ne_eqb n 0 h) }
