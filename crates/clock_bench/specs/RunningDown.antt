-- Running down the list of events to an asked row. Definitions only.
use Rattle.std.specs.Prelude.{ℕ, ◌+◌, Bool, true, false, List, [], ◌∷◌, ℤ, pos, ◌-ℤ◌, ◌==◌, int_lt, nat_lt, Float}
use Rattle.std.specs.Float.{binary64}
use Rattle.std.specs.Float.Ieee.{add, div}
use Rattle.ieee.specs.Constants.{plus_zero, sixty}
use Rattle.picks.specs.Pick.{pick}
use Rattle.rows.specs.Rows.{beat_of}
use Rattle.clock_bench.specs.EventList.{warp_ends, tempo_begins, delay_begins, stop_begins, warp_begins}
use Rattle.clock_bench.specs.declared.Listed.{Listed}
use Rattle.clock_bench.specs.declared.Runner.{Runner}

-- from the runner's row to another: beats over beats a second, and none while a warp is open
unfoldable pub seconds_to : Runner → ℤ → Float
seconds_to x at = pick x.warping plus_zero (div binary64 (beat_of binary64 (at -ℤ x.row)) (div binary64 x.tempo sixty))

unfoldable pub time_on : Runner → ℤ → Float
time_on x at = add binary64 x.time (seconds_to x at)

-- past an event: on its row, at its time, and a pause's seconds later
unfoldable pub runner_past : Runner → ℤ → ℕ → Float → Runner
runner_past x at kind number =
    pick (kind == warp_ends) (record { row = at; time = time_on x at; tempo = x.tempo; warping = false; passed = x.passed + 1 })
    (pick (kind == tempo_begins) (record { row = at; time = time_on x at; tempo = number; warping = x.warping; passed = x.passed + 1 })
    (pick (kind == warp_begins) (record { row = at; time = time_on x at; tempo = x.tempo; warping = true; passed = x.passed + 1 })
    (record { row = at; time = add binary64 (time_on x at) number; tempo = x.tempo; warping = x.warping; passed = x.passed + 1 })))

-- on a lower row, or on the asked one and of a kind that comes before the asked beat there
unfoldable pub comes_before : ℤ → ℤ → ℕ → Bool
comes_before asked at kind = pick (int_lt at asked) true (pick (int_lt asked at) false (nat_lt kind stop_begins))

-- as far as events come before the asked beat: rows may fall in the list, and what stands behind the first that does not come before is not looked for
unfoldable pub run_down : ℤ → Runner → List Listed → Runner
run_down asked x [] = x
run_down asked x (e ∷ list) = pick (comes_before asked e.row e.kind) (run_down asked (runner_past x e.row e.kind e.number) list) x

-- on row 0, at a time, with a tempo
abbrev pub set_off : Float → Float → Runner
set_off time tempo = record { row = pos 0; time = time; tempo = tempo; warping = false; passed = 0 }
