-- SM timing as a state machine, all in f32: a state, and a definition for each arrow. Definitions only.
-- The state has the tempo in force, the beat reached, and a warp, Closed or Open; an open one has its start, the tempo before it and the time owed.
--
-- from    what comes      where                              to                                   what is written                 arrow
-- --      the opening     the tempo fits                     Closed, at beat 0                    the tempo at 0                  open_chart
-- --      the opening     otherwise                          Closed, at beat 0                    nothing                         open_chart
-- Closed  time            always                             Closed                               nothing                         pass
-- Open    time            the tempo fits and owed > 0        Closed                               the warp, the tempo             close_by_time
-- Open    time            otherwise                          Open, owed by the time               nothing                         keep_warp
-- Closed  a tempo         it fits                            Closed                               that tempo                      tempo_outside
-- Closed  a tempo         otherwise                          Open here, nothing owed              nothing                         tempo_outside
-- Open    a tempo         always                             Open, the same warp                  nothing                         meet_tempo
-- Closed  a stop          below 0                            Open here, the stop owed             nothing                         stop_outside
-- Closed  a stop          otherwise                          Closed                               that stop                       stop_outside
-- Open    a stop          above 0, as is owed + stop; fits   Closed                               the warp, the rest, the tempo   close_by_stop
-- Open    a stop          the same, but the tempo doesn't    Open here, former kept, none owed    the warp, the rest              begin_again
-- Open    a stop          otherwise                          Open, owed + stop                    nothing                         keep_warp
-- Closed  the end         always                             Closed                               nothing                         finish
-- Open    the end         always                             Closed                               the warp, the tempo             finish_warp
--
-- "The warp" is written only where it goes forward, and "the tempo" at the warp's start only where it isn't the one before the warp.
-- Every definition is a function with a case for each state and each outcome of its tests: one arrow leaves each state for each thing that comes.
use Rattle.process_sm_machine.specs.declared.Entry.{Entry}
use Rattle.std.specs.Prelude.{Bool, ◌&&◌, Float, Option, Some, None}
use Rattle.std.specs.Float.{binary32}
use Rattle.std.specs.Float.Ieee.{add, sub, mul, div, lt, le, eq, of_bits}
use Rattle.ieee.specs.Constants.{plus_zero32, sixty32}
use Rattle.picks.specs.Pick.{pick}
use Rattle.rows.specs.Rows.{quantized32}
use Rattle.process_sm_machine.specs.declared.Change.{Change}
use Rattle.process_sm_machine.specs.declared.Change.TheVariants.{Tempo, Stop}
use Rattle.process_sm_machine.specs.declared.Opened.{Opened}
use Rattle.process_sm_machine.specs.declared.Warp.{Warp}
use Rattle.process_sm_machine.specs.declared.Warp.TheVariants.{Closed, Open}
use Rattle.process_sm_machine.specs.declared.State.{State}
use Rattle.process_sm_machine.specs.declared.Moved.{Moved}

-- ---- numbers

-- 9,999,999
abbrev pub fastest : Float
fastest = of_bits binary32 0x4B18_967F

-- where a warp ends that nothing ends: 99,999,999, in f32 100,000,000
abbrev pub endless : Float
endless = of_bits binary32 0x4CBE_BC20

-- a tempo fits that is above 0 and not above 9,999,999
unfoldable pub fits : Float → Bool
fits tempo = lt plus_zero32 tempo && le tempo fastest

-- ---- what an arrow writes: beats and lengths of warps on rows, values of tempos and stops as they are

abbrev pub entry_at : Float → Float → Option Entry
entry_at beat value = Some (record { beat = quantized32 beat; value = value })

-- a warp from one beat to another, where it goes forward
unfoldable pub warp_over : Float → Float → Option Entry
warp_over start end = pick (lt start end) (entry_at start (quantized32 (sub binary32 end start))) None

-- after a warp: the tempo in force, at the warp's start, where it isn't the tempo before the warp
unfoldable pub tempo_after : Opened → Float → Option Entry
tempo_after warp tempo = pick (eq tempo warp.former) None (entry_at warp.start tempo)

-- nothing is written
abbrev pub still : State → Moved
still state = record { state = state; tempo = None; stop = None; warp = None }

-- ---- the chart opens at beat 0, in no warp, whatever its first tempo

unfoldable pub open_chart : Float → Moved
open_chart tempo = record {
  state = record { tempo = tempo; beat = plus_zero32; warp = Closed };
  tempo = pick (fits tempo) (entry_at plus_zero32 tempo) None;
  stop = None;
  warp = None;
}

-- ---- time passes, up to the beat of the next change

-- what is owed then: more by the seconds that the beats take, which are negative under a negative tempo. A tempo above 9,999,999 takes none
unfoldable pub owed_at : Float → Float → Float → Float → Float
owed_at tempo last owed beat =
    pick (le tempo fastest) (add binary32 owed (div binary32 (mul binary32 (sub binary32 beat last) sixty32) tempo)) owed

-- the beat at which nothing was owed, under a tempo that fits
abbrev pub settled_at : Float → Float → Float → Float
settled_at tempo beat owed = sub binary32 beat (div binary32 (mul binary32 owed tempo) sixty32)

-- the warp goes on, with this much owed
unfoldable pub keep_warp : Float → Float → Opened → Float → Moved
keep_warp tempo beat warp owed = still (record { tempo = tempo; beat = beat; warp = Open (record { start = warp.start; former = warp.former; owed = owed }) })

-- the warp was over where nothing was owed
unfoldable pub close_by_time : Float → Float → Opened → Float → Moved
close_by_time tempo beat warp owed = record {
  state = record { tempo = tempo; beat = beat; warp = Closed };
  tempo = tempo_after warp tempo;
  stop = None;
  warp = warp_over warp.start (settled_at tempo beat owed);
}

unfoldable pub pass_in_warp : Float → Float → Opened → Float → Moved
pass_in_warp tempo last warp beat =
    pick (fits tempo && lt plus_zero32 (owed_at tempo last warp.owed beat))
    (close_by_time tempo beat warp (owed_at tempo last warp.owed beat))
    (keep_warp tempo beat warp (owed_at tempo last warp.owed beat))

abbrev pub pass_by : Warp → Float → Float → Float → Moved
pass_by Closed tempo last beat = still (record { tempo = tempo; beat = beat; warp = Closed })
pass_by (Open warp) tempo last beat = pass_in_warp tempo last warp beat

unfoldable pub pass : State → Float → Moved
pass state beat = pass_by state.warp state.tempo state.beat beat

-- ---- a tempo is met, at the beat reached

-- in no warp: one that fits is written, any other opens a warp that owes nothing yet
unfoldable pub tempo_outside : Float → Float → Float → Moved
tempo_outside former beat tempo =
    pick (fits tempo)
    (record { state = record { tempo = tempo; beat = beat; warp = Closed }; tempo = entry_at beat tempo; stop = None; warp = None })
    (still (record { tempo = tempo; beat = beat; warp = Open (record { start = beat; former = former; owed = plus_zero32 }) }))

-- in a warp it only comes into force
abbrev pub tempo_by : Warp → Float → Float → Float → Moved
tempo_by Closed former beat tempo = tempo_outside former beat tempo
tempo_by (Open warp) former beat tempo = still (record { tempo = tempo; beat = beat; warp = Open warp })

unfoldable pub meet_tempo : State → Float → Moved
meet_tempo state tempo = tempo_by state.warp state.tempo state.beat tempo

-- ---- a stop is met, at the beat reached

-- in no warp: one below 0 opens a warp that owes it, any other is written
unfoldable pub stop_outside : Float → Float → Float → Moved
stop_outside tempo beat length =
    pick (lt length plus_zero32)
    (still (record { tempo = tempo; beat = beat; warp = Open (record { start = beat; former = tempo; owed = length }) }))
    (record { state = record { tempo = tempo; beat = beat; warp = Closed }; tempo = None; stop = entry_at beat length; warp = None })

-- the warp ends here, and what is more than was owed is a stop
unfoldable pub close_by_stop : Float → Float → Opened → Float → Moved
close_by_stop tempo beat warp owed = record {
  state = record { tempo = tempo; beat = beat; warp = Closed };
  tempo = tempo_after warp tempo;
  stop = entry_at beat owed;
  warp = warp_over warp.start beat;
}

-- the same under a tempo that doesn't fit: another warp starts here, with the tempo before the first
unfoldable pub begin_again : Float → Float → Opened → Float → Moved
begin_again tempo beat warp owed = record {
  state = record { tempo = tempo; beat = beat; warp = Open (record { start = beat; former = warp.former; owed = plus_zero32 }) };
  tempo = None;
  stop = entry_at beat owed;
  warp = warp_over warp.start beat;
}

-- in a warp: a stop above 0 that brings what is owed above 0 ends it. Whatever its size, a stop that doesn't bring it there ends nothing
unfoldable pub stop_in_warp : Float → Float → Opened → Float → Moved
stop_in_warp tempo beat warp length =
    pick (lt plus_zero32 length && lt plus_zero32 (add binary32 warp.owed length))
    (pick (fits tempo) (close_by_stop tempo beat warp (add binary32 warp.owed length)) (begin_again tempo beat warp (add binary32 warp.owed length)))
    (keep_warp tempo beat warp (add binary32 warp.owed length))

abbrev pub stop_by : Warp → Float → Float → Float → Moved
stop_by Closed tempo beat length = stop_outside tempo beat length
stop_by (Open warp) tempo beat length = stop_in_warp tempo beat warp length

unfoldable pub meet_stop : State → Float → Moved
meet_stop state length = stop_by state.warp state.tempo state.beat length

-- ---- a change: first the time up to its beat passes, then it is met

abbrev pub beat_at : Change → Float
beat_at (Tempo entry) = entry.beat
beat_at (Stop entry) = entry.beat

abbrev pub meet : State → Change → Moved
meet state (Tempo entry) = meet_tempo state entry.value
meet state (Stop entry) = meet_stop state entry.value

abbrev pub time_passed : State → Change → Moved
time_passed state change = pass state (beat_at change)

abbrev pub met : State → Change → Moved
met state change = meet (time_passed state change).state change

-- ---- the end of the chart: a warp that is open ends where nothing is owed, or under a tempo that doesn't fit never

unfoldable pub warp_end_of : Float → Float → Float → Float
warp_end_of tempo beat owed = pick (fits tempo) (settled_at tempo beat owed) endless

unfoldable pub finish_warp : Float → Float → Opened → Moved
finish_warp tempo beat warp = record {
  state = record { tempo = tempo; beat = beat; warp = Closed };
  tempo = tempo_after warp tempo;
  stop = None;
  warp = warp_over warp.start (warp_end_of tempo beat warp.owed);
}

abbrev pub finish_by : Warp → Float → Float → Moved
finish_by Closed tempo beat = still (record { tempo = tempo; beat = beat; warp = Closed })
finish_by (Open warp) tempo beat = finish_warp tempo beat warp

unfoldable pub finish : State → Moved
finish state = finish_by state.warp state.tempo state.beat
