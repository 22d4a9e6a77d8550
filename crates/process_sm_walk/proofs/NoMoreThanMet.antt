-- No more is written than the changes met account for. Assumes nothing.
use Rattle.std.proofs.Common.{◌≡◌, ℕ, ◌+◌, ◌≤◌, Bool, true, false, ◌&&◌, length, refl, arith, Option, Some, None}
use lib.Ieee.{Float, binary32, add, sub, mul, div, lt, eq}
use Rattle.ieee.specs.Constants.{plus_zero32, sixty32}
use Rattle.process_sm_machine.specs.declared.Entry.{Entry}
use Rattle.process_sm_machine.specs.declared.Change.{Change}
use Rattle.process_sm_machine.specs.declared.Change.TheVariants.{Tempo, Stop}
use Rattle.process_sm_walk.specs.inside.NextChange.{advanced}
use Rattle.process_sm_walk.specs.Chart.{written_list, written_by, written_at}
use Rattle.process_sm_walk.specs.inside.Written.{counted}
use Rattle.process_sm_walk.specs.inside.Rooms.{pending_in, WrittenWithin}
use Rattle.process_sm_machine.specs.declared.Opened.{Opened}
use Rattle.process_sm_machine.specs.declared.Warp.{Warp}
use Rattle.process_sm_machine.specs.declared.Warp.TheVariants.{Closed, Open}
use Rattle.process_sm_machine.specs.declared.State.{State}
use Rattle.process_sm_machine.specs.declared.Moved.{Moved}
use Rattle.process_sm_walk.specs.declared.Places.{Places}
use Rattle.process_sm_walk.specs.declared.Counts.{Counts}
use Rattle.picks.specs.Pick.{pick}
use Rattle.process_sm_machine.proofs.Either.{either}
use Rattle.process_sm_machine.specs.Machine.{fits, warp_over, tempo_after, owed_at, keep_warp, close_by_time, pass_in_warp, pass_by, pass, tempo_outside, tempo_by, meet_tempo, stop_outside, close_by_stop, begin_again, stop_in_warp, stop_by, meet_stop, beat_at, meet, warp_end_of, finish_warp, finish_by, finish, time_passed, met}
use Rattle.process_sm_walk.proofs.PlacedInColumns.{counted-more}

one_or_none : (b : Bool) (x : Entry) → length (written_list (pick b None (Some x))) ≡ pick b 0 1
one_or_none true x = refl
one_or_none false x = refl

tempo_after_length : (warp : Opened) (tempo : Float) → length (written_list (tempo_after warp tempo)) ≡ pending_in (Open warp) tempo
unfolding tempo_after
tempo_after_length warp tempo = one_or_none (eq tempo warp.former) _

warp_over_length : (start end : Float) → length (written_list (warp_over start end)) ≤ 1
unfolding warp_over
warp_over_length start end = either (λ (w : Option Entry). length (written_list w) ≤ 1) (lt start end) _ _ (omega arith) (omega arith)

pending-one : (warp : Opened) (tempo : Float) → pending_in (Open warp) tempo ≤ 1
pending-one warp tempo = either (λ (n : ℕ). n ≤ 1) (eq tempo warp.former) 0 1 (omega arith) (omega arith)

-- of an arrow: what it leads to, and what was written
abbrev After : Places → Counts → Moved → Type 0
After places counts moved = WrittenWithin places moved.state (counted counts (written_by moved))

kept : (places : Places) (counts : Counts) (tempo last beat : Float) (warp : Opened) (owed : Float)
    → WrittenWithin places (record { tempo = tempo; beat = last; warp = Open warp }) counts → After places counts (keep_warp tempo beat warp owed)
unfolding keep_warp
kept places counts tempo last beat warp owed w =
    let a = w.tempos in let b = w.stops in let d = w.warps in
    record { number = w.number; tempos = omega arith; stops = omega arith; warps = omega arith }

closed_by_time : (places : Places) (counts : Counts) (tempo last beat : Float) (warp : Opened) (owed : Float)
    → WrittenWithin places (record { tempo = tempo; beat = last; warp = Open warp }) counts → After places counts (close_by_time tempo beat warp owed)
unfolding close_by_time
closed_by_time places counts tempo last beat warp owed w =
    let a = w.tempos in let b = w.stops in let d = w.warps in
    record { number = w.number; tempos = omega (arith, tempo_after_length warp tempo); stops = omega arith; warps = omega (arith, warp_over_length warp.start (sub binary32 beat (div binary32 (mul binary32 owed tempo) sixty32))) }

pass-by : (places : Places) (counts : Counts) (warp : Warp) (tempo last beat : Float)
    → WrittenWithin places (record { tempo = tempo; beat = last; warp = warp }) counts → After places counts (pass_by warp tempo last beat)
unfolding pass_in_warp
pass-by places counts Closed tempo last beat w =
    let a = w.tempos in let b = w.stops in let d = w.warps in
    record { number = w.number; tempos = omega arith; stops = omega arith; warps = omega arith }
pass-by places counts (Open warp) tempo last beat w =
    either (After places counts) (fits tempo && lt plus_zero32 (owed_at tempo last warp.owed beat)) _ _
    (closed_by_time places counts tempo last beat warp (owed_at tempo last warp.owed beat) w)
    (kept places counts tempo last beat warp (owed_at tempo last warp.owed beat) w)

pub within-pass : (places : Places) (counts : Counts) (state : State) (beat : Float) → WrittenWithin places state counts → After places counts (pass state beat)
unfolding pass
within-pass places counts state beat w = pass-by places counts state.warp state.tempo state.beat beat w

-- ---- a tempo

-- a tempo that is met is no NaN
abbrev pub Number : Change → Type 0
Number (Tempo entry) = eq entry.value entry.value ≡ true
Number (Stop entry) = Unit {0}

tempo-by : (places : Places) (counts : Counts) (warp : Warp) (former beat tempo : Float) → eq tempo tempo ≡ true
    → WrittenWithin places (record { tempo = former; beat = beat; warp = warp }) counts
    → After (record { tempo = places.tempo + 1; stop = places.stop }) counts (tempo_by warp former beat tempo)
unfolding tempo_outside
tempo-by places counts Closed former beat tempo n w =
    let a = w.tempos in let b = w.stops in let d = w.warps in
    either (After (record { tempo = places.tempo + 1; stop = places.stop }) counts) (fits tempo) _ _
    (record { number = n; tempos = omega arith; stops = omega arith; warps = omega arith })
    (record { number = n; tempos = omega (arith, pending-one (record { start = beat; former = former; owed = plus_zero32 }) tempo); stops = omega arith; warps = omega arith })
tempo-by places counts (Open warp) former beat tempo n w =
    let a = w.tempos in let b = w.stops in let d = w.warps in
    record { number = n; tempos = omega (arith, pending-one warp tempo); stops = omega arith; warps = omega arith }

-- ---- a stop

-- the tempo before a warp that a stop opens is the tempo in force
none-pending : (b : Bool) → b ≡ true → ◌≡◌ {A = ℕ} (pick b 0 1) 0
none-pending true e = refl
none-pending false e = let z : ◌≡◌ {A = ℕ} 0 1 = cc in absurd (omega arith)

stop-by : (places : Places) (counts : Counts) (warp : Warp) (tempo beat pause : Float)
    → WrittenWithin places (record { tempo = tempo; beat = beat; warp = warp }) counts
    → After (record { tempo = places.tempo; stop = places.stop + 1 }) counts (stop_by warp tempo beat pause)
unfolding stop_outside stop_in_warp keep_warp close_by_stop begin_again
stop-by places counts Closed tempo beat pause w =
    let a = w.tempos in let b = w.stops in let d = w.warps in
    either (After (record { tempo = places.tempo; stop = places.stop + 1 }) counts) (lt pause plus_zero32) _ _
    (record { number = w.number; tempos = omega (arith, none-pending (eq tempo tempo) w.number); stops = omega arith; warps = omega arith })
    (record { number = w.number; tempos = omega arith; stops = omega arith; warps = omega arith })
stop-by places counts (Open warp) tempo beat pause w =
    let a = w.tempos in let b = w.stops in let d = w.warps in
    let k = tempo_after_length warp tempo in let l = warp_over_length warp.start beat in
    either (After (record { tempo = places.tempo; stop = places.stop + 1 }) counts) (lt plus_zero32 pause && lt plus_zero32 (add binary32 warp.owed pause)) _ _
    (either (After (record { tempo = places.tempo; stop = places.stop + 1 }) counts) (fits tempo) _ _
    (record { number = w.number; tempos = omega arith; stops = omega arith; warps = omega arith })
    (record { number = w.number; tempos = omega arith; stops = omega arith; warps = omega arith }))
    (record { number = w.number; tempos = omega arith; stops = omega arith; warps = omega arith })

pub within-meet : (places : Places) (counts : Counts) (state : State) (change : Change) → Number change → WrittenWithin places state counts
    → After (advanced places change) counts (meet state change)
unfolding meet_tempo meet_stop
within-meet places counts state (Tempo entry) n w = tempo-by places counts state.warp state.tempo state.beat entry.value n w
within-meet places counts state (Stop entry) n w = stop-by places counts state.warp state.tempo state.beat entry.value w

-- ---- the end

finish-by : (places : Places) (counts : Counts) (warp : Warp) (tempo beat : Float)
    → WrittenWithin places (record { tempo = tempo; beat = beat; warp = warp }) counts → After places counts (finish_by warp tempo beat)
unfolding finish_warp
finish-by places counts Closed tempo beat w =
    let a = w.tempos in let b = w.stops in let d = w.warps in
    record { number = w.number; tempos = omega arith; stops = omega arith; warps = omega arith }
finish-by places counts (Open warp) tempo beat w =
    let a = w.tempos in let b = w.stops in let d = w.warps in
    record { number = w.number; tempos = omega (arith, tempo_after_length warp tempo); stops = omega arith; warps = omega (arith, warp_over_length warp.start (warp_end_of tempo beat warp.owed)) }

pub within-finish : (places : Places) (counts : Counts) (state : State) → WrittenWithin places state counts → After places counts (finish state)
unfolding finish
within-finish places counts state w = finish-by places counts state.warp state.tempo state.beat w

-- ---- a change whole

pub within_step : (places : Places) (counts : Counts) (state : State) (change : Change) → Number change → WrittenWithin places state counts
    → WrittenWithin (advanced places change) (met state change).state (counted counts (written_at state change))
within_step places counts state change n w =
    rw (counted-more counts (written_by (time_passed state change)) (written_by (met state change)))
    (within-meet places (counted counts (written_by (time_passed state change))) (time_passed state change).state change n (within-pass places counts state (beat_at change) w))
