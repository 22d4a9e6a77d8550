-- What is said of SM's walk leaves one outcome: number, counts, offset and the six columns. Assumes nothing.
use Rattle.std.proofs.Common.{◌≡◌, ℕ, List}
use lib.Ieee.{Float}
use Rattle.process_sm_walk.specs.declared.Walked.{Walked}
use Rattle.process_sm_walk.specs.Columns.{Columns}
use Rattle.process_sm_walk.specs.Walking.{WalkLaid}

pub one_outcome : {tempos stops : List (Float × Float)} {refusal : ℕ} {a b : Walked} {old new_a new_b : Columns}
    → WalkLaid tempos stops refusal a old new_a → WalkLaid tempos stops refusal b old new_b → (a ≡ b) × (new_a ≡ new_b)
one_outcome {a = a} {b = b} {new_a = new_a} {new_b = new_b} x y =
    let same : ◌≡◌ {A = Walked} (record { number = a.number; tempos = a.tempos; stops = a.stops; warps = a.warps; offset = a.offset }) (record { number = b.number; tempos = b.tempos; stops = b.stops; warps = b.warps; offset = b.offset }) = cc in
    let rooms : ◌≡◌ {A = Columns} (record { tempo_beats = new_a.tempo_beats; tempo_values = new_a.tempo_values; stop_beats = new_a.stop_beats; stop_values = new_a.stop_values; warp_beats = new_a.warp_beats; warp_lengths = new_a.warp_lengths }) (record { tempo_beats = new_b.tempo_beats; tempo_values = new_b.tempo_values; stop_beats = new_b.stop_beats; stop_values = new_b.stop_values; warp_beats = new_b.warp_beats; warp_lengths = new_b.warp_lengths }) = cc in
    (same, rooms)
