-- Room for what is written, and how much that can be by then. Definitions only.
use Rattle.std.specs.Prelude.{◌≡◌, ℕ, ◌+◌, ◌≤◌, max, true, length, Float}
use Rattle.std.specs.Float.Ieee.{eq}
use Rattle.picks.specs.Pick.{pick}
use Rattle.process_sm_machine.specs.declared.State.{State}
use Rattle.process_sm_machine.specs.declared.Warp.{Warp}
use Rattle.process_sm_machine.specs.declared.Warp.TheVariants.{Closed, Open}
use Rattle.process_sm_walk.specs.Columns.{Columns}
use Rattle.process_sm_walk.specs.declared.Counts.{Counts}
use Rattle.process_sm_walk.specs.declared.Places.{Places}

-- columns that hold so many
pub record Room (counts : Counts) (into : Columns) : Type 0 where
  pub tempo_beats : counts.tempos ≤ length into.tempo_beats
  pub tempo_values : counts.tempos ≤ length into.tempo_values
  pub stop_beats : counts.stops ≤ length into.stop_beats
  pub stop_values : counts.stops ≤ length into.stop_values
  pub warp_beats : counts.warps ≤ length into.warp_beats
  pub warp_lengths : counts.warps ≤ length into.warp_lengths

-- a tempo that is to be written when the warp is over
abbrev pub pending_in : Warp → Float → ℕ
pending_in Closed tempo = 0
pending_in (Open warp) tempo = pick (eq tempo warp.former) 0 1

abbrev pub pending : State → ℕ
pending state = pending_in state.warp state.tempo

abbrev pub warping_in : Warp → ℕ
warping_in Closed = 0
warping_in (Open warp) = 1

-- no more was written than the changes met account for
pub record WrittenWithin (places : Places) (state : State) (counts : Counts) : Type 0 where
  pub number : eq state.tempo state.tempo ≡ true
  pub tempos : counts.tempos + pending state ≤ places.tempo
  pub stops : counts.stops ≤ places.stop
  pub warps : counts.warps + warping_in state.warp + 1 ≤ places.tempo + places.stop

-- places within lists of so many tempos and stops
pub record Reached (tempos stops : ℕ) (places : Places) : Type 0 where
  pub tempo : places.tempo ≤ max tempos 1
  pub stop : places.stop ≤ stops
