-- What the walk leaves in its columns is read back from their fronts. Assumes nothing.
use Rattle.std.proofs.Common.{◌≡◌, List, map, length, sym, ◌∙◌, ⊎_elim, arith}
use lib.ListN.{length-map}
use Rattle.order.proofs.Compare.{same?}
use Rattle.process_sm_walk.proofs.Outcomes.{room-taken as Walk·room-taken}
use Rattle.process_sm_walk_raw.specs.RawWalk.{walked_number}
use Rattle.process_sm_walk_raw.proofs.Numbers.{number-refused, number-walked}
use lib.Ieee.{Float}
use Rattle.order.specs.Entries.{first, second}
use Rattle.columns.specs.Laying.{given}
use Rattle.process_raw.specs.RawLists.{raw_numbers}
use Rattle.process_sm_changes.specs.SmChanges.{sm_changes}
use Rattle.process_sm_walk.specs.declared.Walked.{Walked}
use Rattle.process_sm_walk.specs.Chart.{processed, offset_of}
use Rattle.process_sm_walk.specs.Columns.{Columns, most_written}
use Rattle.process_sm_walk.specs.Walking.{WalkLaid}
use Rattle.process_sm_walk.specs.inside.Rooms.{Room}
use Rattle.process_sm_walk.proofs.Lengths.{Bounded}
use Rattle.process_sm_walk_raw.proofs.Fronts.{Front, front}

-- what the walk has laid
pub record Fronts (tempos stops : List (Float × Float)) (outcome : Walked) (new : Columns) : Type 0 where
  pub tempo_beats : Front outcome.tempos new.tempo_beats (map first (processed tempos stops).tempos)
  pub tempo_values : Front outcome.tempos new.tempo_values (map second (processed tempos stops).tempos)
  pub stop_beats : Front outcome.stops new.stop_beats (map first (processed tempos stops).stops)
  pub stop_values : Front outcome.stops new.stop_values (map second (processed tempos stops).stops)
  pub warp_beats : Front outcome.warps new.warp_beats (map first (processed tempos stops).warps)
  pub warp_lengths : Front outcome.warps new.warp_lengths (map second (processed tempos stops).warps)
  pub offset : outcome.offset ≡ offset_of stops

pub walked-fronts : {tempos stops : List (Float × Float)} {outcome : Walked} {old new : Columns} → WalkLaid tempos stops 0 outcome old new → Bounded (length tempos) (length stops) (processed tempos stops) → Room (most_written (length tempos) (length stops)) old → Fronts tempos stops outcome new
unfolding given
walked-fronts {tempos} {stops} {outcome} {old} {new} w b r =
    let out = processed tempos stops in
    let t = b.tempos in let s = b.stops in let v = b.warps in
    record {
      tempo_beats = front first out.tempos old.tempo_beats (omega (arith, r.tempo_beats)) w.tempos w.tempo_beats;
      tempo_values = front second out.tempos old.tempo_values (omega (arith, r.tempo_values)) w.tempos w.tempo_values;
      stop_beats = front first out.stops old.stop_beats (omega (arith, r.stop_beats)) w.stops w.stop_beats;
      stop_values = front second out.stops old.stop_values (omega (arith, r.stop_values)) w.stops w.stop_values;
      warp_beats = front first out.warps old.warp_beats (omega (arith, r.warp_beats)) w.warps w.warp_beats;
      warp_lengths = front second out.warps old.warp_lengths (omega (arith, r.warp_lengths)) w.warps w.warp_lengths;
      offset = w.offset;
    }

-- where nothing is refused, both lists are taken and the walk has room
module _ (tempo_beats tempo_values stop_beats stop_values : List Float) (into : Columns) (taken : walked_number tempo_beats tempo_values stop_beats stop_values into ≡ 0) where
  pub raw-taken : raw_numbers tempo_beats tempo_values stop_beats stop_values ≡ 0
  raw-taken = ⊎_elim (λ z. z) (λ h. sym (number-refused tempo_beats tempo_values stop_beats stop_values into h) ∙ taken) (same? (raw_numbers tempo_beats tempo_values stop_beats stop_values) 0)

  pub room-taken : Room (most_written (length (sm_changes tempo_beats tempo_values)) (length (sm_changes stop_beats stop_values))) into
  room-taken =
      let T = sm_changes tempo_beats tempo_values in
      let S = sm_changes stop_beats stop_values in
      rw (length-map T first, length-map S first) at (Walk·room-taken (map first T) (map second T) (map first S) (map second S) into (number-walked tempo_beats tempo_values stop_beats stop_values into raw-taken ∙ taken))
