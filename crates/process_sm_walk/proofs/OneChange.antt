-- One change: room for it, and what the columns hold after it. Assumes nothing.
use Rattle.std.proofs.Common.{◌≡◌, ◌≤◌, map, length, sym, refl, ap, ◌∙◌, arith, length-append}
use Rattle.process_sm_machine.specs.declared.Change.{Change}
use Rattle.process_sm_machine.specs.declared.State.{State}
use Rattle.process_sm_machine.specs.declared.Moved.{Moved}
use Rattle.order.specs.Entries.{first, second}
use Rattle.process_sm_walk.specs.Chart.{Output, joined, written_by, written_at}
use Rattle.process_sm_walk.specs.Columns.{Columns}
use Rattle.process_sm_walk.specs.inside.Written.{written_into, counted}
use Rattle.process_sm_walk.specs.inside.Rooms.{Room}
use Rattle.process_sm_walk.specs.declared.Counts.{Counts}
use Rattle.process_sm_walk.specs.declared.Standing.{Standing}
use Rattle.process_sm_machine.specs.Machine.{meet, time_passed, met}
use Rattle.process_sm_walk.proofs.PlacedInColumns.{written-more, counted-more, placed-length}

-- ---- lengths

pub record SameLengths (a b : Columns) : Type 0 where
  pub tempo_beats : length a.tempo_beats ≡ length b.tempo_beats
  pub tempo_values : length a.tempo_values ≡ length b.tempo_values
  pub stop_beats : length a.stop_beats ≡ length b.stop_beats
  pub stop_values : length a.stop_values ≡ length b.stop_values
  pub warp_beats : length a.warp_beats ≡ length b.warp_beats
  pub warp_lengths : length a.warp_lengths ≡ length b.warp_lengths

pub same_refl : (a : Columns) → SameLengths a a
same_refl a = record { tempo_beats = refl; tempo_values = refl; stop_beats = refl; stop_values = refl; warp_beats = refl; warp_lengths = refl }

pub same-written : (counts : Counts) (out : Output) (a b : Columns) → a ≡ written_into counts out b → SameLengths a b
same-written counts out a b e = record {
  tempo_beats = ap (λ (c : Columns). length c.tempo_beats) e ∙ placed-length (map first out.tempos) counts.tempos b.tempo_beats;
  tempo_values = ap (λ (c : Columns). length c.tempo_values) e ∙ placed-length (map second out.tempos) counts.tempos b.tempo_values;
  stop_beats = ap (λ (c : Columns). length c.stop_beats) e ∙ placed-length (map first out.stops) counts.stops b.stop_beats;
  stop_values = ap (λ (c : Columns). length c.stop_values) e ∙ placed-length (map second out.stops) counts.stops b.stop_values;
  warp_beats = ap (λ (c : Columns). length c.warp_beats) e ∙ placed-length (map first out.warps) counts.warps b.warp_beats;
  warp_lengths = ap (λ (c : Columns). length c.warp_lengths) e ∙ placed-length (map second out.warps) counts.warps b.warp_lengths;
}

pub same_then : (a b c : Columns) → SameLengths a b → SameLengths b c → SameLengths a c
same_then a b c s t = record {
  tempo_beats = s.tempo_beats ∙ t.tempo_beats;
  tempo_values = s.tempo_values ∙ t.tempo_values;
  stop_beats = s.stop_beats ∙ t.stop_beats;
  stop_values = s.stop_values ∙ t.stop_values;
  warp_beats = s.warp_beats ∙ t.warp_beats;
  warp_lengths = s.warp_lengths ∙ t.warp_lengths;
}

pub room-same : (counts : Counts) (a b : Columns) → SameLengths a b → Room counts b → Room counts a
room-same counts a b s r = record {
  tempo_beats = rw s.tempo_beats r.tempo_beats;
  tempo_values = rw s.tempo_values r.tempo_values;
  stop_beats = rw s.stop_beats r.stop_beats;
  stop_values = rw s.stop_values r.stop_values;
  warp_beats = rw s.warp_beats r.warp_beats;
  warp_lengths = rw s.warp_lengths r.warp_lengths;
}

-- fewer need no more room
pub room-less : (few many : Counts) (into : Columns) → few.tempos ≤ many.tempos → few.stops ≤ many.stops → few.warps ≤ many.warps → Room many into → Room few into
room-less few many into t s w r =
    let a = r.tempo_beats in let b = r.tempo_values in let d = r.stop_beats in let e = r.stop_values in let f = r.warp_beats in let g = r.warp_lengths in
    record { tempo_beats = omega arith; tempo_values = omega arith; stop_beats = omega arith; stop_values = omega arith; warp_beats = omega arith; warp_lengths = omega arith }

-- ---- two arrows, one after the other

room-first : (counts : Counts) (a b : Output) (into : Columns) → Room (counted counts (joined a b)) into → Room (counted counts a) into
room-first counts a b into r =
    room-less (counted counts a) (counted counts (joined a b)) into
    (simp length-append (omega arith)) (simp length-append (omega arith)) (simp length-append (omega arith)) r

module _ (state : State) (change : Change) (counts : Counts) (passing : Moved) (p : passing ≡ time_passed state change) (into : Columns)
    (room : Room (counted counts (written_at state change)) into) where
  pub room-passing : Room (counted counts (written_by passing)) into
  room-passing = rw p (room-first counts (written_by (time_passed state change)) (written_by (met state change)) into room)

  pub room-meeting : (meeting : Moved) → meeting ≡ meet passing.state change → (midway : Counts) → midway ≡ counted counts (written_by passing)
      → (mid : Columns) → mid ≡ written_into counts (written_by passing) into → Room (counted midway (written_by meeting)) mid
  room-meeting meeting m midway n mid e =
      let m' : meeting ≡ met state change = m ∙ ap (λ (s : Moved). meet s.state change) p in
      let n' : midway ≡ counted counts (written_by (time_passed state change)) = n ∙ ap (λ (s : Moved). counted counts (written_by s)) p in
      let r : Room (counted (counted counts (written_by (time_passed state change))) (written_by (met state change))) into =
      rw (counted-more counts (written_by (time_passed state change)) (written_by (met state change))) at room in
      let q : Room (counted midway (written_by meeting)) into = rw (n', m') r in
      room-same (counted midway (written_by meeting)) mid into (same-written counts (written_by passing) mid into e) q

  pub turned : (meeting : Moved) → meeting ≡ meet passing.state change → (midway after : Counts) → midway ≡ counted counts (written_by passing) → after ≡ counted midway (written_by meeting)
      → (mid last : Columns) → mid ≡ written_into counts (written_by passing) into → last ≡ written_into midway (written_by meeting) mid
      → (◌≡◌ {A = Standing} (record { state = meeting.state; counts = after }) (record { state = (met state change).state; counts = counted counts (written_at state change) }))
      × (last ≡ written_into counts (written_at state change) into)
  turned meeting m midway after n k mid last e f =
      let m' : meeting ≡ met state change = m ∙ ap (λ (s : Moved). meet s.state change) p in
      let k' : after ≡ counted counts (written_at state change) =
      k ∙ ap (λ (s : Counts). counted s (written_by meeting)) n ∙ sym (counted-more counts (written_by passing) (written_by meeting))
      ∙ ap (λ (s : Moved). counted counts (joined (written_by s) (written_by meeting))) p
      ∙ ap (λ (s : Moved). counted counts (joined (written_by (time_passed state change)) (written_by s))) m' in
      let f' : last ≡ written_into counts (written_at state change) into =
      f ∙ ap (λ (s : Counts). written_into s (written_by meeting) mid) n ∙ ap (λ (s : Columns). written_into (counted counts (written_by passing)) (written_by meeting) s) e
      ∙ sym (written-more counts (written_by passing) (written_by meeting) into)
      ∙ ap (λ (s : Moved). written_into counts (joined (written_by s) (written_by meeting)) into) p
      ∙ ap (λ (s : Moved). written_into counts (joined (written_by (time_passed state change)) (written_by s)) into) m' in
      (rw (m', k'), f')
