-- What is due is the rule's next candidate, of every row below the greatest i32: so nothing found is never next. Assumes nothing.
use Rattle.std.proofs.Common.{◌≡◌, ℕ, Bool, true, false, ltb, List, length, get_or, ℤ, sym, refl, ap, ◌∙◌, Option, Some, None}
use lib.Signed.{lt_z}
use lib.Ieee.{Float, nan, binary64}
use Rattle.picks.specs.Pick.{pick}
use Rattle.rows.specs.Rows.{row}
use Rattle.chart.specs.Timing.{Timing}
use Rattle.clock_walk.specs.Events.{farthest, sooner, offered, end_offered, row_ahead, ahead, goes_first, goes_before, due_of, due}
use Rattle.clock_walk.specs.SixCandidates.{Candidate, event, asked_beat, nothing, candidate_row, next, is_nothing, candidate_of}
use Rattle.chart.specs.declared.State.{State}
use Rattle.clock_walk.specs.declared.Next.{Next}
use Rattle.clock_walk.specs.declared.Event.{Event}
use Rattle.clock_walk.specs.declared.Event.TheVariants.{WarpEnd, Tempo, Delay, Stop, Warp}
use Rattle.rows.proofs.RowOrder.{no, lt_le, le_trans, lt_not}
use Rattle.clock_walk.proofs.ClockTest.{before_le, not_before_le, behind, first_up_to}

-- ---- up to the asked beat the rule finds what is ahead
abbrev as_candidate : Option Next → Candidate
as_candidate (Some n) = event n
as_candidate None = nothing

same_row : (a : Option Next) → candidate_row (as_candidate a) ≡ row_ahead a
same_row (Some n) = refl
same_row None = refl

sooner_as : (a : Option Next) (n : Next) → sooner candidate_row (as_candidate a) (event n) ≡ as_candidate (sooner row_ahead a (Some n))
unfolding sooner
sooner_as a n = rw (same_row a) (go (lt_z n.row (row_ahead a)))
  where
    go : (b : Bool) → pick b (event n) (as_candidate a) ≡ as_candidate (pick b (Some n) a)
    go true = refl
    go false = refl

offered_as : (a : Option Next) (beats : List Float) (place : ℕ) (k : Event) → offered candidate_row event (as_candidate a) beats place k ≡ as_candidate (offered row_ahead Some a beats place k)
unfolding offered
offered_as a beats place k = go (ltb place (length beats))
  where
    n : Next
    n = record { row = row binary64 (get_or beats place nan); kind = k }

    go : (b : Bool) → pick b (sooner candidate_row (as_candidate a) (event n)) (as_candidate a) ≡ as_candidate (pick b (sooner row_ahead a (Some n)) a)
    go true = sooner_as a n
    go false = refl

end_as : (warping : Bool) (end : Float) → end_offered candidate_row event nothing warping end ≡ as_candidate (end_offered row_ahead Some None warping end)
unfolding end_offered
end_as true end = sooner_as None (record { row = row binary64 end; kind = WarpEnd })
end_as false end = refl

-- ---- and what it finds there goes first on its row
abbrev First : Option Next → Type 0
First (Some n) = goes_first n.kind ≡ true
First None = Unit {0}

first_pick : (b : Bool) (x y : Option Next) → First x → First y → First (pick b x y)
first_pick true x y p q = p
first_pick false x y p q = q

first-offered : (a : Option Next) (beats : List Float) (place : ℕ) (k : Event) → goes_first k ≡ true → First a → First (offered row_ahead Some a beats place k)
unfolding offered sooner
first-offered a beats place k h f =
    let new = Some (record { row = row binary64 (get_or beats place nan); kind = k }) in
    first_pick (ltb place (length beats)) (pick (lt_z (row binary64 (get_or beats place nan)) (row_ahead a)) new a) a
    (first_pick (lt_z (row binary64 (get_or beats place nan)) (row_ahead a)) new a h f) f

first-end : (warping : Bool) (end : Float) → First (end_offered row_ahead Some None warping end)
unfolding end_offered sooner
first-end true end = first_pick (lt_z (row binary64 end) farthest) (Some (record { row = row binary64 end; kind = WarpEnd })) None refl tt
first-end false end = tt

module _ (r : ℤ) (in_range_lem : lt_z r farthest ≡ true) where
  -- what is due where this is ahead, as a candidate
  abbrev or_asked : Option Next → Candidate
  or_asked a = candidate_of r (due_of r a)

  abbrev picked : Bool → Next → Candidate
  picked b n = candidate_of r (pick b (Some n) None)

  asked_in : (a : Option Next) → First a → sooner candidate_row (as_candidate a) (asked_beat r) ≡ or_asked a
  unfolding sooner
  asked_in (Some n) f = go (lt_z r n.row) refl
    where
      go : (b : Bool) → lt_z r n.row ≡ b → pick b (asked_beat r) (event n) ≡ or_asked (Some n)
      go true e = rw (behind r n e)
      go false e = rw (first_up_to r n f e)
  asked_in None f = rw in_range_lem

  -- a kind that comes after the asked beat goes before it only on a lower row
  by_row : (n : Next) → goes_first n.kind ≡ false → goes_before r n ≡ lt_z n.row r
  unfolding goes_before
  by_row n late = rw late (each (lt_z n.row r) (lt_z r n.row))
    where
      each : (a b : Bool) → pick a true (pick b false false) ≡ a
      each true b = refl
      each false true = refl
      each false false = refl

  later_in : (a : Option Next) (n : Next) → goes_first n.kind ≡ false → sooner candidate_row (or_asked a) (event n) ≡ or_asked (sooner row_ahead a (Some n))
  unfolding sooner
  later_in (Some m) n late = go (goes_before r m) (lt_z n.row m.row) refl refl
    where
      go : (a b : Bool) → goes_before r m ≡ a → lt_z n.row m.row ≡ b
          → pick (lt_z n.row (candidate_row (picked a m))) (event n) (picked a m) ≡ or_asked (pick b (Some n) (Some m))
      go true true e f = rw (f, by_row n late, lt_le n.row m.row r f (before_le r m e))
      go true false e f = rw (f, e)
      go false true e f = rw (by_row n late) (either (lt_z n.row r))
        where
          either : (b : Bool) → pick b (event n) (asked_beat r) ≡ picked b n
          either true = refl
          either false = refl
      go false false e f = rw (e, le_trans r m.row n.row (not_before_le r m e) f)
  later_in None n late = go (lt_z n.row farthest) (lt_z n.row r) refl refl
    where
      go : (a b : Bool) → lt_z n.row farthest ≡ a → lt_z n.row r ≡ b → pick b (event n) (asked_beat r) ≡ or_asked (pick a (Some n) None)
      go true true e f = rw (by_row n late, f)
      go true false e f = rw (by_row n late, f)
      go false true e f = no (sym e ∙ lt_le n.row r farthest f (lt_not r farthest in_range_lem))
      go false false e f = refl

  later-offered : (a : Option Next) (beats : List Float) (place : ℕ) (k : Event) → goes_first k ≡ false → offered candidate_row event (or_asked a) beats place k ≡ or_asked (offered row_ahead Some a beats place k)
  unfolding offered
  later-offered a beats place k late = go (ltb place (length beats))
    where
      n : Next
      n = record { row = row binary64 (get_or beats place nan); kind = k }

      go : (b : Bool) → pick b (sooner candidate_row (or_asked a) (event n)) (or_asked a) ≡ or_asked (pick b (sooner row_ahead a (Some n)) a)
      go true = later_in a n late
      go false = refl

  -- the law, of every timing and state
  pub asked_or_ahead : (t : Timing) (s : State) → next t r s ≡ candidate_of r (due t r s)
  unfolding next ahead
  asked_or_ahead t s =
      let with_warp : Candidate → Candidate = λ c. offered candidate_row event c t.warp_beats s.warps Warp in
      let with_stop : Candidate → Candidate = λ c. with_warp (offered candidate_row event c t.stop_beats s.stops Stop) in
      let with_asked : Candidate → Candidate = λ c. with_stop (sooner candidate_row c (asked_beat r)) in
      let with_delay : Candidate → Candidate = λ c. with_asked (offered candidate_row event c t.delay_beats s.delays Delay) in
      let with_tempo : Candidate → Candidate = λ c. with_delay (offered candidate_row event c t.tempo_beats s.tempos Tempo) in
      let end = end_offered row_ahead Some None s.warping s.end in
      let tempo = offered row_ahead Some end t.tempo_beats s.tempos Tempo in
      let delay = offered row_ahead Some tempo t.delay_beats s.delays Delay in
      let stop = offered row_ahead Some delay t.stop_beats s.stops Stop in
      let first = first-offered tempo t.delay_beats s.delays Delay refl (first-offered end t.tempo_beats s.tempos Tempo refl (first-end s.warping s.end)) in
      ap with_tempo (end_as s.warping s.end)
      ∙ ap with_delay (offered_as end t.tempo_beats s.tempos Tempo)
      ∙ ap with_asked (offered_as tempo t.delay_beats s.delays Delay)
      ∙ ap with_stop (asked_in delay first)
      ∙ ap with_warp (later-offered delay t.stop_beats s.stops Stop refl)
      ∙ later-offered stop t.warp_beats s.warps Warp refl

something : (r : ℤ) (d : Option Next) → is_nothing (candidate_of r d) ≡ false
something r (Some n) = refl
something r None = refl

pub nothing_never_found : (t : Timing) (r : ℤ) (s : State) → lt_z r farthest ≡ true → is_nothing (next t r s) ≡ false
nothing_never_found t r s in_range_lem = ap is_nothing (asked_or_ahead r in_range_lem t s) ∙ something r (due t r s)
