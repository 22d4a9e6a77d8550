-- Tempos and stops that never fall in beat are changes that never fall in beat; after the opening none is before 0. Assumes nothing.
use Prim.Native.Nat.{ℕ, zero, suc, ◌≤◌, ◌<◌, max}
use mathlib.Core.Bool.{Bool, true, false}
use mathlib.Core.List.{List, [], ◌∷◌}
use mathlib.Core.Path.{◌≡◌, sym, ap, ◌∙◌}
use native.Mathlib.Omega.{arith}
use native.Mathlib.Nat.{max-zero, suc-max-suc}
use lib.ListN.{drop}
use lib.Dec.{leb, ltb}
use lib.Ieee.{Float, binary32, le, lt, of_bits, fits}
use borrow.Author.Tests.{leb-true, leb-false, ltb-false}
use Rattle.ieee.specs.Constants.{plus_zero32}
use Rattle.picks.specs.Pick.{pick}
use Rattle.ieee.specs.Magnitude.{within_power}
use Rattle.order.specs.Order.{From, NeverFalls}
use Rattle.order.proofs.OrderedList.{Each, from_le}
use Rattle.process_sm_machine.specs.declared.Change.{Change}
use Rattle.process_sm_machine.specs.Machine.{beat_at}
use Rattle.process_sm_walk.specs.Changes.{tempo_of, stop_of, weave, merged_changes}
use Rattle.process_sm_walk.specs.Chart.{tempos_by0, stops_before}
use Rattle.rows.proofs.Allowed.{within-allowed}
use Rattle.process_sm_laws.specs.Beats.{Beat, beat_key}
use Rattle.process_sm_laws.specs.inside.Keys.{at}
use Rattle.process_sm_laws.proofs.BeatsOnRows.{at_le, at_lt}

abbrev pub change_key : Change → ℕ
change_key change = at (beat_at change)

-- every beat of a list is a beat
abbrev pub Beats : List (Float × Float) → Type 0
Beats list = Each (beat_key binary32) (λ (e : Float × Float). Beat e.0) list

-- ---- what holds of all entries holds of all changes

module _ (Q : Change → Type 0) where
  each-stops : (stops : List (Float × Float)) → Each (beat_key binary32) (λ (e : Float × Float). Q (stop_of e)) stops → Each change_key Q (merged_changes [] stops)
  each-stops [] q = tt
  each-stops (stop ∷ stops) q = (q.0, each-stops stops q.1)

  each_weave : (tempo : Float × Float) (tempos : List (Float × Float)) → Q (tempo_of tempo)
      → ((stops : List (Float × Float)) → Each (beat_key binary32) (λ (e : Float × Float). Q (stop_of e)) stops → Each change_key Q (merged_changes tempos stops))
      → (stops : List (Float × Float)) → Each (beat_key binary32) (λ (e : Float × Float). Q (stop_of e)) stops → Each change_key Q (weave tempo (merged_changes tempos) stops)
  each_weave tempo tempos p ih [] q = (p, ih [] tt)
  each_weave tempo tempos p ih (stop ∷ stops) q = by (le tempo.0 stop.0) (ih (stop ∷ stops) q) (each_weave tempo tempos p ih stops q.1)
    where
      by : (b : Bool) → Each change_key Q (merged_changes tempos (stop ∷ stops)) → Each change_key Q (weave tempo (merged_changes tempos) stops)
          → Each change_key Q (pick b (tempo_of tempo ∷ merged_changes tempos (stop ∷ stops)) (stop_of stop ∷ weave tempo (merged_changes tempos) stops))
      by true a b = (p, a)
      by false a b = (q.0, b)

  pub each-merged : (tempos stops : List (Float × Float)) → Each (beat_key binary32) (λ (e : Float × Float). Q (tempo_of e)) tempos
      → Each (beat_key binary32) (λ (e : Float × Float). Q (stop_of e)) stops → Each change_key Q (merged_changes tempos stops)
  each-merged [] stops p q = each-stops stops q
  each-merged (tempo ∷ tempos) stops p q = each_weave tempo tempos p.0 (λ (s : List (Float × Float)). each-merged tempos s p.1) stops q

-- ---- none is before a beat that is before all

module _ (k : ℕ) where
  from-stops : (stops : List (Float × Float)) → From (beat_key binary32) k stops → From change_key k (merged_changes [] stops)
  from-stops [] q = tt
  from-stops (stop ∷ stops) q = (q.0, from-stops stops q.1)

  from-weave : (tempo : Float × Float) (tempos : List (Float × Float)) → k ≤ at tempo.0
      → ((stops : List (Float × Float)) → From (beat_key binary32) k stops → From change_key k (merged_changes tempos stops))
      → (stops : List (Float × Float)) → From (beat_key binary32) k stops → From change_key k (weave tempo (merged_changes tempos) stops)
  from-weave tempo tempos p ih [] q = (p, ih [] tt)
  from-weave tempo tempos p ih (stop ∷ stops) q = by (le tempo.0 stop.0) (ih (stop ∷ stops) q) (from-weave tempo tempos p ih stops q.1)
    where
      by : (b : Bool) → From change_key k (merged_changes tempos (stop ∷ stops)) → From change_key k (weave tempo (merged_changes tempos) stops)
          → From change_key k (pick b (tempo_of tempo ∷ merged_changes tempos (stop ∷ stops)) (stop_of stop ∷ weave tempo (merged_changes tempos) stops))
      by true a b = (p, a)
      by false a b = (q.0, b)

  pub from-merged : (tempos stops : List (Float × Float)) → From (beat_key binary32) k tempos → From (beat_key binary32) k stops → From change_key k (merged_changes tempos stops)
  from-merged [] stops p q = from-stops stops q
  from-merged (tempo ∷ tempos) stops p q = from-weave tempo tempos p.0 (λ (s : List (Float × Float)). from-merged tempos s p.1) stops q

-- ---- the changes never fall

rises-stops : (stops : List (Float × Float)) → NeverFalls (beat_key binary32) stops → NeverFalls change_key (merged_changes [] stops)
rises-stops [] r = tt
rises-stops (stop ∷ stops) r = (from-stops (at stop.0) stops r.0, rises-stops stops r.1)

rises-weave : (tempo : Float × Float) (tempos : List (Float × Float)) → Beat tempo.0 → From (beat_key binary32) (at tempo.0) tempos
    → ((stops : List (Float × Float)) → Beats stops → NeverFalls (beat_key binary32) stops → NeverFalls change_key (merged_changes tempos stops))
    → (stops : List (Float × Float)) → Beats stops → NeverFalls (beat_key binary32) stops → NeverFalls change_key (weave tempo (merged_changes tempos) stops)
rises-weave tempo tempos b p ih [] q r = (from-merged (at tempo.0) tempos [] p tt, ih [] tt tt)
rises-weave tempo tempos b p ih (stop ∷ stops) q r = by (le tempo.0 stop.0) (sym (at_le tempo.0 stop.0 b q.0)) (rises-weave tempo tempos b p ih stops q.1 r.1)
  where
    by : (t : Bool) → leb (at tempo.0) (at stop.0) ≡ t → NeverFalls change_key (weave tempo (merged_changes tempos) stops)
        → NeverFalls change_key (pick t (tempo_of tempo ∷ merged_changes tempos (stop ∷ stops)) (stop_of stop ∷ weave tempo (merged_changes tempos) stops))
    by true e rest =
        let less : at tempo.0 ≤ at stop.0 = leb-true (at tempo.0) (at stop.0) e in
        (from-merged (at tempo.0) tempos (stop ∷ stops) p (less, from_le (beat_key binary32) (at tempo.0) (at stop.0) stops less r.0), ih (stop ∷ stops) q r)
    by false e rest =
        let more : at stop.0 < at tempo.0 = leb-false (at tempo.0) (at stop.0) e in
        (from-merged (at stop.0) (tempo ∷ tempos) stops (omega arith, from_le (beat_key binary32) (at stop.0) (at tempo.0) tempos (omega arith) p) r.0, rest)

pub rises-merged : (tempos stops : List (Float × Float)) → Beats tempos → NeverFalls (beat_key binary32) tempos → Beats stops → NeverFalls (beat_key binary32) stops
    → NeverFalls change_key (merged_changes tempos stops)
rises-merged [] stops b r q s = rises-stops stops s
rises-merged (tempo ∷ tempos) stops b r q s = rises-weave tempo tempos b.0 r.0 (λ (l : List (Float × Float)). rises-merged tempos l b.1 r.1) stops q s

-- ---- what is left of a list

module _ {A : Type 0} (key : A → ℕ) where
  pub each-drop : (P : A → Type 0) (i : ℕ) (l : List A) → Each key P l → Each key P (drop i l)
  each-drop P zero l p = p
  each-drop P (suc i) [] p = tt
  each-drop P (suc i) (x ∷ l) p = each-drop P i l p.1

  pub rises-drop : (i : ℕ) (l : List A) → NeverFalls key l → NeverFalls key (drop i l)
  rises-drop zero l p = p
  rises-drop (suc i) [] p = tt
  rises-drop (suc i) (x ∷ l) p = rises-drop i l p.1

  from-drop : (k i : ℕ) (l : List A) → From key k l → From key k (drop i l)
  from-drop k zero l p = p
  from-drop k (suc i) [] p = tt
  from-drop k (suc i) (x ∷ l) p = from-drop k i l p.1

-- ---- after the opening

pub beat_naught : Beat plus_zero32
unfolding of_bits le fits within_power
beat_naught = record { held = tt; allowed = within-allowed plus_zero32 tt }

stops-after : (stops : List (Float × Float)) → Beats stops → NeverFalls (beat_key binary32) stops → From (beat_key binary32) (at plus_zero32) (drop (stops_before stops) stops)
unfolding stops_before
stops-after [] b r = tt
stops-after (stop ∷ stops) b r = by (lt stop.0 plus_zero32) (sym (at_lt stop.0 plus_zero32 b.0 beat_naught)) (stops-after stops b.1 r.1)
  where
    by : (t : Bool) → ltb (at stop.0) (at plus_zero32) ≡ t → From (beat_key binary32) (at plus_zero32) (drop (stops_before stops) stops) → From (beat_key binary32) (at plus_zero32) (drop (pick t (suc (stops_before stops)) 0) (stop ∷ stops))
    by true e rest = rest
    by false e rest =
        let less : at plus_zero32 ≤ at stop.0 = ltb-false (at stop.0) (at plus_zero32) e in
        (less, from_le (beat_key binary32) (at plus_zero32) (at stop.0) stops less r.0)

tempos-after : (tempos : List (Float × Float)) → Beats tempos → NeverFalls (beat_key binary32) tempos → From (beat_key binary32) (at plus_zero32) (drop (tempos_by0 tempos) tempos)
unfolding tempos_by0
tempos-after [] b r = tt
tempos-after (tempo ∷ tempos) b r = by (le tempo.0 plus_zero32) (sym (at_le tempo.0 plus_zero32 b.0 beat_naught)) (tempos-after tempos b.1 r.1)
  where
    by : (t : Bool) → leb (at tempo.0) (at plus_zero32) ≡ t → From (beat_key binary32) (at plus_zero32) (drop (tempos_by0 tempos) tempos) → From (beat_key binary32) (at plus_zero32) (drop (pick t (suc (tempos_by0 tempos)) 0) (tempo ∷ tempos))
    by true e rest = rest
    by false e rest =
        let more : at plus_zero32 < at tempo.0 = leb-false (at tempo.0) (at plus_zero32) e in
        (omega arith, from_le (beat_key binary32) (at plus_zero32) (at tempo.0) tempos (omega arith) r.0)

-- the opening has used up one at least
pub after-opening : (tempos stops : List (Float × Float)) → Beats tempos → NeverFalls (beat_key binary32) tempos → Beats stops → NeverFalls (beat_key binary32) stops
    → From change_key (at plus_zero32) (merged_changes (drop (max (tempos_by0 tempos) 1) tempos) (drop (stops_before stops) stops))
after-opening tempos stops b r q s =
    from-merged (at plus_zero32) (drop (max (tempos_by0 tempos) 1) tempos) (drop (stops_before stops) stops)
    (by (tempos_by0 tempos) (tempos-after tempos b r)) (stops-after stops q s)
  where
    by : (n : ℕ) → From (beat_key binary32) (at plus_zero32) (drop n tempos) → From (beat_key binary32) (at plus_zero32) (drop (max n 1) tempos)
    by zero h = from-drop (beat_key binary32) (at plus_zero32) 1 tempos h
    by (suc n) h = rw (suc-max-suc n 0 ∙ ap suc (max-zero n)) h
