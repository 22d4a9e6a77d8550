-- The sums of all turns, laid turn by turn, and places that stay within their lists. Assumes nothing.
use Rattle.std.proofs.Common.{◌≡◌, ℕ, zero, suc, ◌+◌, ◌*◌, ◌%◌, ◌≤◌, Bool, true, false, List, [], ◌∷◌, ◌++◌, length, get_or, drop, set, refl, ap, ◌∙◌, subst, arith, length-append, length-drop}
use lib.Ieee.{Float, nan, inf, le, ne}
use Rattle.ieee.specs.Constants.{plus_zero}
use Rattle.picks.specs.Pick.{pick}
use Rattle.order.proofs.LaidOverFront.{Laying, laying-more, laying-room}
use Rattle.stops_for_sm.specs.Merging.{Sources, Heads, Turned, lesser, least_beat, meets, plus, less, moved_on, leading, forward, tempo_place, beat_here, stop_met, delay_met, warp_met, turn, is_over, turns_left, sum_written, merged_within, merged_stops, at_first}
use Rattle.stops_for_sm.specs.Filling.{flat}
use Rattle.stops_for_sm.specs.Plain.{Plain}
use Rattle.stops_for_sm.proofs.EveryTurnMeets.{here, merged_on}

-- ---- places
leading_le : (beat : Float) (beats : List Float) → leading beat beats ≤ length beats
unfolding leading
leading_le beat [] = omega arith
leading_le beat (b ∷ beats) = go (le b beat) (leading_le beat beats)
  where
    go : (x : Bool) → leading beat beats ≤ length beats → pick x (suc (leading beat beats)) 0 ≤ suc (length beats)
    go true h = omega arith
    go false h = omega arith

pub forward_le : (beats : List Float) (place : ℕ) (beat : Float) → place ≤ length beats → forward beats place beat ≤ length beats
unfolding forward
forward_le beats place beat h = omega (arith, leading_le beat (drop (place + 1) beats), length-drop (place + 1) beats)

pub record Fit (s : Sources) (h : Heads) : Type 0 where
  pub tempo : h.tempo ≤ length s.tempo_beats
  pub stop : h.stop ≤ length s.stops + 1
  pub delay : h.delay ≤ length s.delay_beats
  pub warp : h.warp ≤ length s.warp_beats
  pub stop_pair : h.stop % 2 ≡ 0

pub first-fit : (s : Sources) → Fit s at_first
first-fit s = record { tempo = omega arith; stop = omega arith; delay = omega arith; warp = omega arith; stop_pair = refl }

module _ (s : Sources) (h : Heads) (plain : Plain s) (more : is_over s h ≡ false) where
  moved : (b : Bool) (place by most : ℕ) → place ≤ most → (b ≡ true → place + by ≤ most) → moved_on b place by ≤ most
  moved true place by most p q = q refl
  moved false place by most p q = p

  pair-moved : (b : Bool) (place : ℕ) → place % 2 ≡ 0 → moved_on b place 2 % 2 ≡ 0
  pair-moved true place p = omega arith
  pair-moved false place p = p

  tempo-moved : (b : Bool) (place : ℕ) (beat : Float) → place ≤ length s.tempo_beats → tempo_place b s.tempo_beats place beat ≤ length s.tempo_beats
  tempo-moved true place beat p = forward_le s.tempo_beats place beat p
  tempo-moved false place beat p = p

  pub turned-fit : Fit s h → Fit s (turn s h).heads
  unfolding turn
  turned-fit f =
      let stop-here = here s.stops h.stop (beat_here s h) in
      let delay-here = here s.delay_beats h.delay (beat_here s h) in
      let warp-here = here s.warp_beats h.warp (beat_here s h) in
      record {
        tempo = tempo-moved (warp_met s h) h.tempo (beat_here s h) f.tempo;
        stop = moved (stop_met s h) h.stop 2 (length s.stops + 1) f.stop (λ e. omega (arith, stop-here e));
        delay = moved (delay_met s h) h.delay 1 (length s.delay_beats) f.delay (λ e. omega (arith, delay-here e));
        warp = moved (warp_met s h) h.warp 1 (length s.warp_beats) f.warp (λ e. omega (arith, warp-here e));
        stop_pair = pair-moved (stop_met s h) h.stop f.stop_pair;
      }

-- ---- a turn made list by list
module _ (s : Sources) (h : Heads) (beat : Float) (least : beat ≡ lesser (lesser (lesser (inf false) s.stops h.stop) s.delay_beats h.delay) s.warp_beats h.warp) where
  pub list_by_list : (stop delay tempo warp : ℕ) (stopped delayed value : Float)
      → stop ≡ moved_on (meets s.stops h.stop beat) h.stop 2
      → stopped ≡ plus (meets s.stops h.stop beat) plus_zero (get_or s.stops (h.stop + 1) nan)
      → delay ≡ moved_on (meets s.delay_beats h.delay beat) h.delay 1
      → delayed ≡ plus (meets s.delay_beats h.delay beat) stopped (get_or s.delay_values h.delay nan)
      → tempo ≡ tempo_place (meets s.warp_beats h.warp beat) s.tempo_beats h.tempo beat
      → warp ≡ moved_on (meets s.warp_beats h.warp beat) h.warp 1
      → value ≡ less (meets s.warp_beats h.warp beat) delayed (get_or s.tempo_values tempo nan) (get_or s.warp_lengths h.warp nan)
      → record { heads = record { tempo = tempo; stop = stop; delay = delay; warp = warp }; beat = beat; value = value } ≡ turn s h
  unfolding turn least_beat
  list_by_list stop delay tempo warp stopped delayed value a b c d e f g = rw (g, f, e, d, c, b, a, least)

-- ---- counting
written_count : (t : Turned) → pick (ne t.value plus_zero) 1 0 ≡ length (sum_written t)
unfolding sum_written
written_count t = go (ne t.value plus_zero)
  where
    go : (x : Bool) → pick x 1 0 ≡ length {A = Float × Float} (pick x ((t.beat, t.value) ∷ []) [])
    go true = refl
    go false = refl

-- no more sums than entries
within-left : (f : ℕ) (b : Bool) (s : Sources) (h : Heads) → length (merged_within f b s h) ≤ f
unfolding merged_within
within-left zero b s h = omega arith
within-left (suc f) true s h = omega arith
within-left (suc f) false s h =
    omega (arith, length-append (sum_written (turn s h)) (merged_within f (is_over s (turn s h).heads) s (turn s h).heads), within-left f (is_over s (turn s h).heads) s (turn s h).heads, one_at_most (ne (turn s h).value plus_zero), written_count (turn s h))
  where
    one_at_most : (x : Bool) → pick x 1 0 ≤ 1
    one_at_most true = omega arith
    one_at_most false = omega arith

pub at_most_left : (s : Sources) (h : Heads) → length (merged_stops s h) ≤ turns_left s h
unfolding merged_stops
at_most_left s h = within-left (turns_left s h) (is_over s h) s h

-- ---- laying
pub flat-length : (l : List (Float × Float)) → length (flat l) ≡ length l * 2
unfolding flat
flat-length [] = refl
flat-length (e ∷ l) = omega (arith, flat-length l)

flat-written : (t : Turned) (rest : List (Float × Float)) (x : Bool) → ne t.value plus_zero ≡ x → flat (sum_written t ++ rest) ≡ pick x (t.beat ∷ t.value ∷ flat rest) (flat rest)
unfolding flat sum_written
flat-written t rest true e = rw e
flat-written t rest false e = rw e

module _ (s : Sources) (h : Heads) (plain : Plain s) (new old out : List Float) (at : ℕ) (laying : Laying new old out (flat (merged_stops s h)) at) (few : length new ≤ length old) where
  module _ (more : is_over s h ≡ false) (t : Turned) (is : t ≡ turn s h) where
    next : (x : Bool) → ne t.value plus_zero ≡ x → flat (merged_stops s h) ≡ pick x (t.beat ∷ t.value ∷ flat (merged_stops s t.heads)) (flat (merged_stops s t.heads))
    next x e = rw is (ap flat (merged_on s plain h more) ∙ flat-written (turn s h) (merged_stops s (turn s h).heads) x (rw is at e))

    -- room for a sum that is written
    pub sum_room : ne t.value plus_zero ≡ true → at + 2 ≤ length out
    sum_room e =
        let first = laying-room new old out (flat (merged_stops s h)) at laying t.beat (t.value ∷ flat (merged_stops s t.heads)) (next true e) few in
        let one = laying-more new old out (flat (merged_stops s h)) at laying t.beat (t.value ∷ flat (merged_stops s t.heads)) (next true e) first in
        let second = laying-room new old (set out at t.beat) (t.value ∷ flat (merged_stops s t.heads)) (at + 1) one t.value (flat (merged_stops s t.heads)) refl few in
        omega (arith, second, one.size, laying.size)

    pub laid-turn : (at' : ℕ) (out' : List Float) → at' ≡ pick (ne t.value plus_zero) (at + 2) at → out' ≡ pick (ne t.value plus_zero) (set (set out at t.beat) (at + 1) t.value) out
        → Laying new old out' (flat (merged_stops s t.heads)) at'
    laid-turn at' out' p q = rw (p, q) (go (ne t.value plus_zero) refl)
      where
        go : (x : Bool) → ne t.value plus_zero ≡ x → Laying new old (pick x (set (set out at t.beat) (at + 1) t.value) out) (flat (merged_stops s t.heads)) (pick x (at + 2) at)
        go true e =
            let first = laying-room new old out (flat (merged_stops s h)) at laying t.beat (t.value ∷ flat (merged_stops s t.heads)) (next true e) few in
            let one = laying-more new old out (flat (merged_stops s h)) at laying t.beat (t.value ∷ flat (merged_stops s t.heads)) (next true e) first in
            let second = laying-room new old (set out at t.beat) (t.value ∷ flat (merged_stops s t.heads)) (at + 1) one t.value (flat (merged_stops s t.heads)) refl few in
            let two = laying-more new old (set out at t.beat) (t.value ∷ flat (merged_stops s t.heads)) (at + 1) one t.value (flat (merged_stops s t.heads)) refl second in
            subst (λ (k : ℕ). Laying new old (set (set out at t.beat) (at + 1) t.value) (flat (merged_stops s t.heads)) k) (omega arith) two
        go false e = subst (λ (l : List Float). Laying new old out l at) (next false e) laying
