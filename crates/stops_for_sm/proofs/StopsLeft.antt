-- Where no delay and no warp is left, the sums are those of the stops alone, each on its own. Assumes nothing.
use Rattle.std.proofs.Common.{◌≡◌, ℕ, zero, suc, ◌+◌, ◌-◌, ◌%◌, ◌<◌, ◌≤◌, Bool, true, false, ltb, List, ◌++◌, length, get_or, take, drop, sym, refl, ap, ◌∙◌, arith, length-append, length-take-le, drop-drop, ltb-false, le-ltb, lt-ltb}
use lib.Ieee.{Float, nan, binary32, add}
use Rattle.ieee.specs.Constants.{plus_zero}
use Rattle.order.specs.Order.{laid}
use Rattle.order.proofs.LaidOverFront.{Laying}
use Rattle.stops_for_sm.specs.Merging.{Sources, Heads, lesser, least_beat, meets, turn, is_over, turns_left, sum_written, merged_within, merged_stops}
use Rattle.stops_for_sm.specs.inside.InHand.{stops_alone, at_stop}
use Rattle.stops_for_sm.specs.Plain.{AllFinite, Plain}

-- ---- stops alone
pub alone-plain : (stops : List Float) → AllFinite stops → length stops % 2 ≡ 0 → Plain (stops_alone stops)
alone-plain stops n pairs = record {
  stops = n;
  delays = record { same = λ i h. absurd (omega arith); below = λ i h. absurd (omega arith) };
  warps = record { same = λ i h. absurd (omega arith); below = λ i h. absurd (omega arith) };
  stop_pairs = pairs;
  delay_columns = refl;
  warp_columns = refl;
}

module _ (stops : List Float) (place : ℕ) where
  pub alone-more : place < length stops → is_over (stops_alone stops) (at_stop place) ≡ false
  unfolding is_over
  alone-more h = rw (lt-ltb place (length stops) h)

  pub alone-over : length stops ≤ place → is_over (stops_alone stops) (at_stop place) ≡ true
  unfolding is_over
  alone-over h = rw (le-ltb place (length stops) h)

  pub alone-turn : AllFinite stops → place < length stops → record { heads = at_stop (place + 2); beat = get_or stops place nan; value = add binary32 plus_zero (get_or stops (place + 1) nan) } ≡ turn (stops_alone stops) (at_stop place)
  unfolding turn least_beat lesser meets
  alone-turn n h = rw (lt-ltb place (length stops) h, n.below place h, n.same place h)

-- ---- the other lists at their ends
record Ended (s : Sources) (h : Heads) : Type 0 where
  delays : ltb h.delay (length s.delay_beats) ≡ false
  warps : ltb h.warp (length s.warp_beats) ≡ false

module _ (s : Sources) (h : Heads) (e : Ended s h) where
  same_over : is_over s h ≡ is_over (stops_alone s.stops) (at_stop h.stop)
  unfolding is_over
  same_over = rw (e.delays, e.warps)

  same_left : turns_left s h ≡ turns_left (stops_alone s.stops) (at_stop h.stop)
  same_left = omega (arith, ltb-false h.delay (length s.delay_beats) e.delays, ltb-false h.warp (length s.warp_beats) e.warps)

  same-written : sum_written (turn s h) ≡ sum_written (turn (stops_alone s.stops) (at_stop h.stop))
  unfolding sum_written turn least_beat lesser meets
  same-written = rw (e.delays, e.warps)

  same_stop : (turn s h).heads.stop ≡ (turn (stops_alone s.stops) (at_stop h.stop)).heads.stop
  unfolding turn least_beat lesser meets
  same_stop = rw (e.delays, e.warps)

  alone-heads : (turn (stops_alone s.stops) (at_stop h.stop)).heads ≡ at_stop (turn (stops_alone s.stops) (at_stop h.stop)).heads.stop
  unfolding turn least_beat lesser meets
  alone-heads = refl

  still-ended : Ended s (turn s h).heads
  unfolding turn meets
  still-ended = record { delays = rw e.delays e.delays; warps = rw e.warps e.warps }

same-within : (most : ℕ) (over : Bool) (s : Sources) (h : Heads) → Ended s h → merged_within most over s h ≡ merged_within most over (stops_alone s.stops) (at_stop h.stop)
unfolding merged_within
same-within zero over s h e = refl
same-within (suc most) true s h e = refl
same-within (suc most) false s h e =
    let next = (turn s h).heads in
    let still = still-ended s h e in
    let heads : at_stop next.stop ≡ (turn (stops_alone s.stops) (at_stop h.stop)).heads = ap at_stop (same_stop s h e) ∙ sym (alone-heads s h e) in
    let rest : merged_within most (is_over s next) s next ≡ merged_within most (is_over (stops_alone s.stops) (turn (stops_alone s.stops) (at_stop h.stop)).heads) (stops_alone s.stops) (turn (stops_alone s.stops) (at_stop h.stop)).heads =
    same-within most (is_over s next) s next still
    ∙ ap (λ (b : Bool). merged_within most b (stops_alone s.stops) (at_stop next.stop)) (same_over s next still)
    ∙ ap (λ (g : Heads). merged_within most (is_over (stops_alone s.stops) g) (stops_alone s.stops) g) heads in
    ap (λ (l : List (Float × Float)). l ++ merged_within most (is_over s next) s next) (same-written s h e)
    ∙ ap (λ (l : List (Float × Float)). sum_written (turn (stops_alone s.stops) (at_stop h.stop)) ++ l) rest

pub stops-left : (s : Sources) (h : Heads) → ltb h.delay (length s.delay_beats) ≡ false → ltb h.warp (length s.warp_beats) ≡ false → merged_stops s h ≡ merged_stops (stops_alone s.stops) (at_stop h.stop)
unfolding merged_stops
stops-left s h d w =
    let e : Ended s h = record { delays = d; warps = w } in
    same-within (turns_left s h) (is_over s h) s h e
    ∙ ap (λ (b : Bool). merged_within (turns_left s h) b (stops_alone s.stops) (at_stop h.stop)) (same_over s h e)
    ∙ ap (λ (n : ℕ). merged_within n (is_over (stops_alone s.stops) (at_stop h.stop)) (stops_alone s.stops) (at_stop h.stop)) (same_left s h e)

-- ---- laid behind what is there
module _ {new old out turns_left : List Float} {at : ℕ} (laying : Laying new old out turns_left at) where
  pub count-behind : at + length turns_left ≡ length new
  count-behind = omega (arith, length-append (take at out) turns_left, length-take-le at out laying.within, ap length laying.done)

  pub laid-behind : laid (take at out ++ turns_left) out ≡ laid new old
  unfolding laid
  laid-behind =
      let more : at + (length new - at) ≡ length new = omega (arith, count-behind) in
      rw laying.done (ap (◌++◌ new) (rw more at (sym (drop-drop (length new - at) at out) ∙ ap (drop (length new - at)) laying.rest ∙ drop-drop (length new - at) at old)))
