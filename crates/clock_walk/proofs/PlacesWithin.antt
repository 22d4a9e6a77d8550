-- Where nothing but tempos is due by a row, the row is allowed and not below 0, and the places in the other lists are within them. Assumes nothing.
use Rattle.std.proofs.Common.{◌≡◌, ℕ, ◌≤◌, Bool, true, false, eqb, ltb, List, length, get_or, ℤ, pos, ◌+ℤ◌, refl, arith, ltb-true, eqb-true}
use lib.Signed.{lt_z}
use lib.Ieee.{Float, fin, nan, binary64, le}
use Rattle.picks.specs.Pick.{pick}
use Rattle.rows.specs.Rows.{beat_of}
use Rattle.clock_walk.specs.Quiet.{end_row, not_before, only_tempos}
use Rattle.chart.specs.declared.State.{State}
use Rattle.rows.proofs.RowOrder.{no}

pub place-within : (beats : List Float) (place : ℕ) (beat : Float) → not_before beats place beat ≡ true → place ≤ length beats
unfolding not_before
place-within beats place beat h = go (ltb place (length beats)) (eqb place (length beats)) refl refl h
  where
    go : (x y : Bool) → ltb place (length beats) ≡ x → eqb place (length beats) ≡ y
        → pick x (pick (le (get_or beats place nan) (fin false 1 (pos 16))) (le beat (get_or beats place nan)) false) y ≡ true → place ≤ length beats
    go true y e f h = omega (arith, ltb-true place (length beats) e)
    go false true e f h = omega (arith, eqb-true place (length beats) f)
    go false false e f h = no h

module _ (stop_beats delay_beats warp_beats : List Float) (s : State) (r : ℤ) where
  abbrev after : Float
  after = beat_of binary64 (r +ℤ pos 1)

  -- what each test found
  pub record Tests : Type 0 where
    pub not_below : lt_z r (pos 0) ≡ false
    pub not_above : lt_z (pos 3145727) r ≡ false
    pub before_end : lt_z r (end_row s.warping s.end) ≡ true
    pub stop : not_before stop_beats s.stops after ≡ true
    pub delay : not_before delay_beats s.delays after ≡ true
    pub warp : not_before warp_beats s.warps after ≡ true

  pub each-test : only_tempos stop_beats delay_beats warp_beats s r ≡ true → Tests
  unfolding only_tempos
  each-test h =
      go (lt_z r (pos 0)) (lt_z (pos 3145727) r) (lt_z r (end_row s.warping s.end)) (not_before stop_beats s.stops after) (not_before delay_beats s.delays after) (not_before warp_beats s.warps after)
      refl refl refl refl refl refl h
    where
      go : (a b c d e f : Bool) → lt_z r (pos 0) ≡ a → lt_z (pos 3145727) r ≡ b → lt_z r (end_row s.warping s.end) ≡ c
          → not_before stop_beats s.stops after ≡ d → not_before delay_beats s.delays after ≡ e → not_before warp_beats s.warps after ≡ f
          → pick a false (pick b false (pick c (pick d (pick e f false) false) false)) ≡ true → Tests
      go false false true true true true p q u v w x h = record { not_below = p; not_above = q; before_end = u; stop = v; delay = w; warp = x }
      go false false true true true false p q u v w x h = no h
      go false false true true false f p q u v w x h = no h
      go false false true false e f p q u v w x h = no h
      go false false false d e f p q u v w x h = no h
      go false true c d e f p q u v w x h = no h
      go true b c d e f p q u v w x h = no h

  pub places-within : only_tempos stop_beats delay_beats warp_beats s r ≡ true → (s.stops ≤ length stop_beats) × (s.delays ≤ length delay_beats) × (s.warps ≤ length warp_beats)
  places-within h =
      let are = each-test h in
      (place-within stop_beats s.stops after are.stop, place-within delay_beats s.delays after are.delay, place-within warp_beats s.warps after are.warp)
