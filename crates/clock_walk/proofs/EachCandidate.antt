-- What holds of each candidate holds of what is ahead: so its place is within its list. Assumes nothing.
use Rattle.std.proofs.Common.{◌≡◌, ℕ, ◌<◌, Bool, true, false, ltb, List, length, get_or, refl, subst, ltb-true, Option, Some, None}
use lib.Signed.{lt_z}
use lib.Ieee.{Float, nan, binary64}
use Rattle.picks.specs.Pick.{pick}
use Rattle.rows.specs.Rows.{row}
use Rattle.chart.specs.Timing.{Timing}
use Rattle.clock_walk.specs.Events.{sooner, offered, end_offered, row_ahead, ahead}
use Rattle.chart.specs.declared.State.{State}
use Rattle.clock_walk.specs.declared.Next.{Next}
use Rattle.clock_walk.specs.declared.Event.{Event}
use Rattle.clock_walk.specs.declared.Event.TheVariants.{WarpEnd, Tempo, Delay, Stop, Warp}

module _ (P : Option Next → Type 0) where
  of_pick : (b : Bool) (x y : Option Next) → (b ≡ true → P x) → P y → P (pick b x y)
  of_pick true x y p q = p refl
  of_pick false x y p q = q

  of_sooner : (a c : Option Next) → P a → P c → P (sooner row_ahead a c)
  unfolding sooner
  of_sooner a c p q = of_pick (lt_z (row_ahead c) (row_ahead a)) c a (λ _. q) p

  of_offered : (a : Option Next) (beats : List Float) (place : ℕ) (k : Event)
      → P a → (place < length beats → P (Some (record { row = row binary64 (get_or beats place nan); kind = k }))) → P (offered row_ahead Some a beats place k)
  unfolding offered
  of_offered a beats place k p q =
      of_pick (ltb place (length beats)) (sooner row_ahead a (Some (record { row = row binary64 (get_or beats place nan); kind = k }))) a
      (λ e. of_sooner a (Some (record { row = row binary64 (get_or beats place nan); kind = k })) p (q (ltb-true place (length beats) e))) p

  of_end : (a : Option Next) (warping : Bool) (end : Float) → P a → (warping ≡ true → P (Some (record { row = row binary64 end; kind = WarpEnd }))) → P (end_offered row_ahead Some a warping end)
  unfolding end_offered
  of_end a warping end p q =
      of_pick warping (sooner row_ahead a (Some (record { row = row binary64 end; kind = WarpEnd }))) a (λ h. of_sooner a (Some (record { row = row binary64 end; kind = WarpEnd })) p (q h)) p

  pub of_ahead : (t : Timing) (s : State)
      → P None
      → (s.warping ≡ true → P (Some (record { row = row binary64 s.end; kind = WarpEnd })))
      → (s.tempos < length t.tempo_beats → P (Some (record { row = row binary64 (get_or t.tempo_beats s.tempos nan); kind = Tempo })))
      → (s.delays < length t.delay_beats → P (Some (record { row = row binary64 (get_or t.delay_beats s.delays nan); kind = Delay })))
      → (s.stops < length t.stop_beats → P (Some (record { row = row binary64 (get_or t.stop_beats s.stops nan); kind = Stop })))
      → (s.warps < length t.warp_beats → P (Some (record { row = row binary64 (get_or t.warp_beats s.warps nan); kind = Warp })))
      → P (ahead t s)
  unfolding ahead
  of_ahead t s none end tempo delay stop warp =
      of_offered _ t.warp_beats s.warps Warp
      (of_offered _ t.stop_beats s.stops Stop
      (of_offered _ t.delay_beats s.delays Delay (of_offered _ t.tempo_beats s.tempos Tempo (of_end None s.warping s.end none end) tempo) delay)
      stop)
      warp

-- the place of an event is within its list
abbrev pub Placed : Timing → State → Event → Type 0
Placed t s WarpEnd = s.warping ≡ true
Placed t s Tempo = s.tempos < length t.tempo_beats
Placed t s Delay = s.delays < length t.delay_beats
Placed t s Stop = s.stops < length t.stop_beats
Placed t s Warp = s.warps < length t.warp_beats

abbrev pub PlacedFound : Timing → State → Option Next → Type 0
PlacedFound t s (Some n) = Placed t s n.kind
PlacedFound t s None = Unit {0}

pub placed-ahead : (t : Timing) (s : State) → PlacedFound t s (ahead t s)
placed-ahead t s = of_ahead (PlacedFound t s) t s tt (λ h. h) (λ h. h) (λ h. h) (λ h. h) (λ h. h)

pub placed : (t : Timing) (s : State) (n : Next) → ahead t s ≡ Some n → Placed t s n.kind
placed t s n e = subst (PlacedFound t s) e (placed-ahead t s)
