-- Every event that is passed lessens what is left to pass, so that places and counts fit their integers. Assumes nothing.
use Rattle.std.proofs.Common.{◌≡◌, ℕ, suc, ◌+◌, ◌-◌, ◌*◌, ◌^◌, ◌<◌, ◌≤◌, Bool, true, false, length, ℤ, arith, Option, Some, None}
use lib.Ieee.{Float}
use Rattle.chart.specs.Timing.{Timing}
use Rattle.clock_walk.specs.Events.{ahead}
use Rattle.clock_walk.specs.Passing.{arrived, event_passed, after_warp_end, after_tempo, after_delay, after_stop, after_warp}
use Rattle.clock_walk.specs.inside.CanMove.{CanMove}
use Rattle.clock_walk.specs.Course.{is_found, is_ahead, past_found, onward, one, events_left}
use Rattle.chart.specs.declared.State.{State}
use Rattle.clock_walk.specs.declared.Next.{Next}
use Rattle.clock_walk.specs.declared.Event.{Event}
use Rattle.clock_walk.specs.declared.Event.TheVariants.{WarpEnd, Tempo, Delay, Stop, Warp}
use Rattle.rows.proofs.RowOrder.{no}
use Rattle.clock_walk.proofs.EachCandidate.{Placed, PlacedFound, placed-ahead, placed}

-- ---- what is left to pass
one_le : (b : Bool) → one b ≤ 1
one_le true = omega arith
one_le false = omega arith

fewer : (t : Timing) (s : State) (at : ℤ) (time number : Float) (k : Event) → Placed t s k → suc (events_left t (arrived s at time number k)) ≤ events_left t s
unfolding after_warp_end after_tempo after_delay after_stop after_warp
fewer t s at time number WarpEnd p = rw p (omega arith)
fewer t s at time number Tempo p = omega arith
fewer t s at time number Delay p = omega arith
fewer t s at time number Stop p = omega arith
fewer t s at time number Warp p = let h = one_le s.warping in omega arith

found-falls : (early : Float) (t : Timing) (s : State) (a : Option Next) → PlacedFound t s a → is_found a ≡ true → events_left t (past_found early t s a) < events_left t s
unfolding event_passed
found-falls early t s (Some n) p e = fewer t s n.row _ _ n.kind p
found-falls early t s None p e = no e

pub left-falls : (early : Float) (t : Timing) (s : State) → is_ahead t s ≡ true → events_left t (onward early t s) < events_left t s
left-falls early t s e = found-falls early t s (ahead t s) (placed-ahead t s) e

-- ---- places and counts fit their integers
can_move : (t : Timing) (s : State) (k : Event) → Placed t s k
    → length t.tempo_beats * 4 < 2 ^ 63 → length t.stop_beats * 4 < 2 ^ 63 → length t.delay_beats * 4 < 2 ^ 63 → length t.warp_beats * 4 < 2 ^ 63 → CanMove s k
can_move t s WarpEnd p a b c d = tt
can_move t s Tempo p a b c d = omega arith
can_move t s Delay p a b c d = omega arith
can_move t s Stop p a b c d = omega arith
can_move t s Warp p a b c d = omega arith

pub moves : (t : Timing) (s : State) (n : Next) → ahead t s ≡ Some n
    → length t.tempo_beats * 4 < 2 ^ 63 → length t.stop_beats * 4 < 2 ^ 63 → length t.delay_beats * 4 < 2 ^ 63 → length t.warp_beats * 4 < 2 ^ 63 → CanMove s n.kind
moves t s n is a b c d = can_move t s n.kind (placed t s n is) a b c d

cut : (a b : ℕ) → a - b ≤ a
cut a b = omega arith

pub left_le : (t : Timing) (s : State) → events_left t s ≤ length t.tempo_beats + length t.stop_beats + length t.delay_beats + 2 * length t.warp_beats + 1
left_le t s =
    go (length t.tempo_beats - s.tempos) (length t.stop_beats - s.stops) (length t.delay_beats - s.delays) (length t.warp_beats - s.warps) (one s.warping)
    (cut (length t.tempo_beats) s.tempos) (cut (length t.stop_beats) s.stops) (cut (length t.delay_beats) s.delays) (cut (length t.warp_beats) s.warps) (one_le s.warping)
  where
    go : (a b c d e : ℕ) → a ≤ length t.tempo_beats → b ≤ length t.stop_beats → c ≤ length t.delay_beats → d ≤ length t.warp_beats → e ≤ 1
        → a + b + c + 2 * d + e ≤ length t.tempo_beats + length t.stop_beats + length t.delay_beats + 2 * length t.warp_beats + 1
    go a b c d e p q r u v = omega arith

pub count_fits : (t : Timing) (start : State) (n l : ℕ) → n + l ≤ events_left t start
    → length t.tempo_beats * 4 < 2 ^ 63 → length t.stop_beats * 4 < 2 ^ 63 → length t.delay_beats * 4 < 2 ^ 63 → length t.warp_beats * 4 < 2 ^ 63 → n + 1 < 2 ^ 64
count_fits t start n l h a b c d = go (events_left t start) h (left_le t start)
  where
    go : (x : ℕ) → n + l ≤ x → x ≤ length t.tempo_beats + length t.stop_beats + length t.delay_beats + 2 * length t.warp_beats + 1 → n + 1 < 2 ^ 64
    go x u v = omega arith
