-- The reply by the walk to the asked row, and where that is soon at its end. Assumes nothing.
use Prim.Native.Nat.{ℕ}
use mathlib.Core.Bool.{true, false}
use mathlib.Core.Path.{◌≡◌}
use borrow.Author.Tests.{eq-eqb}
use lib.Dec.{eqb}
use lib.IntN.{ℤ}
use lib.Signed.{lt_z}
use lib.ListN.{length}
use lib.Ieee.{Float, binary64}
use Rattle.rows.specs.Rows.{row}
use Rattle.chart.specs.Timing.{Timing}
use Rattle.clock_walk.specs.Quiet.{only_tempos}
use Rattle.clock_walk.specs.Soon.{soon_of, walked_soon}
use Rattle.clock_walk.specs.Walk.{walk}
use Rattle.chart.specs.declared.State.{State}
use Rattle.clock_walk.specs.declared.Soon.{Soon}
use Rattle.clock_walk.specs.declared.Walked.{Walked}
use Rattle.clock_walk.proofs.OneTempo.{only-tempos, soon_walk}
use Rattle.clock_tests.specs.TimingNumbers.{beat_number}
use Rattle.clock.specs.Question.{filled, beginning, answered, reply, asking}
use Rattle.clock.specs.declared.Cursor.{Cursor}

-- where nothing but tempos is due, a walk that is soon over is the walk
pub soon_walked : (t : Timing) (r : ℤ) (s : State) (found : Soon) → found ≡ soon_of t.tempo_beats t.tempo_values s r → found.whole ≡ true
    → eqb s.tempos 0 ≡ false → only_tempos t.stop_beats t.delay_beats t.warp_beats s r ≡ true → walk t r s ≡ walked_soon t.tempo_values r found
soon_walked t r s found is whole past only = rw is (soon_walk t r s past (only-tempos t r s only) (rw is at whole))

pub soon_reply : (t : Timing) (c : Cursor) (offset global beat : Float) (r : ℤ) (w : Walked) → r ≡ row binary64 beat
    → lt_z r c.asked ≡ false → eqb (length t.tempo_beats) 0 ≡ false → walk t r c.state ≡ w
    → answered global r w ≡ reply t c offset global beat
unfolding reply filled beginning
soon_reply t c offset global beat r w e later some is = rw (← e, later, some, is)

pub walked-reply : (t : Timing) (c : Cursor) (offset global beat : Float) (r : ℤ) (w : Walked) → r ≡ row binary64 beat
    → w ≡ walk (filled t) r (beginning c r offset global)
    → answered global r w ≡ reply t c offset global beat
unfolding reply
walked-reply t c offset global beat r w e is = rw (is, e)

pub reply-asked : (t : Timing) (c : Cursor) (offset global beat : Float) (number : ℕ) → number ≡ beat_number beat → number ≡ 0
    → reply t c offset global beat ≡ asking t c offset global beat
unfolding asking
reply-asked t c offset global beat number is none = rw (← is, eq-eqb number 0 none)
