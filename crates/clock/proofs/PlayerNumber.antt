-- The player's question by its two numbers, one after the other: that of the beat is the lower one. Assumes nothing.
use Prim.Native.Nat.{ℕ}
use mathlib.Core.Bool.{Bool, true, false}
use mathlib.Core.Path.{◌≡◌, refl, sym, ◌∙◌}
use lib.Dec.{eqb}
use lib.ListN.{length}
use lib.Ieee.{Float}
use lib.Ieee.Scale.{finite}
use Rattle.picks.specs.Pick.{pick}
use Rattle.limits.specs.Numbers.{range_of, in_range}
use Rattle.limits.specs.Refusals.{lower}
use Rattle.limits.specs.declared.Kind.TheVariants.{Beat}
use Rattle.chart.specs.Timing.{Timing}
use Rattle.rows.proofs.RowOrder.{no}
use Rattle.clock_tests.specs.TimingNumbers.{beat_number}
use Rattle.clock_tests.specs.CursorNumbers.{places_in, rows_in, end_in, cursor_number}
use Rattle.clock.specs.Question.{tempos_of, cursor_refusal, player_number, player_question, refused_with, reply}
use Rattle.clock.specs.declared.Cursor.{Cursor}

-- 3 is lower than 9
three-first : (b p r f e : Bool) → eqb (pick b 0 3) 0 ≡ false
    → lower (pick b 0 3) (pick p (pick r (pick f (pick e 0 9) 9) 9) 9) ≡ pick b 0 3
unfolding lower
three-first true p r f e h = no (sym h)
three-first false true true true true h = refl
three-first false true true true false h = refl
three-first false true true false e h = refl
three-first false true false f e h = refl
three-first false false r f e h = refl

module _ (t : Timing) (c : Cursor) (offset global beat : Float) (asked : ℕ) (is : asked ≡ beat_number beat) where
  beat-first : eqb (beat_number beat) 0 ≡ false → player_number t c beat ≡ beat_number beat
  unfolding player_number cursor_refusal cursor_number beat_number
  beat-first h =
      three-first (in_range (range_of Beat) beat) (places_in (tempos_of t) (length t.stop_beats) (length t.delay_beats) (length t.warp_beats) c.state) (rows_in c.state.row c.asked) (finite c.state.time) (end_in c.state.end) h

  pub asked-first : eqb asked 0 ≡ false → player_number t c beat ≡ asked
  asked-first h = beat-first (rw is at h) ∙ sym is

  pub beat-refused : eqb asked 0 ≡ false → refused_with asked c ≡ player_question t c offset global beat
  unfolding player_question
  beat-refused h = let h' : eqb (beat_number beat) 0 ≡ false = rw is at h in rw (beat-first h', is, h')

  module _ (taken : eqb asked 0 ≡ true) (lent : ℕ)
      (Lent-is : lent ≡ cursor_number (pick (eqb (length t.tempo_beats) 0) 1 (length t.tempo_beats)) (length t.stop_beats) (length t.delay_beats) (length t.warp_beats) c.state c.asked) where
    pub cursor-next : player_number t c beat ≡ lent
    unfolding player_number lower cursor_refusal tempos_of
    cursor-next = rw (← is, taken) (sym Lent-is)

    pub cursor-refused : eqb lent 0 ≡ false → refused_with lent c ≡ player_question t c offset global beat
    unfolding player_question
    cursor-refused h = rw (cursor-next, h)

    pub both-taken : eqb lent 0 ≡ true → reply t c offset global beat ≡ player_question t c offset global beat
    unfolding player_question
    both-taken h = rw (cursor-next, h)
