-- The reply with a mark: strictly beyond the mark's row it is from the mark, on that row or before it the unmarked one. Assumes nothing.
use Prim.Native.Nat.{◌^◌, ◌<◌}
use mathlib.Core.Bool.{Bool, true, false}
use mathlib.Core.List.{[], ◌∷◌}
use mathlib.Core.Path.{◌≡◌, refl}
use lib.Dec.{eqb}
use lib.IntN.{ℤ}
use lib.Signed.{lt_z, mag}
use lib.ListN.{length}
use lib.Ieee.{Float, binary64}
use mir.Syntax.{w32}
use mir.Val.{to_z, of_z}
use Rattle.ieee.specs.Constants.{plus_zero, sixty}
use Rattle.picks.specs.Pick.{pick}
use Rattle.rows.specs.Rows.{row}
use Rattle.rows.proofs.BackFromBits.{back}
use Rattle.chart.specs.Timing.{Timing}
use Rattle.clock_walk.specs.Soon.{quiet_at}
use Rattle.clock_walk.specs.declared.Mark.{Mark}
use Rattle.clock.specs.Question.{filled, answered, reply, asking, player_question}
use Rattle.clock.specs.Marked.{marked_walk, marked_reply, marked_asking, marked_player_question}
use Rattle.clock.specs.declared.Cursor.{Cursor}
use Rattle.clock.proofs.FilledTempos.{tempoed}

pub filled-tempos : (t : Timing) → (filled t).tempo_values ≡ pick (eqb (length t.tempo_beats) 0) (sixty ∷ []) t.tempo_values
unfolding filled
filled-tempos t = go (eqb (length t.tempo_beats) 0)
  where
    go : (b : Bool) → (pick b (tempoed t (plus_zero ∷ []) (sixty ∷ [])) t).tempo_values ≡ pick b (sixty ∷ []) t.tempo_values
    go true = refl
    go false = refl

module _ (m : Mark) (t : Timing) (c : Cursor) (offset global beat : Float) where
  not_beyond : lt_z m.row (row binary64 beat) ≡ false → marked_reply m t c offset global beat ≡ reply t c offset global beat
  unfolding marked_reply marked_walk reply
  not_beyond h = rw h

  pub asking-before : lt_z m.row (row binary64 beat) ≡ false → marked_asking m t c offset global beat ≡ asking t c offset global beat
  unfolding marked_asking asking
  asking-before h = rw (not_beyond h)

  pub player_before : lt_z m.row (row binary64 beat) ≡ false → marked_player_question m t c offset global beat ≡ player_question t c offset global beat
  unfolding marked_player_question player_question
  player_before h = rw (not_beyond h)

  pub beyond-reply : (r : ℤ) → mag r < 2 ^ 31 → r ≡ row binary64 beat → lt_z m.row (row binary64 beat) ≡ true →
      let tempos = pick (eqb (length t.tempo_beats) 0) (sixty ∷ []) t.tempo_values in
      let asked = to_z w32 (of_z w32 r) in
      answered global asked (record { state = m.state; passed = 0; time = quiet_at tempos m.state asked }) ≡ marked_reply m t c offset global beat
  unfolding marked_reply marked_walk
  beyond-reply r fits is h = rw (back r (record { sfits = fits }), is, h, filled-tempos t)
