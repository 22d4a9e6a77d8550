-- A beat beyond a mark is answered from the mark, by beats a second there; one that is not, as without a mark. Assumes nothing.
use Rattle.std.proofs.Common.{◌≡◌, Bool, true, false, eqb, [], ◌∷◌, length, refl}
use lib.Signed.{lt_z}
use lib.Ieee.{Float, binary64, div}
use Rattle.ieee.specs.Constants.{plus_zero, sixty}
use Rattle.picks.specs.Pick.{pick}
use Rattle.rows.specs.Rows.{row}
use Rattle.rows.proofs.RowOrder.{no}
use Rattle.chart.specs.Timing.{Timing}
use Rattle.clock_walk.specs.Passing.{in_force, time_to, time_at}
use Rattle.clock_walk.specs.declared.Mark.{Mark}
use Rattle.clock_tests.specs.TimingNumbers.{beat_number}
use Rattle.clock.specs.Question.{asking}
use Rattle.clock.specs.Marked.{marked_walk, marked_reply, marked_asking}
use Rattle.clock.specs.declared.Cursor.{Cursor}
use Rattle.clock.proofs.MarkedReply.{filled-tempos, asking-before}
use Rattle.clock_run.specs.inside.Outlook.{is_beyond, quiet_time}
use Rattle.clock_run.proofs.QuietRows.{answer_of_lem}

module _ (m : Mark) (t : Timing) (offset global : Float) (c : Cursor) (beat : Float) where
  refused : eqb (beat_number beat) 0 ≡ false → marked_asking m t c offset global beat ≡ asking t c offset global beat
  unfolding marked_asking asking
  refused e = rw e

  pub unmarked : is_beyond m.row beat (row binary64 beat) ≡ false → marked_asking m t c offset global beat ≡ asking t c offset global beat
  unfolding is_beyond
  unmarked h = go (lt_z m.row (row binary64 beat)) refl h
    where
      go : (b : Bool) → lt_z m.row (row binary64 beat) ≡ b → pick b (eqb (beat_number beat) 0) false ≡ false → marked_asking m t c offset global beat ≡ asking t c offset global beat
      go true e k = refused k
      go false e k = asking-before m t c offset global beat e

  both : (a b : Bool) → pick a b false ≡ true → (a ≡ true) × (b ≡ true)
  both true true h = (refl, refl)
  both true false h = no h
  both false b h = no h

  pub beyond-answer : (rate : Float) → rate ≡ div binary64 (in_force plus_zero (pick (eqb (length t.tempo_beats) 0) (sixty ∷ []) t.tempo_values) m.state.tempos) sixty
      → is_beyond m.row beat (row binary64 beat) ≡ true
      → answer_of_lem t offset global c beat (record { state = m.state; passed = 0; time = quiet_time m.state rate (row binary64 beat) }) ≡ marked_asking m t c offset global beat
  unfolding is_beyond marked_asking marked_reply marked_walk time_at time_to quiet_time
  beyond-answer rate is h =
      let tests = both (lt_z m.row (row binary64 beat)) (eqb (beat_number beat) 0) h in
      rw (is, tests.0, tests.1, filled-tempos t)
