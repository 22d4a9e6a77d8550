-- Beats that are asked with the mark that serves none are a history without a mark, and with the timing's own mark one with it. Assumes nothing.
use Rattle.std.proofs.Common.{◌≡◌, Bool, true, false, eqb, List, [], ◌∷◌, refl, ap, eqb-true}
use lib.Signed.{lt_z}
use lib.Ieee.{Float, binary64}
use Rattle.picks.specs.Pick.{pick}
use Rattle.rows.specs.Rows.{row}
use Rattle.rows.proofs.RowOrder.{lt_not}
use Rattle.chart.specs.Timing.{Timing}
use Rattle.clock_walk.specs.Events.{farthest}
use Rattle.clock_tests.specs.TimingNumbers.{beat_number}
use Rattle.clock.specs.Question.{asking}
use Rattle.clock.specs.Marked.{mark_of, no_mark, marked_asking}
use Rattle.clock.specs.History.{answers, last_cursor}
use Rattle.clock.specs.declared.Cursor.{Cursor}
use Rattle.clock.specs.declared.Answer.{Answer}
use Rattle.clock.proofs.NothingToAnswer.{taken_in_range}
use Rattle.clock_run.specs.Run.{run_of}
use Rattle.clock_run.specs.MarkedRun.{marked_run_of}
use Rattle.clock_run.specs.inside.Asked.{each_asked, last_asked}
use Rattle.clock_run.specs.inside.Outlook.{is_beyond}
use Rattle.clock_run.proofs.BeyondAMark.{unmarked}

-- no beat that is taken lies beyond the greatest i32
none-beyond : (b : Float) → is_beyond no_mark.row b (row binary64 b) ≡ false
unfolding is_beyond no_mark
none-beyond b = go (eqb (beat_number b) 0) refl
  where
    taken : eqb (beat_number b) 0 ≡ true → lt_z farthest (row binary64 b) ≡ false
    taken e = lt_not (row binary64 b) farthest (taken_in_range b (eqb-true (beat_number b) 0 e))

    either : (x : Bool) → pick x false false ≡ false
    either true = refl
    either false = refl

    go : (x : Bool) → eqb (beat_number b) 0 ≡ x → pick (lt_z farthest (row binary64 b)) x false ≡ false
    go true e = rw (taken e)
    go false e = either (lt_z farthest (row binary64 b))

module _ (t : Timing) (offset global : Float) where
  unserved : (c : Cursor) (b : Float) → marked_asking no_mark t c offset global b ≡ asking t c offset global b
  unserved c b = unmarked no_mark t offset global c b (none-beyond b)

  pub unmarked-answers : (c : Cursor) (beats : List Float) → each_asked no_mark t offset global c beats ≡ answers t offset global c (run_of beats)
  unfolding each_asked answers
  unmarked-answers c [] = refl
  unmarked-answers c (b ∷ beats) =
      rw (unserved c b) (ap (λ (list : List Answer). asking t c offset global b ∷ list) (unmarked-answers (asking t c offset global b).cursor beats))

  pub unmarked-last : (c : Cursor) (beats : List Float) → last_asked no_mark t offset global c beats ≡ last_cursor t offset global c (run_of beats)
  unfolding last_asked last_cursor
  unmarked-last c [] = refl
  unmarked-last c (b ∷ beats) = rw (unserved c b) (unmarked-last (asking t c offset global b).cursor beats)

  abbrev own : Cursor → Float → Answer
  own c b = marked_asking (mark_of t offset global) t c offset global b

  pub marked-answers : (c : Cursor) (beats : List Float) → each_asked (mark_of t offset global) t offset global c beats ≡ answers t offset global c (marked_run_of beats)
  unfolding each_asked answers
  marked-answers c [] = refl
  marked-answers c (b ∷ beats) = ap (λ (list : List Answer). own c b ∷ list) (marked-answers (own c b).cursor beats)

  pub marked-last : (c : Cursor) (beats : List Float) → last_asked (mark_of t offset global) t offset global c beats ≡ last_cursor t offset global c (marked_run_of beats)
  unfolding last_asked last_cursor
  marked-last c [] = refl
  marked-last c (b ∷ beats) = marked-last (own c b).cursor beats
