-- The falls and the acceptances that are read off the beats are those that the cursor meets. Assumes nothing.
use Prim.Native.Nat.{◌+◌}
use mathlib.Core.List.{List, [], ◌∷◌}
use mathlib.Core.Bool.{Bool, true, false, ◌&&◌}
use mathlib.Core.Path.{◌≡◌, refl, ◌∙◌}
use native.Mathlib.Omega.{arith}
use lib.Dec.{eqb}
use lib.IntN.{ℤ}
use lib.ListN.{length}
use lib.Signed.{lt_z}
use lib.Ieee.{Float, binary64}
use Rattle.picks.specs.Pick.{pick}
use Rattle.rows.specs.Rows.{row}
use Rattle.chart.specs.Timing.{Timing}
use Rattle.clock_walk.specs.Course.{one}
use Rattle.clock_tests.specs.TimingNumbers.{timing_number, beat_number}
use Rattle.clock.specs.Question.{fresh_cursor, refused_with, reply, asking}
use Rattle.clock.specs.History.{History, answers}
use Rattle.clock.specs.declared.Cursor.{Cursor}
use Rattle.clock_histories.specs.Costs.{beats_of, accepted_rows, falls}
use Rattle.clock_histories.specs.ByTheCursor.{accepted_answers, begun_anew}
use Rattle.clock_histories.proofs.WhereAFreshOneEnds.{new}
use Rattle.clock_histories.proofs.AnyQuestion.{Comes, no_dearer, number_is, asked-stays}
use Rattle.clock_histories.proofs.CostOfAll.{none_before}

module _ (t : Timing) (offset global : Float) (taken : timing_number t offset global ≡ 0) where
  -- ---- acceptances
  accepted_from : (c : Cursor) (history : History) → Comes t offset global taken c → accepted_answers (answers t offset global c history) ≡ length (accepted_rows (beats_of history))
  unfolding answers accepted_answers accepted_rows
  accepted_from c [] h = refl
  accepted_from c (q ∷ history) h =
      let b = q.1 in
      rw (number_is t offset global taken q.0 c b h, (no_dearer t offset global taken q.0 c b h).cursor, accepted_from (asking t c offset global b).cursor history (asked-stays t offset global taken c b h)) (go (eqb (beat_number b) 0))
    where
      go : (x : Bool) → one x + length (accepted_rows (beats_of history)) ≡ length (pick x (row binary64 q.1 ∷ accepted_rows (beats_of history)) (accepted_rows (beats_of history)))
      go true = omega arith
      go false = omega arith

  pub accepted_by_beats : (history : History) → accepted_answers (answers t offset global (fresh_cursor offset global) history) ≡ length (accepted_rows (beats_of history))
  accepted_by_beats history = accepted_from (fresh_cursor offset global) history (new refl)

  -- ---- falls
  one-fall : (x : Bool) (c : Cursor) (b : Float) (rows : List ℤ) →
      one (x && lt_z (row binary64 b) c.asked) + falls ((pick x (reply t c offset global b) (refused_with (beat_number b) c)).cursor.asked ∷ rows) ≡ falls (c.asked ∷ pick x (row binary64 b ∷ rows) rows)
  unfolding reply falls
  one-fall true c b rows = refl
  one-fall false c b rows = omega arith

  falls-from : (c : Cursor) (history : History) → Comes t offset global taken c → begun_anew t offset global c history ≡ falls (c.asked ∷ accepted_rows (beats_of history))
  unfolding begun_anew accepted_rows falls asking
  falls-from c [] h = refl
  falls-from c (q ∷ history) h =
      let b = q.1 in
      rw (number_is t offset global taken q.0 c b h, (no_dearer t offset global taken q.0 c b h).cursor, falls-from (asking t c offset global b).cursor history (asked-stays t offset global taken c b h))
      (one-fall (eqb (beat_number b) 0) c b (accepted_rows (beats_of history)))

  pub falls_by_beats : (history : History) → begun_anew t offset global (fresh_cursor offset global) history ≡ falls (accepted_rows (beats_of history))
  unfolding fresh_cursor
  falls_by_beats history = falls-from (fresh_cursor offset global) history (new refl) ∙ none_before (beats_of history)
