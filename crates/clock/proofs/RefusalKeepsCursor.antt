-- Whatever is refused, over any lists and offsets and by any cursor, leaves that cursor as it was, with a time and a count of 0. Assumes nothing.
use Prim.Native.Nat.{ℕ}
use mathlib.Core.Bool.{Bool, true, false}
use mathlib.Core.Path.{◌≡◌, refl}
use lib.Dec.{eqb}
use lib.Ieee.{Float}
use Rattle.ieee.specs.Constants.{plus_zero}
use Rattle.picks.specs.Pick.{pick}
use Rattle.chart.specs.Timing.{Timing}
use Rattle.clock_walk.specs.declared.Mark.{Mark}
use Rattle.clock_tests.specs.TimingNumbers.{beat_number}
use Rattle.clock.specs.Question.{refused_with, by_number_of, reply, asking, player_number, player_question, question_number, question}
use Rattle.clock.specs.Marked.{mark_of, marked_reply, marked_by_number, marked_asking, marked_player_question, marked_question_number, marked_question}
use Rattle.clock.specs.History.{Asking, of_beat, of_cursor, of_all, marked_of_beat, marked_of_cursor, marked_of_all, asks}
use Rattle.clock.specs.declared.Cursor.{Cursor}
use Rattle.clock.specs.declared.Answer.{Answer}

abbrev pub Untouched : Cursor → Answer → Type 0
Untouched c a = (a.cursor ≡ c) × (a.time ≡ plus_zero) × (a.count ≡ 0)

module _ (t : Timing) (c : Cursor) (offset global beat : Float) where
  by_number : (n : ℕ) → ((by_number_of n t c offset global beat).number ≡ 0 → ⊥) → Untouched c (by_number_of n t c offset global beat)
  unfolding reply
  by_number n h = go (eqb n 0) h
    where
      go : (x : Bool) → ((pick x (reply t c offset global beat) (refused_with n c)).number ≡ 0 → ⊥) → Untouched c (pick x (reply t c offset global beat) (refused_with n c))
      go true h = absurd (h refl)
      go false h = (refl, refl, refl)

  marked_by_number_lem : (m : Mark) (n : ℕ) → ((marked_by_number n m t c offset global beat).number ≡ 0 → ⊥) → Untouched c (marked_by_number n m t c offset global beat)
  unfolding marked_reply
  marked_by_number_lem m n h = go (eqb n 0) h
    where
      go : (x : Bool) → ((pick x (marked_reply m t c offset global beat) (refused_with n c)).number ≡ 0 → ⊥) → Untouched c (pick x (marked_reply m t c offset global beat) (refused_with n c))
      go true h = absurd (h refl)
      go false h = (refl, refl, refl)

  pub refusal_keeps_cursor : (way : Asking) → ((asks way t c offset global beat).number ≡ 0 → ⊥) → Untouched c (asks way t c offset global beat)
  unfolding asking player_question question marked_asking marked_player_question marked_question
  refusal_keeps_cursor of_beat h = by_number (beat_number beat) h
  refusal_keeps_cursor of_cursor h = by_number (player_number t c beat) h
  refusal_keeps_cursor of_all h = by_number (question_number t c offset global beat) h
  refusal_keeps_cursor marked_of_beat h = marked_by_number_lem (mark_of t offset global) (beat_number beat) h
  refusal_keeps_cursor marked_of_cursor h = marked_by_number_lem (mark_of t offset global) (player_number t c beat) h
  refusal_keeps_cursor marked_of_all h = marked_by_number_lem (mark_of t offset global) (marked_question_number (mark_of t offset global) t c offset global beat) h
