-- Any question to a cursor that questions left, over a timing that is taken: its number is the beat's, its time a fresh cursor's, and the cursor after it is such a one again. Assumes nothing.
use Prim.Native.Nat.{ℕ, ◌+◌, ◌≤◌}
use mathlib.Core.List.{[], ◌∷◌}
use mathlib.Core.Bool.{Bool, true, false}
use mathlib.Core.Path.{◌≡◌, refl, sym, ap, ◌∙◌}
use borrow.Author.Tests.{eqb-true, eq-eqb}
use lib.Dec.{eqb}
use lib.ListN.{length}
use lib.IntN.{nat_abs}
use lib.Ieee.{Float, binary64, sub}
use Rattle.picks.specs.Pick.{pick}
use Rattle.limits.specs.Numbers.{most_row}
use Rattle.rows.specs.Rows.{row}
use Rattle.rows.proofs.RowWithin.{row_within}
use Rattle.limits.proofs.NoRefusal.{none-lower, lower_than_none}
use Rattle.chart.specs.Timing.{Timing}
use Rattle.clock_walk.specs.Walk.{walk}
use Rattle.chart.specs.declared.State.{State}
use Rattle.clock_tests.specs.TimingNumbers.{timing_number, beat_number}
use Rattle.clock_tests.specs.CursorNumbers.{cursor_number}
use Rattle.clock_tests.proofs.TimingTaken.{beat-taken}
use Rattle.clock.specs.Question.{filled, tempos_of, fresh_cursor, beginning, refused_with, by_number_of, reply, asking, cursor_refusal, player_number, player_question, question_number, question}
use Rattle.clock.specs.Marked.{mark_of, marked_walk, marked_reply, marked_by_number, marked_asking, marked_player_question, marked_question_number, marked_question}
use Rattle.clock.specs.History.{Asking, of_beat, of_cursor, of_all, marked_of_beat, marked_of_cursor, marked_of_all, asks, walk_of, History, last_cursor}
use Rattle.clock.specs.declared.Cursor.{Cursor}
use Rattle.clock.specs.declared.Answer.{Answer}
use Rattle.clock.proofs.OwnMark.{own-mark}
use Rattle.rows.proofs.Allowed.{taken-allowed}
use Rattle.rows.proofs.RowOrder.{no}
use Rattle.clock_histories.specs.Demand.{used, alone}
use Rattle.clock_histories.specs.NoDearer.{NoDearer}
use Rattle.clock_histories.specs.Runs.{is_marked}
use Rattle.clock_histories.proofs.WhereAFreshOneEnds.{Reached, new, walked, ends_there, ends-then}
use Rattle.clock_histories.proofs.WalksAreSound.{sound}
use Rattle.clock_histories.proofs.FromTheMark.{same_answer, from_the_mark}

-- an accepted beat has a row within the limit
pub row_near : (b : Float) → eqb (beat_number b) 0 ≡ true → nat_abs (row binary64 b) ≤ most_row
row_near b e = row_within binary64 b (taken-allowed b (beat-taken b (eqb-true (beat_number b) 0 e)))

module _ (t : Timing) (offset global : Float) (taken : timing_number t offset global ≡ 0) where
  abbrev fresh : Cursor
  fresh = fresh_cursor offset global

  -- the cursors that questions leave
  abbrev pub Comes : Cursor → Type 0
  Comes c = Reached (filled t) offset global (sound taken).usable c

  -- ---- its number is the beat's
  pub fine : (c : Cursor) → Comes c → cursor_refusal t c ≡ 0
  unfolding cursor_refusal
  fine c (new e) = ap (cursor_refusal t) e ∙ (sound taken).fresh_fine
  fine c (walked near e) =
      ap (λ (s : State). cursor_number (tempos_of t) (length t.stop_beats) (length t.delay_beats) (length t.warp_beats) s c.asked) e ∙ (sound taken).walked_fine c.asked near

  player_number_lem : (c : Cursor) (b : Float) → Comes c → player_number t c b ≡ beat_number b
  unfolding player_number
  player_number_lem c b h = rw (fine c h) (lower_than_none (beat_number b))

  question-number : (c : Cursor) (b : Float) → Comes c → question_number t c offset global b ≡ beat_number b
  unfolding question_number
  question-number c b h = rw taken (none-lower (player_number t c b) ∙ player_number_lem c b h)

  marked-number : (c : Cursor) (b : Float) → Comes c → marked_question_number (mark_of t offset global) t c offset global b ≡ beat_number b
  unfolding marked_question_number
  marked-number c b h = rw (own-mark t offset global, taken) (none-lower (player_number t c b) ∙ player_number_lem c b h)

  -- so each question is the one that tests the beat alone, without the mark or with it
  pub as_asked : (way : Asking) (c : Cursor) (b : Float) → is_marked way ≡ false → Comes c → asks way t c offset global b ≡ asking t c offset global b
  unfolding asking player_question question
  as_asked of_beat c b e h = refl
  as_asked of_cursor c b e h = ap (λ (n : ℕ). by_number_of n t c offset global b) (player_number_lem c b h)
  as_asked of_all c b e h = ap (λ (n : ℕ). by_number_of n t c offset global b) (question-number c b h)
  as_asked marked_of_beat c b e h = no (sym e)
  as_asked marked_of_cursor c b e h = no (sym e)
  as_asked marked_of_all c b e h = no (sym e)

  pub as_marked : (way : Asking) (c : Cursor) (b : Float) → is_marked way ≡ true → Comes c → asks way t c offset global b ≡ marked_asking (mark_of t offset global) t c offset global b
  unfolding marked_asking marked_player_question marked_question
  as_marked of_beat c b e h = no e
  as_marked of_cursor c b e h = no e
  as_marked of_all c b e h = no e
  as_marked marked_of_beat c b e h = refl
  as_marked marked_of_cursor c b e h = ap (λ (n : ℕ). marked_by_number n (mark_of t offset global) t c offset global b) (player_number_lem c b h)
  as_marked marked_of_all c b e h = ap (λ (n : ℕ). marked_by_number n (mark_of t offset global) t c offset global b) (marked-number c b h)

  -- and the mark changes nothing but the count, which is no higher
  pub no_dearer : (way : Asking) (c : Cursor) (b : Float) → Comes c → NoDearer (asks way t c offset global b) (asking t c offset global b)
  no_dearer way c b h = go (is_marked way) refl
    where
      go : (x : Bool) → is_marked way ≡ x → NoDearer (asks way t c offset global b) (asking t c offset global b)
      go true e = rw (as_marked way c b e h) (from_the_mark t offset global (sound taken).usable c b h)
      go false e = same_answer _ _ (as_asked way c b e h)

  asked-number : (c : Cursor) (b : Float) → (asking t c offset global b).number ≡ beat_number b
  unfolding asking reply
  asked-number c b = go (eqb (beat_number b) 0) refl
    where
      go : (x : Bool) → eqb (beat_number b) 0 ≡ x → (pick x (reply t c offset global b) (refused_with (beat_number b) c)).number ≡ beat_number b
      go true e = sym (eqb-true (beat_number b) 0 e)
      go false e = refl

  pub number_is : (way : Asking) (c : Cursor) (b : Float) → Comes c → (asks way t c offset global b).number ≡ beat_number b
  number_is way c b h = (no_dearer way c b h).number ∙ asked-number c b

  pub accepted_is : (way : Asking) (c : Cursor) (b : Float) → Comes c → (asks way t c offset global b).number ≡ 0 → eqb (beat_number b) 0 ≡ true
  accepted_is way c b h n = eq-eqb (beat_number b) 0 (sym (number_is way c b h) ∙ n)

  -- ---- the cursor after it
  pub asked-stays : (c : Cursor) (b : Float) → Comes c → Comes (asking t c offset global b).cursor
  unfolding asking reply
  asked-stays c b h = go (eqb (beat_number b) 0) refl
    where
      go : (x : Bool) → eqb (beat_number b) 0 ≡ x → Comes (pick x (reply t c offset global b) (refused_with (beat_number b) c)).cursor
      go true e = walked (row_near b e) (ends_there (filled t) offset global (sound taken).usable c (row binary64 b) h)
      go false e = h

  pub comes : (c : Cursor) (history : History) → Comes c → Comes (last_cursor t offset global c history)
  unfolding last_cursor
  comes c [] h = h
  comes c (q ∷ history) h = rw (no_dearer q.0 c q.1 h).cursor (comes (asking t c offset global q.1).cursor history (asked-stays c q.1 h))

  pub used-comes : (history : History) → Comes (used t offset global history)
  used-comes history = comes fresh history (new refl)

  -- ---- what it answers
  replied_then : (c : Cursor) (b : Float) → Comes c → (reply t c offset global b).time ≡ (reply t fresh offset global b).time
  unfolding reply
  replied_then c b h =
      let f = filled t in
      let u = (sound taken).usable in
      ap (λ (x : Float). sub binary64 x global)
      (ends-then f offset global u c (row binary64 b) h ∙ sym (ends-then f offset global u fresh (row binary64 b) (new refl)))

  asked-time : (c : Cursor) (b : Float) → Comes c → (asking t c offset global b).time ≡ (asking t fresh offset global b).time
  unfolding asking
  asked-time c b h = go (eqb (beat_number b) 0)
    where
      go : (x : Bool) → (pick x (reply t c offset global b) (refused_with (beat_number b) c)).time ≡ (pick x (reply t fresh offset global b) (refused_with (beat_number b) fresh)).time
      go true = replied_then c b h
      go false = refl

  pub time-alone : (way : Asking) (c : Cursor) (b : Float) → Comes c → (asks way t c offset global b).time ≡ (alone t offset global b).time
  time-alone way c b h =
      (no_dearer way c b h).time ∙ asked-time c b h ∙ sym (no_dearer of_all fresh b (new refl)).time

  pub number-alone : (way : Asking) (c : Cursor) (b : Float) → Comes c → (asks way t c offset global b).number ≡ (alone t offset global b).number
  number-alone way c b h = number_is way c b h ∙ sym (number_is of_all fresh b (new refl))

  took : (c : Cursor) (b : Float) → eqb (beat_number b) 0 ≡ true → asking t c offset global b ≡ reply t c offset global b
  unfolding asking
  took c b e = rw e

  -- the time of one that is not refused
  pub replies_then : (way : Asking) (c : Cursor) (b : Float) → Comes c → (asks way t c offset global b).number ≡ 0 → (asks way t c offset global b).time ≡ (reply t c offset global b).time
  replies_then way c b h n = (no_dearer way c b h).time ∙ ap (λ (a : Answer). a.time) (took c b (accepted_is way c b h n))

  marked-took : (c : Cursor) (b : Float) → eqb (beat_number b) 0 ≡ true → marked_asking (mark_of t offset global) t c offset global b ≡ marked_reply (mark_of t offset global) t c offset global b
  unfolding marked_asking
  marked-took c b e = rw e

  -- its count is the events that its walk passes, and one
  unmarked-steps : (way : Asking) (c : Cursor) (b : Float) → is_marked way ≡ false → Comes c → (asks way t c offset global b).number ≡ 0
      → (asks way t c offset global b).count ≡ (walk (filled t) (row binary64 b) (beginning c (row binary64 b) offset global)).passed + 1
  unfolding reply
  unmarked-steps way c b e h n = ap (λ (a : Answer). a.count) (as_asked way c b e h ∙ took c b (accepted_is way c b h n))

  marked-steps : (way : Asking) (c : Cursor) (b : Float) → is_marked way ≡ true → Comes c → (asks way t c offset global b).number ≡ 0
      → (asks way t c offset global b).count ≡ (marked_walk (mark_of t offset global) t c (row binary64 b) offset global).passed + 1
  unfolding marked_reply
  marked-steps way c b e h n = ap (λ (a : Answer). a.count) (as_marked way c b e h ∙ marked-took c b (accepted_is way c b h n))

  pub steps-passed : (way : Asking) (c : Cursor) (b : Float) → Comes c → (asks way t c offset global b).number ≡ 0
      → (asks way t c offset global b).count ≡ (walk_of way t c (row binary64 b) offset global).passed + 1
  steps-passed of_beat c b h n = unmarked-steps of_beat c b refl h n
  steps-passed of_cursor c b h n = unmarked-steps of_cursor c b refl h n
  steps-passed of_all c b h n = unmarked-steps of_all c b refl h n
  steps-passed marked_of_beat c b h n = marked-steps marked_of_beat c b refl h n
  steps-passed marked_of_cursor c b h n = marked-steps marked_of_cursor c b refl h n
  steps-passed marked_of_all c b h n = marked-steps marked_of_all c b refl h n
