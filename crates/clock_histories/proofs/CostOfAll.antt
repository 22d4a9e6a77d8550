-- What a history costs is bounded by its beats: each question spends what the cursor has left, and a row that fell brings one round of events back. Assumes nothing.
use Prim.Native.Nat.{ℕ, suc, ◌+◌, ◌*◌, ◌≤◌}
use mathlib.Core.List.{List, [], ◌∷◌, map}
use mathlib.Core.Bool.{Bool, true, false}
use mathlib.Core.Path.{◌≡◌, refl}
use native.Mathlib.Omega.{arith}
use native.Mathlib.Nat.{zero-add, add-mul, one-mul}
use borrow.Author.Tests.{le-ltb}
use lib.Dec.{eqb}
use lib.IntN.{ℤ, pos, negsuc, nat_abs}
use lib.ListN.{length}
use lib.Signed.{lt_z}
use lib.Ieee.{Float, binary64}
use Rattle.picks.specs.Pick.{pick}
use Rattle.limits.specs.Numbers.{most_row}
use Rattle.rows.specs.Rows.{row}
use Rattle.chart.specs.Timing.{Timing}
use Rattle.clock_walk.specs.Course.{one, events_left}
use Rattle.clock_walk.proofs.EventsSpent.{spent}
use Rattle.clock_tests.specs.TimingNumbers.{timing_number, beat_number}
use Rattle.clock_tests.specs.CursorNumbers.{fresh_mark}
use Rattle.clock.specs.Question.{filled, fresh_state, fresh_cursor, beginning, refused_with, reply, asking}
use Rattle.clock.specs.History.{History, answers, last_cursor, count_of}
use Rattle.clock.specs.declared.Cursor.{Cursor}
use Rattle.clock.specs.declared.Answer.{Answer}
use Rattle.clock_histories.specs.Costs.{beats_of, accepted_rows, falls, events, most_of}
use Rattle.clock_histories.specs.NoDearer.{NoDearer}
use Rattle.order.specs.Entries.{total}
use Rattle.clock_histories.proofs.WithATempo.{all_left}
use Rattle.clock_histories.proofs.WhereAFreshOneEnds.{new}
use Rattle.clock_histories.proofs.AnyQuestion.{row_near, Comes, no_dearer, asked-stays}

-- ---- no row is below the fresh mark
above-mark : (r : ℤ) → nat_abs r ≤ most_row → lt_z r fresh_mark ≡ false
above-mark (pos n) h = refl
above-mark (negsuc n) h = le-ltb 2147483647 n (omega (arith, h))

pub none_before : (beats : List Float) → falls (fresh_mark ∷ accepted_rows beats) ≡ falls (accepted_rows beats)
unfolding falls accepted_rows
none_before [] = refl
none_before (b ∷ beats) = go (eqb (beat_number b) 0) refl (none_before beats)
  where
    go : (x : Bool) → eqb (beat_number b) 0 ≡ x → falls (fresh_mark ∷ accepted_rows beats) ≡ falls (accepted_rows beats)
        → falls (fresh_mark ∷ pick x (row binary64 b ∷ accepted_rows beats) (accepted_rows beats)) ≡ falls (pick x (row binary64 b ∷ accepted_rows beats) (accepted_rows beats))
    go true e rest = rw (above-mark (row binary64 b) (row_near b e)) (zero-add (falls (row binary64 b ∷ accepted_rows beats)))
    go false e rest = rest

-- ---- sums
none-spent : (x y : ℕ) → 0 + x ≤ x + 0 * y + 0
none-spent x y = omega arith

joined : (p l m x z f g q all : ℕ) → p + l ≤ x + f * all → m + z ≤ l + g * all + q → p + 1 + m + z ≤ x + (f + g) * all + suc q
joined p l m x z f g q all h k = rw (add-mul f g all) (omega arith)

bounded : (n l f q all : ℕ) → n + l ≤ all + f * all + q → n ≤ (f + 1) * all + q
bounded n l f q all h = rw (add-mul f 1 all, one-mul all) (omega arith)

within_all : (x y : ℕ) → y ≤ x + 1 * y
within_all x y = omega arith

within-rest : (x y : ℕ) → x ≤ x + 0 * y
within-rest x y = omega arith

le_through : (a b c : ℕ) → a ≤ b → b ≤ c → a ≤ c
le_through a b c h k = omega arith

module _ (t : Timing) (offset global : Float) (taken : timing_number t offset global ≡ 0) where
  abbrev rest : Cursor → ℕ
  rest c = events_left (filled t) c.state

  -- a walk begins with what the cursor has left, or where the row fell with all
  begins_with : (c : Cursor) (r : ℤ) → events_left (filled t) (beginning c r offset global) ≤ rest c + one (lt_z r c.asked) * events t
  unfolding beginning
  begins_with c r = go (lt_z r c.asked)
    where
      go : (x : Bool) → events_left (filled t) (pick x (fresh_state offset global) c.state) ≤ rest c + one x * events t
      go true = rw (all_left t offset global) (within_all (rest c) (events t))
      go false = within-rest (rest c) (events t)

  abbrev counted : Cursor → History → ℕ
  counted c history = total (map count_of (answers t offset global c history))

  -- what a history costs and what its last cursor has left
  abbrev Bounded : Cursor → History → List ℤ → Type 0
  Bounded c history rows = counted c history + rest (last_cursor t offset global c history) ≤ rest c + falls (c.asked ∷ rows) * events t + length rows

  -- the same where one question has been answered
  abbrev Answered : Cursor → Answer → History → List ℤ → Type 0
  Answered c a history rows = a.count + counted a.cursor history + rest (last_cursor t offset global a.cursor history) ≤ rest c + falls (c.asked ∷ rows) * events t + length rows

  one_more : (x : Bool) (c : Cursor) (b : Float) (history : History) (rows : List ℤ) →
      let a = pick x (reply t c offset global b) (refused_with (beat_number b) c) in
      Bounded a.cursor history rows → Answered c a history (pick x (row binary64 b ∷ rows) rows)
  unfolding reply falls
  one_more true c b history rows h =
      let r = row binary64 b in
      joined _ _ _ _ _ (one (lt_z r c.asked)) (falls (r ∷ rows)) _ (events t)
      (le_through _ _ _ (spent (filled t) r (beginning c r offset global)) (begins_with c r)) h
  one_more false c b history rows h = rw (zero-add (counted c history)) h

  -- with an answer that is no dearer it holds too
  cheaper : (c : Cursor) (a dear : Answer) (history : History) (rows : List ℤ) → NoDearer a dear → Answered c dear history rows → Answered c a history rows
  cheaper c a dear history rows same h = rw same.cursor (less a.count dear.count _ _ _ same.count h)
    where
      less : (x y m z most : ℕ) → x ≤ y → y + m + z ≤ most → x + m + z ≤ most
      less x y m z most p q = omega arith

  cost_from : (c : Cursor) (history : History) → Comes t offset global taken c → Bounded c history (accepted_rows (beats_of history))
  unfolding answers last_cursor total accepted_rows falls asking
  cost_from c [] h = none-spent (rest c) (events t)
  cost_from c (q ∷ history) h =
      let b = q.1 in
      cheaper c _ _ history (accepted_rows (b ∷ beats_of history)) (no_dearer t offset global taken q.0 c b h)
      (one_more (eqb (beat_number b) 0) c b history (accepted_rows (beats_of history)) (cost_from (asking t c offset global b).cursor history (asked-stays t offset global taken c b h)))

  pub cost_of_all : (history : History) → counted (fresh_cursor offset global) history ≤ most_of t (accepted_rows (beats_of history))
  unfolding fresh_cursor
  cost_of_all history =
      let c = fresh_cursor offset global in
      let rows = accepted_rows (beats_of history) in
      bounded (counted c history) (rest (last_cursor t offset global c history)) (falls rows) (length rows) (events t)
      (rw (all_left t offset global, none_before (beats_of history)) at (cost_from c history (new refl)))
