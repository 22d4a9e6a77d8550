-- The clock's walk is one whose test is that an event is due: that is what is ahead, and an event that is due by a row is due by every later one. Assumes nothing.
use Rattle.std.proofs.Common.{◌≡◌, ℕ, ◌+◌, Bool, true, false, ℤ, sym, refl, ap, ◌∙◌, Option, Some, None}
use lib.Signed.{lt_z}
use lib.Ieee.{Float}
use Rattle.picks.specs.Pick.{pick}
use Rattle.chart.specs.Timing.{Timing}
use Rattle.clock_walk.specs.Events.{row_ahead, ahead, goes_first, goes_before, due_of, due}
use Rattle.clock_walk.specs.Course.{is_found, onward, past_found}
use Rattle.clock_walk.specs.Passing.{passing}
use Rattle.clock_walk.specs.Walk.{is_passes, is_due, ended, walk_on}
use Rattle.chart.specs.declared.State.{State}
use Rattle.clock_walk.specs.declared.Next.{Next}
use Rattle.rows.proofs.RowOrder.{no, lt_le, le_trans, lt_not}
use Rattle.clock_walk.proofs.AllWalks.{SaysAhead, pass_on, pass-end}

-- ---- before an asked beat, by rows
module _ (r : ℤ) where
  pub before_le : (n : Next) → goes_before r n ≡ true → lt_z r n.row ≡ false
  unfolding goes_before
  before_le n h = go (lt_z n.row r) (lt_z r n.row) refl refl h
    where
      go : (a b : Bool) → lt_z n.row r ≡ a → lt_z r n.row ≡ b → pick a true (pick b false (goes_first n.kind)) ≡ true → b ≡ false
      go a false e f h = refl
      go true true e f h = no (sym (lt_not n.row r e) ∙ f)
      go false true e f h = no h

  pub not_before_le : (n : Next) → goes_before r n ≡ false → lt_z n.row r ≡ false
  unfolding goes_before
  not_before_le n h = go (lt_z n.row r) h
    where
      go : (a : Bool) → pick a true (pick (lt_z r n.row) false (goes_first n.kind)) ≡ false → a ≡ false
      go false h = refl
      go true h = no (sym h)

  pub behind : (n : Next) → lt_z r n.row ≡ true → goes_before r n ≡ false
  unfolding goes_before
  behind n h = rw (lt_not r n.row h, h)

  pub first_up_to : (n : Next) → goes_first n.kind ≡ true → lt_z r n.row ≡ false → goes_before r n ≡ true
  unfolding goes_before
  first_up_to n g e = rw (e, g) (either (lt_z n.row r))
    where
      either : (b : Bool) → pick b true true ≡ true
      either true = refl
      either false = refl

  -- ---- what is due is what is ahead
  abbrev passes_or : Next → Option Next → Next
  passes_or other (Some n) = n
  passes_or other None = other

  pub due-found : (a : Option Next) (n : Next) → due_of r a ≡ Some n → a ≡ Some n
  due-found (Some m) n e = go (goes_before r m) e
    where
      go : (b : Bool) → pick b (Some m) None ≡ Some n → Some m ≡ Some n
      go true e = ap (λ (d : Option Next). Some (passes_or m d)) e
      go false e = no (ap is_passes e)
  due-found None n e = no (ap is_passes e)

  found-due : (a : Option Next) → is_passes (due_of r a) ≡ true → is_found a ≡ true
  found-due (Some n) e = refl
  found-due None e = no e

  -- and on no later row
  up-to : (a : Option Next) → is_passes (due_of r a) ≡ true → lt_z r (row_ahead a) ≡ false
  up-to (Some n) e = go (goes_before r n) refl e
    where
      go : (b : Bool) → goes_before r n ≡ b → is_passes (pick b (Some n) None) ≡ true → lt_z r n.row ≡ false
      go true h e = before_le n h
      go false h e = no e
  up-to None e = no e

  not_due_lem : (a : Option Next) → lt_z r (row_ahead a) ≡ true → is_passes (due_of r a) ≡ false
  not_due_lem (Some n) h = rw (behind n h)
  not_due_lem None h = refl

  module _ (t : Timing) (s : State) where
    pub due_up_to : is_due t r s ≡ true → lt_z r (row_ahead (ahead t s)) ≡ false
    due_up_to e = up-to (ahead t s) e

    pub none-due : lt_z r (row_ahead (ahead t s)) ≡ true → is_due t r s ≡ false
    none-due h = not_due_lem (ahead t s) h

pub says_due : (t : Timing) (r : ℤ) → SaysAhead t (is_due t r)
says_due t r s e = found-due r (ahead t s) e

-- ---- an event that is due by r is due by every later q
later-before : (r q : ℤ) (n : Next) → lt_z q r ≡ false → goes_before r n ≡ true → goes_before q n ≡ true
unfolding goes_before
later-before r q n later h = go (lt_z n.row q) (lt_z q n.row) (lt_z n.row r) (lt_z r n.row) refl refl refl refl h
  where
    go : (a b c d : Bool) → lt_z n.row q ≡ a → lt_z q n.row ≡ b → lt_z n.row r ≡ c → lt_z r n.row ≡ d
        → pick c true (pick d false (goes_first n.kind)) ≡ true → pick a true (pick b false (goes_first n.kind)) ≡ true
    go true b c d e f g k h = refl
    go false b true d e f g k h = no (sym e ∙ lt_le n.row r q g later)
    go false b false true e f g k h = no h
    go false true false false e f g k h = no (sym (le_trans n.row r q k later) ∙ f)
    go false false false false e f g k h = h

later-due : (r q : ℤ) (a : Option Next) → lt_z q r ≡ false → is_passes (due_of r a) ≡ true → is_passes (due_of q a) ≡ true
later-due r q (Some n) later e = go (goes_before r n) refl e
  where
    go : (b : Bool) → goes_before r n ≡ b → is_passes (pick b (Some n) None) ≡ true → is_passes (pick (goes_before q n) (Some n) None) ≡ true
    go true h e = rw (later-before r q n later h)
    go false h e = no e
later-due r q None later e = no e

pub due-later : (t : Timing) (r q : ℤ) → lt_z q r ≡ false → (s : State) → is_due t r s ≡ true → is_due t q s ≡ true
due-later t r q later s e = later-due r q (ahead t s) later e

-- ---- event by event
module _ (early : Float) (t : Timing) (r : ℤ) where
  pub walk-on : (s : State) (n : ℕ) → is_due t r s ≡ true → walk_on early t r s n ≡ walk_on early t r (onward early t s) (n + 1)
  unfolding walk_on
  walk-on s n e = ap (ended early t r) (pass_on early t (is_due t r) (says_due t r) s n e)

  pub walk_end : (s : State) (n : ℕ) → is_due t r s ≡ false → walk_on early t r s n ≡ ended early t r (record { state = s; passed = n })
  unfolding walk_on
  walk_end s n e = ap (ended early t r) (pass-end early t (is_due t r) (says_due t r) s n e)

  -- the event that is due is passed
  pub due-passed : (s : State) (n : Next) → due t r s ≡ Some n → onward early t s ≡ passing early t s n
  due-passed s n e = ap (past_found early t s) (due-found r (ahead t s) n e)
