-- The place of a row holds the rows of the entries around it: every row from the one up to the other has the same place, and a pause is on the row of the last entry. Assumes nothing.
use Rattle.std.proofs.Common.{◌≡◌, ℕ, zero, suc, ◌+◌, ◌-◌, ◌<◌, ◌≤◌, Bool, true, false, eqb, List, length, get_or, sym, refl, ◌∙◌, ⊎_elim, add-one, arith, lt-ltb, ne_eqb}
use lib.Ieee.{Float, nan, lt}
use Rattle.ieee.specs.Constants.{plus_zero}
use Rattle.picks.specs.Pick.{pick}
use Rattle.order.proofs.Compare.{below?}
use Rattle.lookup.specs.Lookups.{is_paused, of_last, pauses_on}
use Rattle.lookup.specs.inside.Finding.{key_at, key_before, key_after, Passed, Past, Split, Stands, Usable}
use Rattle.lookup_tests.proofs.RowsRise.{Rising, rises}
use Rattle.lookup.proofs.FoundEntries.{passed_to, past-from, ended, of_next, pause_found_lem}

before-next : (beats : List Float) (m : ℕ) → key_before beats (suc m) ≡ key_at beats m
before-next beats m = let e : suc m - 1 ≡ m = omega arith in rw (ne_eqb (suc m) 0 (λ e. omega arith), e)

module _ (beats : List Float) (count from until : ℕ) (stands : Stands beats count from until) where
  -- the place after it, past one entry more
  pub stands-next : count < length beats → Stands beats (count + 1) until (key_after beats (count + 1))
  stands-next h =
      let here : until ≡ key_at beats count = rw (lt-ltb count (length beats) h) at stands.after in
      record { within = omega arith; before = rw (add-one count) (here ∙ sym (before-next beats count)); after = refl }

  module _ (rising : Rising beats) (key : ℕ) where
    passed-from : from ≤ key → Passed key beats count
    passed-from h = go count stands.within stands.before
      where
        go : (n : ℕ) → n ≤ length beats → from ≡ key_before beats n → Passed key beats n
        go zero l e = (l, λ at k. absurd (omega arith))
        go (suc m) l e = rw (← add-one m) (passed_to key beats rising m (omega arith) (omega (arith, e ∙ before-next beats m)))

    past-until : key < until → Past key beats count
    past-until h =
        ⊎_elim
        (λ t. past-from key beats rising count (omega (arith, rw (lt-ltb count (length beats) t) at stands.after)))
        (λ t. λ at l k. absurd (omega arith))
        (below? count (length beats))

    pub same_place : from ≤ key → key < until → Split key beats count
    same_place h k = record { passed = passed-from h; past = past-until k }

    pub last-place : from ≤ key → count ≡ length beats → Split key beats count
    last-place h e = ended key beats count (passed-from h) (omega arith)

-- ---- a pause on the row of a place
module _ (key : ℕ) (beats values : List Float) where
  neither_way : (t : Bool) → pick t false false ≡ false
  neither_way true = refl
  neither_way false = refl

  on-last : (n from : ℕ) → from ≡ key_before beats n → of_last (pauses_on key) false beats values n ≡ pick (eqb from key) (pick (eqb n 0) false (lt plus_zero (get_or values (n - 1) nan))) false
  on-last zero from e = sym (neither_way (eqb from key))
  on-last (suc m) from e =
      let here : suc m - 1 ≡ m = omega arith in
      of_next (pauses_on key) false beats values m ∙ rw (e ∙ before-next beats m, ne_eqb (suc m) 0 (λ e. omega arith), here)

  pub pause_on_row : (count from until : ℕ) → Usable beats values → Stands beats count from until → Split key beats count
      → is_paused key beats values ≡ pick (eqb from key) (pick (eqb count 0) false (lt plus_zero (get_or values (count - 1) nan))) false
  pause_on_row count from until usable stands split = pause_found_lem key beats values count usable.0 (rises beats usable.1) split ∙ on-last count from stands.before
