-- Where the entries at or before a row are counted: the search halves its bounds, a cursor goes on, and the last entry and the entry on the row are found. Assumes nothing.
use Rattle.std.proofs.Common.{◌≡◌, ℕ, zero, suc, ◌+◌, ◌-◌, ◌<◌, ◌≤◌, Bool, true, false, List, [], ◌∷◌, length, get_or, sym, refl, ◌∙◌, ⊎_elim, arith, eq-eqb, ne_eqb, le-leb}
use borrow.Author.Tests.{lt-leb}
use lib.Ieee.{Float, nan, lt}
use Rattle.ieee.specs.Constants.{plus_zero}
use Rattle.picks.specs.Pick.{pick}
use Rattle.order.proofs.Compare.{below?}
use Rattle.lookup.specs.Lookups.{key_of, last_passes, is_paused, of_last, pauses_on}
use Rattle.lookup.specs.inside.Finding.{key_at, Passed, Past, Split, Between}
use Rattle.lookup_tests.proofs.RowsRise.{Rising}

-- ---- the search, and the cursor
module _ (key : ℕ) (beats : List Float) where
  pub bounds_whole : Between key beats 0 (length beats)
  bounds_whole = record { order = omega arith; passed = (omega arith, λ place l. absurd (omega arith)); past = λ place l h. absurd (omega arith) }

  pub bounds_met : (low high : ℕ) → high ≤ low → Between key beats low high → Split key beats low
  bounds_met low high h b = record { passed = b.passed; past = λ place l k. b.past place (omega (arith, b.order)) k }

  module _ (rising : Rising beats) where
    -- a row from a place on is not below the one there
    not_below_lem : (at place : ℕ) → at ≤ place → place < length beats → key_at beats at ≤ key_at beats place
    not_below_lem at place h l = ⊎_elim (λ t. omega (arith, rising at place t l)) (λ t. let e : at ≡ place = omega arith in rw e (omega arith)) (below? at place)

    pub passed_to : (at : ℕ) → at < length beats → key_at beats at ≤ key → Passed key beats (at + 1)
    passed_to at h l = (omega arith, λ place k. omega (arith, not_below_lem place at (omega arith) h))

    pub past-from : (at : ℕ) → key < key_at beats at → Past key beats at
    past-from at l place h k = omega (arith, not_below_lem at place h k)

    pub go-up : (low high middle : ℕ) → middle < high → high ≤ length beats → key_at beats middle ≤ key → Between key beats low high → Between key beats (middle + 1) high
    go-up low high middle h l k b = record { order = omega arith; passed = passed_to middle (omega arith) k; past = b.past }

    pub go-down : (low high middle : ℕ) → low ≤ middle → key < key_at beats middle → Between key beats low high → Between key beats low middle
    go-down low high middle h k b = record { order = h; passed = b.passed; past = past-from middle k }

  pub ended : (n : ℕ) → Passed key beats n → length beats ≤ n → Split key beats n
  ended n p h = record { passed = p; past = λ place l k. absurd (omega arith) }

-- ---- the last entry
module _ (test : Float → Float → Bool) where
  pub of_next : (none : Bool) (beats values : List Float) (m : ℕ) → of_last test none beats values (suc m) ≡ test (get_or beats m nan) (get_or values m nan)
  of_next none beats values m = let e : suc m - 1 ≡ m = omega arith in rw (ne_eqb (suc m) 0 (λ e. omega arith), e)

  none_found : (key : ℕ) (none : Bool) (beats values : List Float) → Past key beats 0 → last_passes test key none beats values ≡ none
  unfolding last_passes
  none_found key none [] values p = refl
  none_found key none (beat ∷ beats) [] p = refl
  none_found key none (beat ∷ beats) (value ∷ values) p =
      rw (lt-leb (key_of beat) key (p 0 (omega arith) (omega arith))) (none_found key none beats values (λ place h l. p (suc place) (omega arith) (omega arith)))

  later : {key : ℕ} {beat : Float} {beats : List Float} {m : ℕ} → Split key (beat ∷ beats) (suc m) → Split key beats m
  later s = record { passed = (omega (arith, s.passed.0), λ place h. s.passed.1 (suc place) (omega arith)); past = λ place h l. s.past (suc place) (omega arith) (omega arith) }

  pub last_found : (key : ℕ) (none : Bool) (beats values : List Float) (n : ℕ) → length beats ≡ length values → Split key beats n → last_passes test key none beats values ≡ of_last test none beats values n
  unfolding last_passes
  last_found key none [] values n e s = rw (eq-eqb n 0 (omega (arith, s.passed.0)))
  last_found key none (beat ∷ beats) [] n e s = absurd (omega arith)
  last_found key none (beat ∷ beats) (value ∷ values) zero e s = none_found key none (beat ∷ beats) (value ∷ values) s.past
  last_found key none (beat ∷ beats) (value ∷ values) (suc m) e s =
      rw (le-leb (key_of beat) key (s.passed.1 0 (omega arith))) (last_found key (test beat value) beats values m (omega arith) (later s) ∙ go m)
    where
      go : (m : ℕ) → of_last test (test beat value) beats values m ≡ of_last test none (beat ∷ beats) (value ∷ values) (suc m)
      go zero = sym (of_next none (beat ∷ beats) (value ∷ values) 0)
      go (suc m) = of_next (test beat value) beats values m ∙ sym (of_next none (beat ∷ beats) (value ∷ values) (suc m))

-- ---- the entry on the row
none_paused : (key : ℕ) (beats values : List Float) → ((place : ℕ) → place < length beats → key_at beats place ≡ key → ⊥) → is_paused key beats values ≡ false
unfolding is_paused
none_paused key [] values p = refl
none_paused key (beat ∷ beats) [] p = refl
none_paused key (beat ∷ beats) (value ∷ values) p =
    rw (ne_eqb (key_of beat) key (p 0 (omega arith))) (none_paused key beats values (λ place l. p (suc place) (omega arith)))

alone : (t : Bool) → pick t true false ≡ t
alone true = refl
alone false = refl

pub pause_found_lem : (key : ℕ) (beats values : List Float) (n : ℕ) → length beats ≡ length values → Rising beats → Split key beats n → is_paused key beats values ≡ of_last (pauses_on key) false beats values n
unfolding is_paused
pause_found_lem key [] values n e r s = rw (eq-eqb n 0 (omega (arith, s.passed.0)))
pause_found_lem key (beat ∷ beats) [] n e r s = absurd (omega arith)
pause_found_lem key (beat ∷ beats) (value ∷ values) zero e r s = none_paused key (beat ∷ beats) (value ∷ values) (λ place l same. omega (arith, s.past place (omega arith) l))
pause_found_lem key (beat ∷ beats) (value ∷ values) (suc zero) e r s =
    let rest : is_paused key beats values ≡ false = none_paused key beats values (λ place l same. omega (arith, s.past (suc place) (omega arith) (omega arith))) in
    rw (rest, alone (lt plus_zero value)) (sym (of_next (pauses_on key) false (beat ∷ beats) (value ∷ values) 0))
pause_found_lem key (beat ∷ beats) (value ∷ values) (suc (suc m)) e r s =
    let here : key_of beat < key = omega (arith, r 0 (suc m) (omega arith) (omega (arith, s.passed.0)), s.passed.1 (suc m) (omega arith)) in
    rw (ne_eqb (key_of beat) key (λ same. omega arith))
    (pause_found_lem key beats values (suc m) (omega arith) (λ before place h l. r (suc before) (suc place) (omega arith) (omega arith)) (later (pauses_on key) s)
    ∙ of_next (pauses_on key) false beats values m ∙ sym (of_next (pauses_on key) false (beat ∷ beats) (value ∷ values) (suc m)))
