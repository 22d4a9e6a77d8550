-- What the answers say, as propositions: which entry is tested, when a row is paused, warped and judgable. Assumes nothing.
use Rattle.std.proofs.Common.{◌≡◌, ℕ, zero, suc, ◌<◌, Bool, true, false, not, eqb, List, [], ◌∷◌, length, get_or, ℤ, refl, ◌∙◌, arith, eq-eqb, eqb-true}
use lib.Ieee.{Float, nan, lt}
use Rattle.ieee.specs.Constants.{plus_zero}
use Rattle.picks.specs.Pick.{pick}
use Rattle.rows.specs.RowKey.{row_key}
use Rattle.lookup.specs.Lookups.{WarpLists, LookupLists, but_fakes, key_of, last_passes, is_paused, in_warp, is_warped, is_fake, is_judgable}
use Rattle.lookup.specs.inside.Finding.{key_at, Split}
use Rattle.lookup_tests.proofs.RowsRise.{never}
use Rattle.lookup.proofs.FoundEntries.{of_next, last_found}

-- the entry at a place is tested where it is at or before the row, and so are those before it, and none of the later ones is
pub last-tested : (test : Float → Float → Bool) (key : ℕ) (beats values : List Float) (place : ℕ) → length beats ≡ length values → Split key beats (suc place)
    → last_passes test key false beats values ≡ test (get_or beats place nan) (get_or values place nan)
last-tested test key beats values place e s = last_found test key false beats values (suc place) e s ∙ of_next test false beats values place

-- and the answer is no where none is
pub none-tested : (test : Float → Float → Bool) (key : ℕ) (beats values : List Float) → length beats ≡ length values → Split key beats 0 → last_passes test key false beats values ≡ false
none-tested test key beats values e s = last_found test key false beats values 0 e s

-- ---- paused: an entry above 0 on the row
pub record Pause (key : ℕ) (beats values : List Float) : Type 0 where
  pub place : ℕ
  pub within : place < length beats
  pub also_within : place < length values
  pub beat_on_row : key_at beats place ≡ key
  pub above : lt plus_zero (get_or values place nan) ≡ true

pub paused_some : (key : ℕ) (beats values : List Float) → is_paused key beats values ≡ true → Pause key beats values
unfolding is_paused
paused_some key [] values h = never h
paused_some key (beat ∷ beats) [] h = never h
paused_some key (beat ∷ beats) (value ∷ values) h = go (λ k. paused_some key beats values k) (eqb (key_of beat) key) (lt plus_zero value) refl refl h
  where
    later : Pause key beats values → Pause key (beat ∷ beats) (value ∷ values)
    later p = record { place = suc p.place; within = omega (arith, p.within); also_within = omega (arith, p.also_within); beat_on_row = p.beat_on_row; above = p.above }

    go : (is_paused key beats values ≡ true → Pause key beats values) → (t s : Bool) → eqb (key_of beat) key ≡ t → lt plus_zero value ≡ s → pick t (pick s true (is_paused key beats values)) (is_paused key beats values) ≡ true → Pause key (beat ∷ beats) (value ∷ values)
    go rest true true e l k = record { place = 0; within = omega arith; also_within = omega arith; beat_on_row = eqb-true (key_of beat) key e; above = l }
    go rest true false e l k = later (rest k)
    go rest false s e l k = later (rest k)

pub some_paused : (key : ℕ) (beats values : List Float) → (place : ℕ) → place < length beats → place < length values → key_at beats place ≡ key → lt plus_zero (get_or values place nan) ≡ true → is_paused key beats values ≡ true
unfolding is_paused
some_paused key [] values place h k e l = absurd (omega arith)
some_paused key (beat ∷ beats) [] place h k e l = absurd (omega arith)
some_paused key (beat ∷ beats) (value ∷ values) zero h k e l = rw (eq-eqb (key_of beat) key e, l)
some_paused key (beat ∷ beats) (value ∷ values) (suc place) h k e l = go (eqb (key_of beat) key) (lt plus_zero value) (some_paused key beats values place (omega arith) (omega arith) e l)
  where
    go : (t s : Bool) → is_paused key beats values ≡ true → pick t (pick s true (is_paused key beats values)) (is_paused key beats values) ≡ true
    go true true r = refl
    go true false r = r
    go false s r = r

-- ---- warped: the last warp covers the row, and it is not paused
module _ (lists : WarpLists) (asked : ℤ) where
  pub record Warped : Type 0 where
    pub covered : in_warp lists asked ≡ true
    pub no_stop : is_paused (row_key asked) lists.stops.beats lists.stops.values ≡ false
    pub no_delay : is_paused (row_key asked) lists.delays.beats lists.delays.values ≡ false

  pub warped_means : is_warped lists asked ≡ true → Warped
  unfolding is_warped
  warped_means h = go (in_warp lists asked) (is_paused (row_key asked) lists.stops.beats lists.stops.values) (is_paused (row_key asked) lists.delays.beats lists.delays.values) refl refl refl h
    where
      go : (w s d : Bool) → in_warp lists asked ≡ w → is_paused (row_key asked) lists.stops.beats lists.stops.values ≡ s → is_paused (row_key asked) lists.delays.beats lists.delays.values ≡ d
          → pick w (pick s false (not d)) false ≡ true → Warped
      go true false false a b c k = record { covered = a; no_stop = b; no_delay = c }
      go true false true a b c k = never k
      go true true d a b c k = never k
      go false s d a b c k = never k

  pub warped_so : Warped → is_warped lists asked ≡ true
  unfolding is_warped
  warped_so p = rw (p.covered, p.no_stop, p.no_delay)

-- ---- judgable: neither
module _ (lists : LookupLists) (asked : ℤ) where
  pub judgable_means : is_judgable lists asked ≡ true
      → (is_warped (but_fakes lists) asked ≡ false) × (is_fake lists.fakes asked ≡ false)
  unfolding is_judgable
  judgable_means h = go (is_warped (but_fakes lists) asked) (is_fake lists.fakes asked) refl refl h
    where
      go : (w f : Bool) → is_warped (but_fakes lists) asked ≡ w → is_fake lists.fakes asked ≡ f → pick w false (not f) ≡ true
          → (is_warped (but_fakes lists) asked ≡ false) × (is_fake lists.fakes asked ≡ false)
      go false false a b k = (a, b)
      go false true a b k = never k
      go true f a b k = never k
