-- A raw list mended, over entries that have a row and can be near each other. Nothing is assumed of `near`: it need not go both ways, and nothing follows from
-- chains. Definitions only.
--
-- Each raw entry has one fate:
--
--   Replaced   a later raw entry is on its row, whatever becomes of that one. It is compared with nothing
--   Merged     it is the last of its row, and near the last one kept on the rows before
--   Kept       it is the last of its row, and not near that one, or there is none
--
-- The last of a row is the one that comes last in the raw list. A fate belongs to a place of the raw list: of two equal entries the first is replaced.
-- A row whose last entry is merged has no entry left.
use Rattle.std.specs.Prelude.{ℕ, Bool, true, false, List, [], ◌∷◌, ltb, eqb}
use Rattle.picks.specs.Pick.{pick}
use Rattle.order.specs.Order.{ordered, lasts}

pub data EntryFate : Type 0 where
  Kept : EntryFate
  Replaced : EntryFate
  Merged : EntryFate

-- ---- by what is near
module _ {A : Type 0} (near : A → A → Bool) where
  -- behind one that is kept: an entry near it is dropped; any other is kept, and the next is compared with that
  unfoldable pub thinned_after : A → List A → List A
  thinned_after last [] = []
  thinned_after last (x ∷ list) = pick (near x last) (thinned_after last list) (x ∷ thinned_after x list)

  unfoldable pub thinned : List A → List A
  thinned [] = []
  thinned (x ∷ list) = x ∷ thinned_after x list

  -- near the entry of a list of one or none
  unfoldable pub near_one : A → List A → Bool
  near_one x [] = false
  near_one x (y ∷ list) = near x y

-- ---- by rows
module _ {A : Type 0} (key : A → ℕ) where
  -- whether some entry is on a row
  unfoldable pub some_on : ℕ → List A → Bool
  some_on k [] = false
  some_on k (x ∷ list) = pick (eqb (key x) k) true (some_on k list)

  -- the last entry on a row below, as a list of one; where there is none, `other`
  unfoldable pub last_below : ℕ → List A → List A → List A
  last_below k other [] = other
  last_below k other (x ∷ list) = last_below k (pick (ltb (key x) k) (x ∷ []) other) list

module _ {A : Type 0} (key : A → ℕ) (near : A → A → Bool) where
  -- THE LIST: in the stable order of rows, of each row the last, without those near the one kept before
  unfoldable pub mended : List A → List A
  mended raw = thinned near (lasts key (ordered key raw))

  -- the fate of an entry that has `later` behind it, where `written` are written
  unfoldable pub fate_in : List A → A → List A → EntryFate
  fate_in written x later = pick (some_on key (key x) later) Replaced (pick (near_one near x (last_below key (key x) [] written)) Merged Kept)

  unfoldable pub fates_in : List A → List A → List EntryFate
  fates_in written [] = []
  fates_in written (x ∷ later) = fate_in written x later ∷ fates_in written later

  -- THE FATES, in raw order
  unfoldable pub fates : List A → List EntryFate
  fates raw = fates_in (mended raw) raw

-- ---- what is made of fates

-- a fate as a byte
abbrev pub fate_byte : EntryFate → ℕ
fate_byte Kept = 0
fate_byte Replaced = 1
fate_byte Merged = 2

abbrev pub is_kept : EntryFate → Bool
is_kept Kept = true
is_kept Replaced = false
is_kept Merged = false

-- the entries that are kept, in raw order
unfoldable pub kept_among : {A : Type 0} → List A → List EntryFate → List A
kept_among [] fates = []
kept_among (x ∷ list) [] = []
kept_among (x ∷ list) (fate ∷ fates) = pick (is_kept fate) (x ∷ kept_among list fates) (kept_among list fates)
