-- One walk over the raw list in the stable order of rows, with those that are kept so far. Definitions only.
use Rattle.std.specs.Prelude.{ℕ, ◌+◌, ◌-◌, ◌≤◌, ◌≡◌, Bool, false, List, [], ◌∷◌, map, eqb, length, get_or, take, drop, Float}
use Rattle.std.specs.Float.{nan}
use Rattle.picks.specs.Pick.{pick}
use Rattle.order.specs.Order.{ordered, is_last, lasts}
use Rattle.order.specs.Entries.{entries, places}
use Rattle.order.specs.Packed.{upper_half, lower_half}
use Rattle.rows.specs.RowKey.{row_key_at}
use Rattle.tidy_kept.specs.Keeping.{row_of, nearby}
use Rattle.mend_fates.specs.Mending.{EntryFate, Kept, Replaced, Merged, thinned_after, thinned, near_one, mended, fates, fate_byte}

-- the fate of an entry, by whether it is the last of its row and whether it is near the last one kept
abbrev pub fate_by : (last near : Bool) → EntryFate
fate_by last near = pick last (pick near Merged Kept) Replaced

module _ {A : Type 0} (key : A → ℕ) (near : A → A → Bool) where
  -- that of an entry with `rest` behind it in the order of rows, where `before` has the last one kept, or nothing: the next one on its row replaces it
  unfoldable pub walk_fate : List A → A → List A → EntryFate
  walk_fate before x rest = fate_by (is_last key x rest) (near_one near x before)

  -- what is still to be kept
  unfoldable pub kept_behind : List A → List A → List A
  kept_behind [] rest = thinned near (lasts key rest)
  kept_behind (last ∷ before) rest = thinned_after near last (lasts key rest)

-- ---- by places, packed below their rows. `none` stands for what is past the end

-- the places of a raw list in the stable order of their rows, each with its row
pub record InRowOrder {A : Type 0} (none : A) (key : A → ℕ) (raw : List A) (numbers : List ℕ) : Type 0 where
  pub places_are : map lower_half numbers ≡ ordered (λ (p : ℕ). key (get_or raw p none)) (places (length raw))
  pub keys_are : map upper_half numbers ≡ map (λ (p : ℕ). key (get_or raw p none)) (map lower_half numbers)

-- whether the entry at a place is near the one that was kept last, where the places of the first `count` of `kept` are kept
abbrev pub near_last_of : {A : Type 0} → A → (A → A → Bool) → List A → (kept : List ℕ) (count place : ℕ) → Bool
near_last_of none near raw kept count place = pick (eqb count 0) false (near (get_or raw place none) (get_or raw (get_or kept (count - 1) 0) none))

-- the fate of the i-th of such numbers
abbrev pub fate_at : {A : Type 0} → A → (A → A → Bool) → List A → (numbers kept : List ℕ) (count i : ℕ) → ℕ
fate_at none near raw numbers kept count i =
    fate_byte (fate_by (is_last upper_half (get_or numbers i 0) (drop (i + 1) numbers)) (near_last_of none near raw kept count (lower_half (get_or numbers i 0))))

-- what the walk leaves in working memory: how many are written, the fate of each place, and in the front of a column the places that are written, in the order of rows
pub record WalkedAll {A : Type 0} (none : A) (key : A → ℕ) (near : A → A → Bool) (raw : List A) (count : ℕ) (fates_new kept_new : List ℕ) : Type 0 where
  pub many : count ≡ length (mended key near raw)
  pub fits : count ≤ length kept_new
  pub fates_are : fates_new ≡ map fate_byte (fates key near raw)
  pub written : map (λ (p : ℕ). get_or raw p none) (take count kept_new) ≡ mended key near raw

-- ---- of beats and what stands beside them

-- working columns for n entries
pub record WorkFor (n : ℕ) (numbers fates kept : List ℕ) : Type 0 where
  pub few : n ≤ 1024
  pub numbers_long : length numbers ≡ n
  pub fates_long : length fates ≡ n
  pub kept_long : length kept ≡ n

abbrev pub WalkedBeats : {W : Type 0} → W → (W → W → Bool) → List Float → List W → (count : ℕ) (fates_new kept_new : List ℕ) → Type 0
WalkedBeats none near beats values = WalkedAll (nan, none) (row_of row_key_at near) (nearby row_key_at near) (entries beats values)
