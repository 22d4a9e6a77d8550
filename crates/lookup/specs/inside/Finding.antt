-- Where the entries at or before a row end: what the search and the cursors hand on. Definitions only.
use Rattle.std.specs.Prelude.{◌≡◌, ℕ, ◌-◌, ◌<◌, ◌≤◌, Bool, true, false, List, length, ◌==◌, nat_lt, slice_index_or, Float}
use Rattle.std.specs.Float.{nan, binary32, binary64}
use Rattle.std.specs.Float.Ieee.{le, lt, add}
use Rattle.ieee.specs.Constants.{plus_zero}
use Rattle.ieee.specs.Narrowing.{narrow}
use Rattle.picks.specs.Pick.{pick}
use Rattle.lookup.specs.declared.Cursor.{Cursor}
use Rattle.lookup.specs.declared.Place.{Place}
use Rattle.lookup.specs.declared.Held.{Held}
use Rattle.lookup_tests.specs.LookupLists.{LookupLists}
use Rattle.lookup_tests.specs.Refused.{rows_rise}
pub use Rattle.lookup_tests.specs.Refused.{key_of, key_at}

-- a list that can be looked into
abbrev pub Usable : List Float → List Float → Type 0
Usable beats values = (length beats ≡ length values) × (rows_rise beats ≡ true)

-- none of the first n entries is past a row
abbrev pub Passed : ℕ → List Float → ℕ → Type 0
Passed key beats n = (n ≤ length beats) × ((place : ℕ) → place < n → key_at beats place ≤ key)

-- every entry from n on is past it
abbrev pub Past : ℕ → List Float → ℕ → Type 0
Past key beats n = (place : ℕ) → n ≤ place → place < length beats → key < key_at beats place

-- the first n entries are just those at or before a row
pub record Split (key : ℕ) (beats : List Float) (n : ℕ) : Type 0 where
  pub passed : Passed key beats n
  pub past : Past key beats n

-- the end lies between two places
pub record Between (key : ℕ) (beats : List Float) (low high : ℕ) : Type 0 where
  pub order : low ≤ high
  pub passed : Passed key beats low
  pub past : Past key beats high

-- ---- where a row stands in a list

-- the row of the last of the first n entries, and of the entry after them; the lowest and the highest key where there is none
abbrev pub key_before : List Float → ℕ → ℕ
key_before beats n = pick (n == 0) 0 (key_at beats (n - 1))

abbrev pub key_after : List Float → ℕ → ℕ
key_after beats n = pick (nat_lt n (length beats)) (key_at beats n) 4294967295

-- a place whose keys are those of the entries around it
pub record Stands (beats : List Float) (count from until : ℕ) : Type 0 where
  pub within : count ≤ length beats
  pub before : from ≡ key_before beats count
  pub after : until ≡ key_after beats count

abbrev pub PlaceStands : List Float → Place → Type 0
PlaceStands beats place = Stands beats place.count place.from place.until

-- ---- what an entry covers

abbrev pub span_covers : (start end at : Float) → Bool
span_covers start end at = pick (le start at) (lt at end) false

-- the start and the end of the last of the first n entries; a NaN where nothing is covered
abbrev pub start_of : List Float → ℕ → Float
start_of beats n = pick (n == 0) nan (slice_index_or beats (n - 1) nan)

unfoldable pub warp_end : (beats lengths : List Float) → ℕ → Float
warp_end beats lengths n =
    pick (n == 0) nan (pick (lt plus_zero (slice_index_or lengths (n - 1) nan)) (add binary32 (slice_index_or beats (n - 1) nan) (slice_index_or lengths (n - 1) nan)) nan)

unfoldable pub fake_end : (beats lengths : List Float) → ℕ → Float
fake_end beats lengths n = pick (n == 0) nan (narrow (add binary64 (slice_index_or beats (n - 1) nan) (slice_index_or lengths (n - 1) nan)))

-- a place that holds what its last entry covers
pub record Holds (end_of : List Float → List Float → ℕ → Float) (beats lengths : List Float) (count from until : ℕ) (start end : Float) : Type 0 where
  pub stands : Stands beats count from until
  pub first : start ≡ start_of beats count
  pub last : end ≡ end_of beats lengths count

abbrev pub HeldStands : (List Float → List Float → ℕ → Float) → (beats lengths : List Float) → Held → Type 0
HeldStands end_of beats lengths held = Holds end_of beats lengths held.count held.from held.until held.start held.end

-- ---- the cursor
pub record AllUsable (lists : LookupLists) : Type 0 where
  pub stops : Usable lists.stops.beats lists.stops.values
  pub delays : Usable lists.delays.beats lists.delays.values
  pub warps : Usable lists.warps.beats lists.warps.values
  pub fakes : Usable lists.fakes.beats lists.fakes.values

pub record AllStand (lists : LookupLists) (cursor : Cursor) : Type 0 where
  pub stops : PlaceStands lists.stops.beats cursor.stops
  pub delays : PlaceStands lists.delays.beats cursor.delays
  pub warps : HeldStands warp_end lists.warps.beats lists.warps.values cursor.warps
  pub fakes : HeldStands fake_end lists.fakes.beats lists.fakes.values cursor.fakes
