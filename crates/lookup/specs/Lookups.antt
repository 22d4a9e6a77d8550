-- Lookups: whether a row is warped, fake or judgable. Rows are compared by their keys, which have the order of the rows. Definitions only.
use Rattle.std.specs.Prelude.{◌≡◌, ℕ, ◌-◌, Bool, true, false, not, List, [], ◌∷◌, map, length, ℤ, ◌==◌, nat_le, slice_index_or, Float}
use Rattle.std.specs.Float.{Format, nan, binary32, binary64}
use Rattle.std.specs.Float.Ieee.{lt, le, add}
use Rattle.ieee.specs.Constants.{plus_zero}
use Rattle.picks.specs.Pick.{pick}
use Rattle.ieee.specs.Narrowing.{narrow}
use Rattle.rows.specs.Rows.{row, beat_of}
use Rattle.order.specs.Order.{laid}
use Rattle.rows.specs.RowKey.{row_key}
use Rattle.columns.specs.declared.Outcome.{Outcome}
use Rattle.columns.specs.Laying.{room_number, given}
use Rattle.lookup.specs.declared.Looked.{Looked}
pub use Rattle.lookup_tests.specs.LookupLists.{ListColumns, list_columns, WarpLists, LookupLists, warp_lists, lookup_lists, but_fakes}
pub use Rattle.lookup_tests.specs.Refused.{key_of, asked_number, warp_number, fake_number, judgable_number}
unfoldable pub use Rattle.lookup_tests.specs.Refused.{is_below, rows_rise, rising_number}

-- ---- entries found by their rows

-- what a test says of the last entry that is at or before a row; `none` where there is no such entry
unfoldable pub last_passes : (Float → Float → Bool) → ℕ → Bool → List Float → List Float → Bool
last_passes test key none [] values = none
last_passes test key none (beat ∷ beats) [] = none
last_passes test key none (beat ∷ beats) (value ∷ values) = last_passes test key (pick (nat_le (key_of beat) key) (test beat value) none) beats values

-- whether an entry above 0 is on a row
unfoldable pub is_paused : ℕ → List Float → List Float → Bool
is_paused key [] values = false
is_paused key (beat ∷ beats) [] = false
is_paused key (beat ∷ beats) (value ∷ values) =
    pick (key_of beat == key) (pick (lt plus_zero value) true (is_paused key beats values)) (is_paused key beats values)

-- what a test says of the last of the first n entries
abbrev pub of_last : (Float → Float → Bool) → Bool → List Float → List Float → ℕ → Bool
of_last test none beats values n = pick (n == 0) none (test (slice_index_or beats (n - 1) nan) (slice_index_or values (n - 1) nan))

-- an entry above 0 on a row
abbrev pub pauses_on : ℕ → Float → Float → Bool
pauses_on key beat value = pick (key_of beat == key) (lt plus_zero value) false

-- ---- the three questions

-- from its beat on and before its end: a warp, of a length above 0, sums in f32
abbrev pub warp_covers : Float → Float → Float → Bool
warp_covers at beat length = pick (lt plus_zero length) (pick (le beat at) (lt at (add binary32 beat length)) false) false

-- a fake sums in f64, and then narrows
abbrev pub fake_covers : Float → Float → Float → Bool
fake_covers at beat length = pick (le beat at) (lt at (narrow (add binary64 beat length))) false

module _ (lists : WarpLists) (asked : ℤ) where
  abbrev pub in_warp : Bool
  in_warp = last_passes (warp_covers (beat_of binary32 asked)) (row_key asked) false lists.warps.beats lists.warps.values

  -- in the last warp, and no stop or delay above 0 on the row
  unfoldable pub is_warped : Bool
  is_warped =
      pick
      in_warp
      (pick
      (is_paused (row_key asked) lists.stops.beats lists.stops.values)
      false
      (not (is_paused (row_key asked) lists.delays.beats lists.delays.values)))
      false

unfoldable pub is_fake : (fakes : ListColumns) → ℤ → Bool
is_fake fakes asked = last_passes (fake_covers (beat_of binary32 asked)) (row_key asked) false fakes.beats fakes.values

unfoldable pub is_judgable : LookupLists → ℤ → Bool
is_judgable lists asked = pick (is_warped (but_fakes lists) asked) false (not (is_fake lists.fakes asked))

-- the row of an asked beat
abbrev pub asked_row : Float → ℤ
asked_row beat = row binary32 (narrow beat)

-- a lookup's answer: no after a refusal
unfoldable pub looked : ℕ → Bool → Looked
looked number answer = record { number = number; yes = pick (number == 0) answer false }

-- ---- many rows

-- 1 for yes
abbrev pub byte : Bool → ℕ
byte answer = pick answer 1 0

-- the one outcome: the number, the count, and the room to its last place
pub record Judged (tests : ℕ) (judge : ℤ → Bool) (rows : List ℤ) (outcome : Outcome) (old new : List ℕ) : Type 0 where
  pub number : outcome.number ≡ room_number tests (length rows) (length old)
  pub count : outcome.count ≡ length (given outcome.number rows)
  pub answers : new ≡ laid (map (λ (asked : ℤ). byte (judge asked)) (given outcome.number rows)) old
