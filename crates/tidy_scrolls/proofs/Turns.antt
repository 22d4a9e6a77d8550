-- One turn of the loops over the columns, as a turn over the entries. Assumes nothing.
use Prim.Native.Nat.{ℕ, ◌+◌, ◌≤◌, ◌<◌, min}
use mathlib.Core.Path.{◌≡◌, ap}
use mathlib.Core.Bool.{Bool, true, false}
use mathlib.Core.List.{List, [], ◌∷◌, map}
use native.Mathlib.Omega.{arith}
use lib.Dec.{ltb}
use lib.ListN.{length, drop, get_or, set}
use lib.Ieee.{Float, nan}
use Rattle.picks.specs.Pick.{pick}
use Rattle.order.specs.Entries.{entries, first, second}
use Rattle.order.proofs.Columns.{length-entries, entries-get_or}
use Rattle.rows.specs.RowKey.{row_key_at, on_its_row}
use Rattle.columns.specs.Laying.{Laid}
use Rattle.tidy_kept.specs.Near.{near_to}
use Rattle.tidy_kept.specs.Passing.{Waiting, entry_passed, still_written}
use Rattle.tidy_kept.proofs.PassTurns as turns
use Rattle.tidy_kept.proofs.FieldsLaid.{LayingField, field_room, field-more, field-count, field-all}

module _ (beats values : List Float) (same : length beats ≡ length values) where
  abbrev pub at : ℕ → Float × Float
  at i = (get_or beats i nan, get_or values i nan)

  pub many : length (entries beats values) ≡ length beats
  many = length-entries beats values same

  pub here : (i : ℕ) → get_or (entries beats values) i (nan, nan) ≡ at i
  here i = entries-get_or beats values i nan nan same

  module _ (s next : Waiting Float Float) (i : ℕ) (inside : i < length beats) (so : next ≡ entry_passed row_key_at near_to s (at i)) (row : ℕ) (is : row ≡ row_key_at (get_or beats i nan))
      (flag : Bool) (told : flag ≡ pick s.waits (ltb s.row row) false) where
    pub turn-writes : flag ≡ true → still_written row_key_at near_to s (drop i (entries beats values)) ≡ (s.beat, s.value) ∷ still_written row_key_at near_to next (drop (i + 1) (entries beats values))
    turn-writes = turns.turn-writes row_key_at near_to (entries beats values) s next i (at i) (nan, nan) (omega (arith, many)) (here i) so row is flag told

    pub turn-waits : flag ≡ false → still_written row_key_at near_to s (drop i (entries beats values)) ≡ still_written row_key_at near_to next (drop (i + 1) (entries beats values))
    turn-waits = turns.turn-waits row_key_at near_to (entries beats values) s next i (at i) (nan, nan) (omega (arith, many)) (here i) so row is flag told

  module _ (s : Waiting Float Float) (i : ℕ) (past : length beats ≤ i) where
    pub ends_waiting : s.waits ≡ true → still_written row_key_at near_to s (drop i (entries beats values)) ≡ (s.beat, s.value) ∷ []
    ends_waiting = turns.one_left row_key_at near_to s (entries beats values) i (omega (arith, many))

    pub ends : s.waits ≡ false → still_written row_key_at near_to s (drop i (entries beats values)) ≡ []
    ends = turns.none_left row_key_at near_to s (entries beats values) i (omega (arith, many))

-- ---- entries laid over the fronts of two rooms, each on its row
pub record LayingRows (whole left : List (Float × Float)) (beats_old beats_new values_old values_new : List Float) (count : ℕ) : Type 0 where
  pub beats_so : LayingField on_its_row first whole left beats_old beats_new count
  pub values_so : LayingField on_its_row second whole left values_old values_new count

module _ (whole left : List (Float × Float)) (beats_old beats_new values_old values_new : List Float) (count : ℕ) (p : LayingRows whole left beats_old beats_new values_old values_new count) where
  pub rows_same : (other : List (Float × Float)) → left ≡ other → LayingRows whole other beats_old beats_new values_old values_new count
  rows_same other e = rw e at p

  module _ (e : Float × Float) (less : List (Float × Float)) (is : left ≡ e ∷ less) where
    pub rows-room : length whole ≤ min (length beats_old) (length values_old) → (count < length beats_new) × (count < length values_new)
    rows-room fits =
        (field_room on_its_row first whole left beats_old beats_new count p.beats_so e less is (omega arith), field_room on_its_row second whole left values_old values_new count p.values_so e less is (omega arith))

    pub rows_more : (b v : Float) → b ≡ (on_its_row e).0 → v ≡ e.1 → count < length beats_new → count < length values_new
        → LayingRows whole less beats_old (set beats_new count b) values_old (set values_new count v) (count + 1)
    rows_more b v eb ev hb hv = record {
      beats_so = field-more on_its_row first whole left beats_old beats_new count p.beats_so e less is (set beats_new count b) (ap (set beats_new count) eb) hb;
      values_so = field-more on_its_row second whole left values_old values_new count p.values_so e less is (set values_new count v) (ap (set values_new count) ev) hv;
    }

  module _ (is : left ≡ []) where
    pub rows-count : count ≡ length whole
    rows-count = field-count on_its_row first whole left beats_old beats_new count p.beats_so is

    pub rows_all : Laid (map on_its_row whole) beats_old beats_new values_old values_new
    rows_all = record { first_is = field-all on_its_row first whole left beats_old beats_new count p.beats_so is; second_is = field-all on_its_row second whole left values_old values_new count p.values_so is }
