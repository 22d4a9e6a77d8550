-- The walk over beats and what stands beside them, turn by turn. Assumes nothing.
use mathlib.Core.Path.{◌≡◌, refl, ap, sym, ◌∙◌}
use mathlib.Core.Bool.{Bool, true, false}
use mathlib.Core.List.{List}
use Prim.Native.Nat.{ℕ, ◌+◌, ◌-◌, ◌≤◌, ◌<◌}
use native.Mathlib.Omega.{arith}
use lib.Dec.{ltb, eqb}
use lib.ListN.{length, get_or, set, drop, length-set}
use lib.Ieee.{Float, nan}
use Rattle.picks.specs.Pick.{pick}
use Rattle.limits.specs.Refusals.{sizes_number}
use Rattle.order.specs.Order.{is_last}
use Rattle.order.specs.Entries.{entries}
use Rattle.order.specs.Packed.{upper_half, lower_half}
use Rattle.order.proofs.Columns.{length-entries, entries-get_or}
use Rattle.rows.specs.RowKey.{row_key_at}
use Rattle.tidy_rows_sort.specs.RowOrder.{places_by_row}
use Rattle.tidy_rows_sort.proofs.PlacesInOrder.{sorted-places}
use Rattle.tidy_kept.specs.Keeping.{row_of, nearby}
use Rattle.mend_fates.specs.Mending.{fate_byte}
use Rattle.mend_fates.specs.inside.Walking.{InRowOrder, fate_by, fate_at, WorkFor, WalkedBeats}
use Rattle.mend_fates.proofs.SortedPlaces.{in_row_order}
use Rattle.mend_fates.proofs.Turns.{Mending, mending_begins, mending_ends, numbers-long, settled}

-- a place more, or none, leaves the column as long as it is
pub kept-long : (fate count place : ℕ) (kept : List ℕ) {next : List ℕ} → next ≡ pick (eqb fate 0) (set kept count place) kept → length next ≡ length kept
kept-long fate count place kept e = ap length e ∙ by (eqb fate 0)
  where
    by : (b : Bool) → length (pick b (set kept count place) kept) ≡ length kept
    by true = length-set kept count place
    by false = refl

-- the working columns are as long as the sort asks
pub work-sorted : (beats : List Float) {numbers fates kept sorted : List ℕ} → WorkFor (length beats) numbers fates kept
    → sorted ≡ pick (eqb (sizes_number (length beats) (length numbers)) 0) (places_by_row beats) numbers → sorted ≡ places_by_row beats
work-sorted beats {numbers} w e = sorted-places beats w.few numbers w.numbers_long e

module _ {W : Type 0} (none : W) (near : W → W → Bool) (beats : List Float) (values : List W) where
  abbrev pub Walking : (fates_old fates_now kept_now : List ℕ) (count i : ℕ) → Type 0
  Walking = Mending (nan, none) (row_of row_key_at near) (nearby row_key_at near) (entries beats values)

  module _ (same : length beats ≡ length values) where
    abbrev raw : List (Float × W)
    raw = entries beats values

    long : length raw ≡ length beats
    long = length-entries beats values same

    entry : (p : ℕ) → get_or raw p (nan, none) ≡ (get_or beats p nan, get_or values p none)
    entry p = entries-get_or beats values p nan none same

    pub walking_begins : {fates_old kept_now : List ℕ} → length kept_now ≡ length beats → Walking fates_old fates_old kept_now 0 0
    walking_begins h = mending_begins (nan, none) (row_of row_key_at near) (nearby row_key_at near) raw (omega (arith, long))

    module _ (few : length beats ≤ 1024) {numbers : List ℕ} (sorted : numbers ≡ places_by_row beats) where
      by_rows : InRowOrder (nan, none) (row_of row_key_at near) raw numbers
      by_rows = in_row_order beats few (nan, none) (row_of row_key_at near) raw long (λ p. sym (ap (λ (e : Float × W). row_key_at e.0) (entry p))) sorted

      pub as_many : length numbers ≡ length beats
      as_many = numbers-long (nan, none) (row_of row_key_at near) (nearby row_key_at near) raw by_rows ∙ long

      -- the fate of a turn goes by the values alone
      by_values : (kept : List ℕ) (count i : ℕ) → fate_at none near values numbers kept count i ≡ fate_at (nan, none) (nearby row_key_at near) raw numbers kept count i
      by_values kept count i =
          let p = lower_half (get_or numbers i 0) in
          let q = get_or kept (count - 1) 0 in
          let is : near (get_or values p none) (get_or values q none) ≡ near (get_or raw p (nan, none)).1 (get_or raw q (nan, none)).1 =
          sym (ap (λ (e : Float × W). near e.1 (get_or raw q (nan, none)).1) (entry p) ∙ ap (λ (e : Float × W). near (get_or values p none) e.1) (entry q)) in
          ap (λ (b : Bool). fate_byte (fate_by (is_last upper_half (get_or numbers i 0) (drop (i + 1) numbers)) (pick (eqb count 0) false b))) is

      module _ {fates_old fates_now kept_now : List ℕ} {count i : ℕ} (m : Walking fates_old fates_now kept_now count i) (h : i < length beats) where
        pub walking_turns : {fate count_next : ℕ} {fates_next kept_next : List ℕ} → fate ≡ fate_at none near values numbers kept_now count i
            → fates_next ≡ set fates_now (lower_half (get_or numbers i 0)) fate → kept_next ≡ pick (eqb fate 0) (set kept_now count (lower_half (get_or numbers i 0))) kept_now
            → count_next ≡ pick (eqb fate 0) (pick (ltb count (length kept_now)) (count + 1) count) count → Walking fates_old fates_next kept_next count_next (i + 1)
        walking_turns f a b c =
            settled (nan, none) (row_of row_key_at near) (nearby row_key_at near) raw by_rows m (omega (arith, long)) (f ∙ by_values kept_now count i) a b c

    pub walking_ends : {fates_old fates_now kept_now : List ℕ} {count i : ℕ} → Walking fates_old fates_now kept_now count i → length beats ≤ i → length fates_old ≡ length beats
        → WalkedBeats none near beats values count fates_now kept_now
    walking_ends m h all = mending_ends (nan, none) (row_of row_key_at near) (nearby row_key_at near) raw m (omega (arith, long)) (all ∙ sym long)
