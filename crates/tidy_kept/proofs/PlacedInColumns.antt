-- An entry placed in two columns by what a search and three tests find, and every entry after the other. Assumes nothing.
use Prim.Native.Nat.{ℕ, zero, suc, ◌+◌, ◌-◌, ◌≤◌, ◌<◌}
use mathlib.Core.Path.{◌≡◌, refl, sym, ap, ◌∙◌}
use mathlib.Core.Bool.{Bool, true, false, not}
use mathlib.Core.List.{List, [], ◌∷◌}
use mathlib.Core.Logic.{inl, inr}
use native.Mathlib.Omega.{arith}
use lib.Dec.{ltb, eqb}
use lib.ListN.{length, take, drop, get_or, set}
use lib.Seq.{length-take-le, get_or-take}
use borrow.Author.Tests.{lt-ltb, le-ltb}
use Rattle.picks.specs.Pick.{pick}
use Rattle.order.specs.Order.{run, never_falls, may_precede}
use Rattle.order.specs.Entries.{entries}
use Rattle.order.proofs.Compare.{below?}
use Rattle.order.proofs.Columns.{length-entries, entries-get_or}
use Rattle.tidy_kept.specs.declared.Change.{Change}
use Rattle.tidy_kept.specs.Keeping.{row_of, placed, placed_after, placed_between, falls_while}
use Rattle.tidy_kept.specs.Changing.{change_of, spliced, spliced_in}
use Rattle.tidy_kept.specs.inside.Changed.{count_by, Changed}
use Rattle.tidy_kept.specs.Searching.{UpTo, place_after}
use Rattle.tidy_kept.specs.inside.Placing.{front_entries, PlacedOne, PlacedAll}
use Rattle.tidy_kept.proofs.PlacedByPlace.{near_at, against_at, change_by, on_row_at}
use Rattle.tidy_kept.proofs.ChangedRightly.{changed_rightly}
use Rattle.tidy_kept.proofs.Searched.{found, reached}
use Rattle.tidy_kept.proofs.ColumnsPlaced.{taken-spliced, entries-spliced, never_falls_entries}
use Rattle.tidy_kept.proofs.PassTurns.{places-here, falls-here, stands_here, all_placed, none-falls}

get_or-other : {A : Type 0} (l : List A) (i : ℕ) (a b : A) → i < length l → get_or l i a ≡ get_or l i b
get_or-other [] i a b h = absurd (omega arith)
get_or-other (x ∷ l) zero a b h = refl
get_or-other (x ∷ l) (suc i) a b h = get_or-other l i a b (omega arith)

-- ---- the first entries of two columns
module _ {B W : Type 0} (n : ℕ) (beats : List B) (values : List W) (few : n ≤ length beats) (few' : n ≤ length values) where
  even : length (take n beats) ≡ length (take n values)
  even = length-take-le n beats few ∙ sym (length-take-le n values few')

  pub length-listed : length (front_entries n beats values) ≡ n
  length-listed = length-entries (take n beats) (take n values) even ∙ length-take-le n beats few

  pub get_or-listed : (i : ℕ) (b : B) (w : W) → i < n → get_or (front_entries n beats values) i (b, w) ≡ (get_or beats i b, get_or values i w)
  get_or-listed i b w h = entries-get_or (take n beats) (take n values) i b w even ∙ rw (get_or-take n beats i b h, get_or-take n values i w h)

-- ---- one entry
module _ {B W : Type 0} (row : B → ℕ) (near : W → W → Bool) (no_beat : B) (no_value : W) where
  module _ (n : ℕ) (beats : List B) (values : List W) (few : n ≤ length beats) (few' : n ≤ length values) where
    get_or_in : (i : ℕ) (e : B × W) → i < n → get_or (front_entries n beats values) i e ≡ (get_or beats i no_beat, get_or values i no_value)
    get_or_in i e h = get_or-listed n beats values few few' i e.0 e.1 h ∙ rw (get_or-other beats i e.0 no_beat (omega arith), get_or-other values i e.1 no_value (omega arith))

    near_in : (e : B × W) (i : ℕ) → near_at row near e (front_entries n beats values) i ≡ pick (ltb i n) (near e.1 (get_or values i no_value)) false
    near_in e i = elim (below? i n) [
      | inl h ↦ rw (length-listed n beats values few few', lt-ltb i n h, get_or_in i e h)
      | inr h ↦ rw (length-listed n beats values few few', le-ltb i n h)
    ]

    change-found : (e : B × W) (at : ℕ) → UpTo row no_beat (take n beats) (row e.0) at → never_falls row (take n beats) ≡ true → 0 < n → n ≤ 1024
        → (o near_next near_previous near_last_of : Bool) → o ≡ eqb (row (get_or beats (at - 1) no_beat)) (row e.0)
        → near_next ≡ pick (ltb (at - 1 + 1) n) (near e.1 (get_or values (at - 1 + 1) no_value)) false
        → near_previous ≡ pick (ltb (pick o (at - 1 - 1) (at - 1)) n) (near e.1 (get_or values (pick o (at - 1 - 1) (at - 1)) no_value)) false
        → near_last_of ≡ pick (ltb (at - 1) n) (near e.1 (get_or values (at - 1) no_value)) false
        → (c : Change) → c ≡ change_of at o near_next near_previous near_last_of → Changed row near e (front_entries n beats values) c
    change-found e at u so some short o near_next near_previous near_last_of ho hn hp hl c hc =
        let l = front_entries n beats values in
        let length-n : length (take n beats) ≡ n = length-take-le n beats few in
        let within : at ≤ n = omega (arith, u.within) in
        let row_so : on_row_at row near e l at ≡ o = rw (get_or_in (at - 1) e (omega arith)) (sym ho) in
        let flags : change_by row near e l at o ≡ c = sym (hc ∙ rw (near_in e (at - 1 + 1), near_in e (against_at row near (at - 1) o), near_in e (at - 1)) (rw (← hn, ← hp, ← hl) refl)) in
        rw (ap (change_by row near e l at) row_so ∙ flags) at
        (changed_rightly row near e l at (never_falls_entries row near (take n beats) (take n values) (even n beats values few few') ∙ so) (reached row near no_beat (row e.0) at (take n beats) (take n values) (even n beats values few few') u)
        (omega (arith, length-listed n beats values few few')) (omega arith))

    -- with what the code holds
    pub change-by : (e : B × W) (at last against key last_key : ℕ) → last ≡ at - 1 → key ≡ row e.0 → last_key ≡ row (get_or beats last no_beat)
        → at ≡ place_after row no_beat (take n beats) key → never_falls row (take n beats) ≡ true → 0 < n → n ≤ 1024 → (o near_next near_previous near_last_of : Bool) → o ≡ eqb last_key key → against ≡ pick o (last - 1) last
        → near_next ≡ pick (ltb (last + 1) n) (near e.1 (get_or values (last + 1) no_value)) false → near_previous ≡ pick (ltb against n) (near e.1 (get_or values against no_value)) false
        → near_last_of ≡ pick (ltb last n) (near e.1 (get_or values last no_value)) false → (c : Change) → c ≡ change_of at o near_next near_previous near_last_of → Changed row near e (front_entries n beats values) c
    change-by e at last against key last_key l k lk u so some short o near_next near_previous near_last_of ho ha hn hp hl c hc =
        change-found e at (rw (u ∙ ap (place_after row no_beat (take n beats)) k) (found row no_beat (take n beats) (row e.0) so)) so some short o near_next near_previous near_last_of (ho ∙ rw (lk, l, k)) (hn ∙ rw l) (hp ∙ rw (ha, l)) (hl ∙ rw l) c hc

  pub placed_first : (e : B × W) (beats : List B) (values : List W) → 0 < length beats → 0 < length values
      → PlacedOne row near e 0 beats values 1 false (set beats 0 e.0) (set values 0 e.1)
  unfolding placed_after placed_between never_falls may_precede entries
  placed_first e [] values h k = absurd (omega arith)
  placed_first e (b ∷ beats) [] h k = absurd (omega arith)
  placed_first e (b ∷ beats) (v ∷ values) h k = record { few = omega arith; list = refl; falling = refl }

  module _ (e : B × W) (n : ℕ) (beats : List B) (values : List W) (room : n < length beats) (same : length beats ≡ length values) (c : Change)
      (so : Changed row near e (front_entries n beats values) c) where
    size : length (front_entries n beats values) ≡ n
    size = length-listed n beats values (omega arith) (omega arith)

    value_so : (moves : Bool) → c.moves ≡ moves → pick moves (get_or values (c.high - 1) no_value) e.1 ≡ pick moves (get_or (front_entries n beats values) (c.high - 1) e).1 e.1
    value_so true m =
        let some : 0 < c.high = so.moving m in
        let inside : c.high - 1 < n = omega (arith, so.high, size) in
        rw (get_or_in n beats values (omega arith) (omega arith) (c.high - 1) e inside)
    value_so false m = refl

    pub high_fits : c.high ≤ n
    high_fits = omega (arith, so.high, size)

    pub placed-later : (v : W) → v ≡ pick c.moves (get_or values (c.high - 1) no_value) e.1 → (count : ℕ) (falls : Bool) → count ≡ count_by n c.low c.high c.comes → falls ≡ c.falls
        → PlacedOne row near e n beats values count falls (spliced_in n c.low c.high c.comes e.0 beats) (spliced_in n c.low c.high c.comes v values)
    placed-later v is count falls many told =
        record {
          few = few_so c.comes many;
          list =
              rw (many, taken-spliced n c.low c.high c.comes e.0 beats room so.low high_fits, taken-spliced n c.low c.high c.comes v values (omega arith) so.low high_fits)
              (entries-spliced c.low c.high c.comes e.0 v (take n beats) (take n values) (even n beats values (omega arith) (omega arith))
              ∙ ap (λ (w : W). spliced c.low c.high c.comes (e.0, w) (front_entries n beats values)) (is ∙ value_so c.moves refl) ∙ sym so.places);
          falling = told ∙ so.falling;
        }
      where
        few_so : (comes : Bool) → count ≡ count_by n c.low c.high comes → count ≤ n + 1
        few_so true h = omega arith
        few_so false h = omega arith

-- ---- every entry
module _ {B W : Type 0} (row : B → ℕ) (near : W → W → Bool) where
  -- after i of the given ones the columns hold `count`
  pub record PlacingAll (given : List (B × W)) (kept_beats : List B) (kept_values : List W) (count : ℕ) (flag : Bool) (i : ℕ) : Type 0 where
    pub up_to : i ≤ length given
    pub few : count ≤ i
    pub falling : flag ≡ not (never_falls (row_of row near) (front_entries count kept_beats kept_values))
    pub places : run (placed row near) (front_entries count kept_beats kept_values) (drop i given) ≡ run (placed row near) [] given
    pub falls : falls_while row near (front_entries count kept_beats kept_values) (drop i given) ≡ falls_while row near [] given

  pub placing_none : (given : List (B × W)) (kept_beats : List B) (kept_values : List W) → PlacingAll given kept_beats kept_values 0 false 0
  unfolding never_falls entries
  placing_none given kept_beats kept_values = record { up_to = omega arith; few = omega arith; falling = refl; places = refl; falls = refl }

  unfallen : (falls b : Bool) → falls ≡ false → falls ≡ not b → b ≡ true
  unfallen falls true f e = refl
  unfallen falls false f e = let z : ◌≡◌ {A = ℕ} 0 1 = cc in absurd (omega arith)

  fallen : (falls b : Bool) → falls ≡ true → falls ≡ not b → b ≡ false
  fallen falls true f e = let z : ◌≡◌ {A = ℕ} 0 1 = cc in absurd (omega arith)
  fallen falls false f e = refl

  module _ (given : List (B × W)) (kept_beats : List B) (kept_values : List W) (count : ℕ) (flag : Bool) (i : ℕ) (p : PlacingAll given kept_beats kept_values count flag i) where
    abbrev list : List (B × W)
    list = front_entries count kept_beats kept_values

    stands : flag ≡ false → never_falls (row_of row near) list ≡ true
    stands f = unfallen flag (never_falls (row_of row near) list) f p.falling

    pub beats-stand : flag ≡ false → i ≤ length kept_beats → i ≤ length kept_values → never_falls row (take count kept_beats) ≡ true
    beats-stand f h k =
        sym (never_falls_entries row near (take count kept_beats) (take count kept_values) (even count kept_beats kept_values (omega (arith, p.few)) (omega (arith, p.few)))) ∙ stands f

    module _ (e d : B × W) (inside : i < length given) (here : get_or given i d ≡ e) where
      pub placing_falls : flag ≡ true → PlacedAll row near given 0 true kept_beats kept_values
      placing_falls f =
          record {
            falling = sym (sym p.falls ∙ falls-here row near list given i e d inside here (fallen flag (never_falls (row_of row near) list) f p.falling));
            few = omega arith;
            all = λ g. let z : ◌≡◌ {A = ℕ} 0 1 = cc in absurd (omega arith);
          }

      pub placing_more : (new_beats : List B) (new_values : List W) (new_count : ℕ) (new_falls : Bool) → flag ≡ false → PlacedOne row near e count kept_beats kept_values new_count new_falls new_beats new_values
          → PlacingAll given new_beats new_values new_count new_falls (i + 1)
      placing_more new_beats new_values new_count new_falls f q = record {
        up_to = omega arith;
        few = omega (arith, q.few, p.few);
        falling = rw q.list q.falling;
        places = rw q.list (sym (places-here row near list given i e d inside here)) ∙ p.places;
        falls = rw q.list (sym (stands_here row near list given i e d inside here (stands f))) ∙ p.falls;
      }

    pub placing_ends : length given ≤ i → PlacedAll row near given count false kept_beats kept_values
    placing_ends past = record {
      falling = sym (sym p.falls ∙ none-falls row near list given i past);
      few = omega (arith, p.few, p.up_to);
      all = λ f. sym (sym p.places ∙ all_placed row near list given i past);
    }
