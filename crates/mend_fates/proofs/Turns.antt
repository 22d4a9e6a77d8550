-- The walk over the places of a raw list in the order of their rows, turn by turn: the places that are kept lie in the front of a column, and each fate is
-- written at its place. Over any entry. Assumes nothing.
use mathlib.Core.Path.{◌≡◌, refl, ap, sym, subst, ◌∙◌}
use mathlib.Core.Bool.{Bool, true, false}
use mathlib.Core.List.{List, [], ◌∷◌, map, map-map}
use mathlib.Core.Logic.{⊎_elim}
use Prim.Native.Nat.{ℕ, zero, suc, ◌+◌, ◌-◌, ◌≤◌, ◌<◌}
use native.Mathlib.Omega.{arith}
use native.Mathlib.Numerals.{add-one}
use borrow.Author.Tests.{ne_eqb, lt-ltb}
use lib.Dec.{ltb, eqb}
use lib.ListN.{length, get_or, take, drop, set, length-set, length-map, drop_of_length-le}
use lib.Seq.{drop-cons, take-suc-set, length-take-le, get_or-take}
use Rattle.picks.specs.Pick.{pick}
use Rattle.order.specs.Order.{run, is_last, the_last}
use Rattle.order.specs.Entries.{places}
use Rattle.order.specs.Packed.{upper_half, lower_half}
use Rattle.order.proofs.Compare.{same?}
use Rattle.order_sort.proofs.GatheredByPlaces.{read-places}
use Rattle.mend_fates.specs.Mending.{Kept, mended, near_one, fates, fate_byte}
use Rattle.mend_fates.specs.inside.Walking.{walk_fate, InRowOrder, near_last_of, fate_at, WalkedAll}
use Rattle.mend_fates.proofs.KeptAreWritten.{one_each}
use Rattle.mend_fates.proofs.OneWalk.{Walked, walk_begins, walk_replaced, walk-merged, walk_kept, walk_ends}
use Rattle.mend_fates.proofs.ByPlaces.{entry_at, row_at, near_at, in_order, kept_places, written_by_places, order-length, place-within, fate_at_place, map-drop}
use Rattle.mend_fates.proofs.FatesInPlace.{write_at, written_in_place}

-- ---- lists
map_get : {A B : Type 0} (g : A → B) (list : List A) (i : ℕ) (a : A) (b : B) → i < length list → get_or (map g list) i b ≡ g (get_or list i a)
map_get g [] i a b h = absurd (omega arith)
map_get g (x ∷ list) zero a b h = refl
map_get g (x ∷ list) (suc i) a b h = map_get g list i a b (omega arith)

the_last_get : (other front : List ℕ) → 0 < length front → the_last other front ≡ get_or front (length front - 1) 0 ∷ []
unfolding the_last
the_last_get other [] h = absurd (omega arith)
the_last_get other (x ∷ []) h = refl
the_last_get other (x ∷ y ∷ front) h = the_last_get (x ∷ []) (y ∷ front) (omega arith) ∙ ap (λ (p : ℕ). p ∷ []) here
  where
    here : get_or (y ∷ front) (length (y ∷ front) - 1) 0 ≡ get_or (x ∷ y ∷ front) (length (x ∷ y ∷ front) - 1) 0
    here =
        let less : length (x ∷ y ∷ front) - 1 ≡ suc (length (y ∷ front) - 1) = omega arith in
        rw less

is_last_map : (key : ℕ → ℕ) (p : ℕ) (list : List ℕ) → is_last (λ (k : ℕ). k) (key p) (map key list) ≡ is_last key p list
unfolding is_last
is_last_map key p [] = refl
is_last_map key p (q ∷ list) = refl

run_none : {A S : Type 0} (step : A → S → S) (s : S) → run step s [] ≡ s
unfolding run
run_none step s = refl

module _ {A : Type 0} (none : A) (key : A → ℕ) (near : A → A → Bool) (raw : List A) where
  abbrev order : List ℕ
  order = in_order none key near raw

  abbrev rows : ℕ → ℕ
  rows = row_at none key near raw

  abbrev nears : ℕ → ℕ → Bool
  nears = near_at none key near raw

  abbrev keepers : List ℕ
  keepers = kept_places none key near raw

  abbrev fate_number : ℕ → ℕ
  fate_number p = fate_byte (get_or (fates key near raw) p Kept)

  -- after i places: those in the front of `kept_now` are kept, and what is still to be written of fates gives what all would
  pub record Mending (fates_old fates_now kept_now : List ℕ) (count i : ℕ) : Type 0 where
    pub few : count ≤ i
    pub within : i ≤ length raw
    pub room : length raw ≤ length kept_now
    pub walked : Walked rows nears keepers (take count kept_now) (drop i order)
    pub fates_are : run (write_at fate_number) fates_now (drop i order) ≡ run (write_at fate_number) fates_old order
    pub fates_long : length fates_now ≡ length fates_old

  pub mending_begins : {fates_old kept_now : List ℕ} → length raw ≤ length kept_now → Mending fates_old fates_old kept_now 0 0
  mending_begins h = record { few = omega arith; within = omega arith; room = h; walked = walk_begins rows nears (places (length raw)); fates_are = refl; fates_long = refl }

  ahead : (i : ℕ) → i < length raw → drop i order ≡ get_or order i 0 ∷ drop (i + 1) order
  ahead i h =
      let less : i < length order = omega (arith, order-length none key near raw) in
      rw (add-one i) (drop-cons order i 0 less)

  module _ {fates_old fates_now kept_now : List ℕ} {count i : ℕ} (m : Mending fates_old fates_now kept_now count i) (h : i < length raw) where
    abbrev place : ℕ
    place = get_or order i 0

    abbrev rest : List ℕ
    rest = drop (i + 1) order

    abbrev last : List ℕ
    last = the_last [] (take count kept_now)

    here : Walked rows nears keepers (take count kept_now) (place ∷ rest)
    here = subst (λ (l : List ℕ). Walked rows nears keepers (take count kept_now) l) (ahead i h) m.walked

    fate_is : fate_number place ≡ fate_byte (walk_fate rows nears last place rest)
    fate_is = ap fate_byte (sym (fate_at_place none key near raw i (take count kept_now) rest Kept h (ahead i h) here))

    fates-on : (n : ℕ) → fate_number place ≡ n → run (write_at fate_number) (set fates_now place n) rest ≡ run (write_at fate_number) fates_old order
    fates-on n e =
        ap (λ (v : ℕ). run (write_at fate_number) (set fates_now place v) rest) (sym e)
        ∙ unfold run in (ap (run (write_at fate_number) fates_now) (sym (ahead i h)) ∙ m.fates_are)

    -- whether the entry is near the last one kept
    near_last : near_one nears place last ≡ pick (eqb count 0) false (nears place (get_or kept_now (count - 1) 0))
    near_last = ⊎_elim (λ e. first_one e) (λ n. by_place n) (same? count 0)
      where
        first_one : count ≡ 0 → near_one nears place last ≡ pick (eqb count 0) false (nears place (get_or kept_now (count - 1) 0))
        first_one e = rw e (unfold near_one the_last in refl)

        one : (q : ℕ) → near_one nears place (q ∷ []) ≡ nears place q
        one q = unfold near_one in refl

        by_place : (count ≡ 0 → ⊥) → near_one nears place last ≡ pick (eqb count 0) false (nears place (get_or kept_now (count - 1) 0))
        by_place n =
            let front = take count kept_now in
            let long : length front ≡ count = length-take-le count kept_now (omega (arith, m.few, m.within, m.room)) in
            let less : count - 1 < count = omega (arith, n) in
            rw (ne_eqb count 0 n)
            (ap (near_one nears place) (the_last_get [] front (omega (arith, n))) ∙ one (get_or front (length front - 1) 0)
            ∙ ap (λ (j : ℕ). nears place (get_or front (j - 1) 0)) long ∙ ap (nears place) (get_or-take count kept_now (count - 1) 0 less))

    turn_replaced : is_last rows place rest ≡ false → Mending fates_old (set fates_now place 1) kept_now count (i + 1)
    turn_replaced e = record {
      few = omega (arith, m.few);
      within = omega arith;
      room = m.room;
      walked = walk_replaced rows nears here e;
      fates_are = fates-on 1 (fate_is ∙ unfold walk_fate in (rw e));
      fates_long = length-set fates_now place 1 ∙ m.fates_long;
    }

    turn-merged : is_last rows place rest ≡ true → near_one nears place last ≡ true → Mending fates_old (set fates_now place 2) kept_now count (i + 1)
    turn-merged e n = record {
      few = omega (arith, m.few);
      within = omega arith;
      room = m.room;
      walked = walk-merged rows nears here e n;
      fates_are = fates-on 2 (fate_is ∙ unfold walk_fate in (rw (e, n)));
      fates_long = length-set fates_now place 2 ∙ m.fates_long;
    }

    turn-kept : is_last rows place rest ≡ true → near_one nears place last ≡ false → Mending fates_old (set fates_now place 0) (set kept_now count place) (count + 1) (i + 1)
    turn-kept e n =
        let less : count < length kept_now = omega (arith, m.few, m.room) in
        record {
          few = omega (arith, m.few);
          within = omega arith;
          room = rw (length-set kept_now count place) m.room;
          walked = rw (add-one count, take-suc-set kept_now count place less) (walk_kept rows nears here e n);
          fates_are = fates-on 0 (fate_is ∙ unfold walk_fate in (rw (e, n)));
          fates_long = length-set fates_now place 0 ∙ m.fates_long;
        }

  -- ---- by the numbers that the sort leaves
  module _ {numbers : List ℕ} (s : InRowOrder none key raw numbers) where
    pub numbers-long : length numbers ≡ length raw
    numbers-long = sym (length-map numbers lower_half) ∙ ap length s.places_are ∙ order-length none key near raw

    place_is : (i : ℕ) → i < length raw → get_or order i 0 ≡ lower_half (get_or numbers i 0)
    place_is i h = ap (λ (l : List ℕ). get_or l i 0) (sym s.places_are) ∙ map_get lower_half numbers i 0 0 (omega (arith, numbers-long))

    pub place-below : (i : ℕ) → i < length raw → lower_half (get_or numbers i 0) < length raw
    place-below i h = omega (arith, place-within none key near raw i h, place_is i h)

    -- the next number is of another row where the next entry is
    last-is : (i : ℕ) → i < length raw → is_last rows (get_or order i 0) (drop (i + 1) order) ≡ is_last upper_half (get_or numbers i 0) (drop (i + 1) numbers)
    last-is i h =
        let keys : map rows order ≡ map upper_half numbers = sym (s.keys_are ∙ ap (map rows) s.places_are) in
        let here : rows (get_or order i 0) ≡ upper_half (get_or numbers i 0) =
        sym (map_get rows order i 0 0 (omega (arith, order-length none key near raw))) ∙ ap (λ (l : List ℕ). get_or l i 0) keys ∙ map_get upper_half numbers i 0 0 (omega (arith, numbers-long)) in
        let rest : map rows (drop (i + 1) order) ≡ map upper_half (drop (i + 1) numbers) =
        sym (map-drop rows (i + 1) order) ∙ ap (drop (i + 1)) keys ∙ map-drop upper_half (i + 1) numbers in
        sym (is_last_map rows (get_or order i 0) (drop (i + 1) order))
        ∙ ap (λ (k : ℕ). is_last (λ (n : ℕ). n) k (map rows (drop (i + 1) order))) here
        ∙ ap (is_last (λ (n : ℕ). n) (upper_half (get_or numbers i 0))) rest
        ∙ is_last_map upper_half (get_or numbers i 0) (drop (i + 1) numbers)

    module _ {fates_old fates_now kept_now : List ℕ} {count i : ℕ} (m : Mending fates_old fates_now kept_now count i) (h : i < length raw) where
      abbrev at : ℕ
      at = lower_half (get_or numbers i 0)

      abbrev last_of_row : Bool
      last_of_row = is_last upper_half (get_or numbers i 0) (drop (i + 1) numbers)

      abbrev close : Bool
      close = near_last_of none near raw kept_now count (lower_half (get_or numbers i 0))

      near-is : near_one nears (get_or order i 0) (the_last [] (take count kept_now)) ≡ close
      near-is = near_last m h ∙ ap (λ (p : ℕ). pick (eqb count 0) false (nears p (get_or kept_now (count - 1) 0))) (place_is i h)

      replaced_at : last_of_row ≡ false → Mending fates_old (set fates_now at 1) kept_now count (i + 1)
      replaced_at e = subst (λ (p : ℕ). Mending fates_old (set fates_now p 1) kept_now count (i + 1)) (place_is i h) (turn_replaced m h (last-is i h ∙ e))

      merged-at : last_of_row ≡ true → close ≡ true → Mending fates_old (set fates_now at 2) kept_now count (i + 1)
      merged-at e n = subst (λ (p : ℕ). Mending fates_old (set fates_now p 2) kept_now count (i + 1)) (place_is i h) (turn-merged m h (last-is i h ∙ e) (near-is ∙ n))

      kept_at : last_of_row ≡ true → close ≡ false → Mending fates_old (set fates_now at 0) (set kept_now count at) (count + 1) (i + 1)
      kept_at e n = subst (λ (p : ℕ). Mending fates_old (set fates_now p 0) (set kept_now count p) (count + 1) (i + 1)) (place_is i h) (turn-kept m h (last-is i h ∙ e) (near-is ∙ n))

      -- THE TURN: the fate is settled
      pub settled : {fate count_next : ℕ} {fates_next kept_next : List ℕ} → fate ≡ fate_at none near raw numbers kept_now count i → fates_next ≡ set fates_now at fate
          → kept_next ≡ pick (eqb fate 0) (set kept_now count at) kept_now → count_next ≡ pick (eqb fate 0) (pick (ltb count (length kept_now)) (count + 1) count) count
          → Mending fates_old fates_next kept_next count_next (i + 1)
      settled {fate} {count_next} {fates_next} {kept_next} f a b c = by last_of_row refl close refl
        where
          moved : {fates kept : List ℕ} {n : ℕ} → fates_next ≡ fates → kept_next ≡ kept → count_next ≡ n → Mending fates_old fates kept n (i + 1) → Mending fates_old fates_next kept_next count_next (i + 1)
          moved x y z turn = rw (x, y, z) turn

          room : ltb count (length kept_now) ≡ true
          room = lt-ltb count (length kept_now) (omega (arith, m.few, m.room))

          by : (last : Bool) → last_of_row ≡ last → (near : Bool) → close ≡ near → Mending fates_old fates_next kept_next count_next (i + 1)
          by false e near n =
              let is : fate ≡ 1 = f ∙ rw e in
              moved (a ∙ ap (set fates_now at) is) (b ∙ rw is) (c ∙ rw is) (replaced_at e)
          by true e true n =
              let is : fate ≡ 2 = f ∙ rw (e, n) in
              moved (a ∙ ap (set fates_now at) is) (b ∙ rw is) (c ∙ rw is) (merged-at e n)
          by true e false n =
              let is : fate ≡ 0 = f ∙ rw (e, n) in
              moved (a ∙ ap (set fates_now at) is) (b ∙ rw is) (c ∙ rw (is, room)) (kept_at e n)

  -- ---- all places have come
  fates-all : map fate_number (places (length raw)) ≡ map fate_byte (fates key near raw)
  fates-all =
      let all = fates key near raw in
      sym (map-map fate_byte (λ (p : ℕ). get_or all p Kept) (places (length raw)))
      ∙ ap (map fate_byte) (ap (λ (n : ℕ). map (λ (p : ℕ). get_or all p Kept) (places n)) (sym (one_each key near raw)) ∙ read-places Kept all)

  pub mending_ends : {fates_old fates_now kept_now : List ℕ} {count i : ℕ} → Mending fates_old fates_now kept_now count i → length raw ≤ i → length fates_old ≡ length raw
      → WalkedAll none key near raw count fates_now kept_now
  mending_ends {fates_old} {fates_now} {kept_now} {count} {i} m h long =
      let over : length order ≤ i = omega (arith, order-length none key near raw) in
      let nothing : drop i order ≡ [] = drop_of_length-le order over in
      let fits : count ≤ length kept_now = omega (arith, m.few, m.within, m.room) in
      let all : take count kept_now ≡ keepers = walk_ends rows nears (subst (λ (l : List ℕ). Walked rows nears keepers (take count kept_now) l) nothing m.walked) in
      let written : map (entry_at none key near raw) (take count kept_now) ≡ mended key near raw = ap (map (entry_at none key near raw)) all ∙ sym (written_by_places none key near raw) in
      record {
        many = sym (length-take-le count kept_now fits) ∙ sym (length-map (take count kept_now) (entry_at none key near raw)) ∙ ap length written;
        fits = fits;
        fates_are =
            sym (run_none (write_at fate_number) fates_now) ∙ ap (run (write_at fate_number) fates_now) (sym nothing) ∙ m.fates_are
            ∙ written_in_place fate_number rows (length raw) fates_old long ∙ fates-all;
        written = written;
      }
