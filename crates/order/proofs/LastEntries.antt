-- The last entries of equal keys, further laws: a list that has entries keeps one, entries may be renamed, and all that are not kept are repeats of
-- the next key, which a loop over neighbours counts. Assumes nothing.
use mathlib.Core.Path.{◌≡◌, refl, ap, sym, ◌∙◌}
use mathlib.Core.List.{List, [], ◌∷◌, map}
use mathlib.Core.Logic.{⊎_elim}
use Prim.Native.Nat.{ℕ, ◌+◌, ◌-◌, ◌≤◌, ◌<◌}
use native.Mathlib.Omega.{arith}
use borrow.Author.Tests.{eq-eqb, ne_eqb}
use lib.Dec.{eqb}
use lib.ListN.{length, get_or, drop, length-map, length-drop}
use Rattle.picks.specs.Pick.{pick}
use Rattle.order.specs.Order.{lasts}
use Rattle.order.specs.Entries.{entries, first}
use Rattle.order.proofs.Compare.{same?}
use Rattle.order.proofs.OrderedList.{through}
use Rattle.order.proofs.Columns.{first-entries}
use Rattle.order.proofs.TidiedList.{lasts_nil, lasts-one, lasts-same, lasts-other, lasts_skip, lasts-keep, length-lasts}

-- ---- one repeat, as 0 or 1
pub repeat_few : (a b : ℕ) {same : ℕ} → same ≡ pick (eqb a b) 1 0 → same ≤ 1
repeat_few a b e = ⊎_elim (λ t. omega (arith, rw (eq-eqb a b t) at e)) (λ t. omega (arith, rw (ne_eqb a b t) at e)) (same? a b)

-- ---- what is kept
module _ {A : Type 0} (key : A → ℕ) where
  pub lasts-some : (l : List A) → 0 < length l → 0 < length (lasts key l)
  lasts-some [] h = absurd (omega arith)
  lasts-some (x ∷ []) h = rw (lasts-one key x) (omega arith)
  lasts-some (x ∷ y ∷ l) h =
      ⊎_elim (λ e. rw (lasts-same key x y l e) (lasts-some (y ∷ l) (omega arith))) (λ n. rw (lasts-other key x y l n) (omega arith))
      (same? (key x) (key y))

  -- one that keeps as many as it has is kept whole
  pub lasts-whole : (l : List A) → length (lasts key l) ≡ length l → lasts key l ≡ l
  lasts-whole [] h = lasts_nil key
  lasts-whole (x ∷ []) h = lasts-one key x
  lasts-whole (x ∷ y ∷ l) h =
      ⊎_elim (λ e. absurd (omega (arith, length-lasts key (y ∷ l), rw (lasts-same key x y l e) at h)))
      (λ n. lasts-other key x y l n ∙ ap (◌∷◌ x) (lasts-whole (y ∷ l) (omega (arith, rw (lasts-other key x y l n) at h))))
      (same? (key x) (key y))

  -- ---- after i neighbours, of which so many repeat the next key
  pub record Repeats (xs : List A) (i repeats : ℕ) : Type 0 where
    pub few : repeats ≤ i
    pub kept : repeats + length (lasts key xs) ≡ i + length (lasts key (drop i xs))

  pub repeats_none : {xs : List A} → Repeats xs 0 0
  repeats_none = record { few = omega arith; kept = refl }

  pub repeats_turn : (none : A) {xs : List A} {i repeats same : ℕ} → i + 1 < length xs → same ≡ pick (eqb (key (get_or xs i none)) (key (get_or xs (i + 1) none))) 1 0
      → Repeats xs i repeats → Repeats xs (i + 1) (repeats + same)
  repeats_turn none {xs} {i} {repeats} {same} h e p =
      let a = key (get_or xs i none) in
      let b = key (get_or xs (i + 1) none) in
      let here : i < length xs = omega arith in
      record {
        few = omega (arith, p.few, repeat_few a b e);
        kept =
            ⊎_elim (λ t. omega (arith, p.kept, rw (eq-eqb a b t) at e, ap length (lasts_skip key none xs i here h t)))
            (λ t. omega (arith, p.kept, rw (ne_eqb a b t) at e, ap length (lasts-keep key none xs i here h t)))
            (same? a b);
      }

  all-kept : (l : List A) → length l ≤ 1 → length (lasts key l) ≡ length l
  all-kept [] h = rw (lasts_nil key)
  all-kept (x ∷ []) h = rw (lasts-one key x)
  all-kept (x ∷ y ∷ l) h = absurd (omega arith)

  pub repeats_all : {xs : List A} {i repeats : ℕ} → i ≤ length xs → length xs ≤ i + 1 → Repeats xs i repeats → repeats + length (lasts key xs) ≡ length xs
  repeats_all {xs} {i} h k p =
      let left : length (drop i xs) ≡ length xs - i = length-drop i xs in
      omega (arith, p.kept, all-kept (drop i xs) (omega arith))

-- ---- entries by other names
module _ {A B : Type 0} (g : A → B) (key : B → ℕ) where
  pub lasts-map : (l : List A) → lasts key (map g l) ≡ map g (lasts (through g key) l)
  lasts-map [] = rw (lasts_nil key, lasts_nil (through g key))
  lasts-map (x ∷ []) = rw (lasts-one key (g x), lasts-one (through g key) x)
  lasts-map (x ∷ y ∷ l) =
      ⊎_elim (λ e. rw (lasts-same key (g x) (g y) (map g l) e, lasts-same (through g key) x y l e) (lasts-map (y ∷ l)))
      (λ n. rw (lasts-other key (g x) (g y) (map g l) n, lasts-other (through g key) x y l n) (ap (◌∷◌ (g x)) (lasts-map (y ∷ l))))
      (same? (key (g x)) (key (g y)))

  pub length_lasts_map : (l : List A) → length (lasts key (map g l)) ≡ length (lasts (through g key) l)
  length_lasts_map l = ap length (lasts-map l) ∙ length-map (lasts (through g key) l) g

-- ---- of two columns, by the first
pub length_lasts_entries : {A B : Type 0} (key : A → ℕ) (firsts : List A) (seconds : List B) → length firsts ≡ length seconds
    → length (lasts (λ (e : A × B). key (first e)) (entries firsts seconds)) ≡ length (lasts key firsts)
length_lasts_entries {A} key firsts seconds same =
    sym (length_lasts_map first key (entries firsts seconds)) ∙ ap (λ (l : List A). length (lasts key l)) (first-entries firsts seconds same)
