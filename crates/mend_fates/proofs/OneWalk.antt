-- The walk in the order of rows: it keeps the written list, and gives each entry the fate that it has in that order. Assumes nothing.
use mathlib.Core.Path.{◌≡◌, refl, ap, sym, ◌∙◌}
use mathlib.Core.Bool.{Bool, true, false}
use mathlib.Core.List.{List, [], ◌∷◌, ◌++◌, append_assoc, append-nil}
use mathlib.Core.Logic.{⊎_elim}
use Prim.Native.Nat.{ℕ, suc, ◌≤◌, ◌<◌}
use native.Mathlib.Omega.{arith}
use borrow.Author.Tests.{eq-eqb, ne_eqb}
use Rattle.order.specs.Order.{ordered, is_last, lasts, the_last, From, NeverFalls}
use Rattle.order.proofs.Compare.{same?}
use Rattle.order.proofs.OrderedList.{from_le, from_zero, only_above, ordered_never_falls}
use Rattle.order.proofs.TidiedList.{lasts_nil, lasts-one, lasts-same, lasts-other}
use Rattle.mend_fates.specs.Mending.{thinned_after, thinned, mended, some_on, last_below, near_one, fate_in}
use Rattle.mend_fates.specs.inside.Walking.{walk_fate, kept_behind}
use Rattle.mend_fates.proofs.WrittenList.{near?, thinned-none, thinned-near, thinned-far, last-below, last_not_below}
use Rattle.mend_fates.proofs.KeptAreWritten.{none-on, some_on_same}

module _ {A : Type 0} (key : A → ℕ) (near : A → A → Bool) where
  -- every key is below j
  abbrev pub Under : ℕ → List A → Type 0
  Under j [] = Unit {0}
  Under j (x ∷ list) = (key x < j) × Under j list

  under_le : (j k : ℕ) (list : List A) → j ≤ k → Under j list → Under k list
  under_le j k [] h p = tt
  under_le j k (x ∷ list) h p = (omega (arith, p.0), under_le j k list h p.1)

  under_one : (k : ℕ) (list : List A) (x : A) → Under k list → key x < k → Under k (list ++ x ∷ [])
  under_one k [] x p h = (h, tt)
  under_one k (y ∷ list) x p h = (p.0, under_one k list x p.1 h)

  -- ---- the last of its row, in order
  next-same : (x : A) (rest : List A) → NeverFalls key (x ∷ rest) → is_last key x rest ≡ false → some_on key (key x) rest ≡ true
  unfolding is_last
  next-same x [] p e = absurd (let z : ◌≡◌ {A = ℕ} 0 1 = cc in omega arith)
  next-same x (y ∷ rest) p e =
      ⊎_elim (λ t. some_on_same key near (key x) y rest (sym t)) (λ n. absurd (let z : ◌≡◌ {A = ℕ} 0 1 = cc (ne_eqb (key x) (key y) n) in omega arith)) (same? (key x) (key y))

  -- so all that follow are on later rows
  pub last-rises : (x : A) (rest : List A) → NeverFalls key (x ∷ rest) → is_last key x rest ≡ true → From key (suc (key x)) rest
  unfolding is_last
  last-rises x [] p e = tt
  last-rises x (y ∷ rest) p e =
      ⊎_elim (λ t. absurd (let z : ◌≡◌ {A = ℕ} 0 1 = cc (eq-eqb (key x) (key y) t) in omega arith))
      (λ n. let less : suc (key x) ≤ key y = omega (arith, p.0.0, n) in (less, from_le key (suc (key x)) (key y) rest less p.1.0))
      (same? (key x) (key y))

  next-other : (x : A) (rest : List A) → NeverFalls key (x ∷ rest) → is_last key x rest ≡ true → some_on key (key x) rest ≡ false
  next-other x rest p e = none-on key near (key x) rest (only_above key (key x) rest (last-rises x rest p e))

  lasts-skipped : (x : A) (rest : List A) → is_last key x rest ≡ false → lasts key (x ∷ rest) ≡ lasts key rest
  unfolding lasts
  lasts-skipped x rest e = rw e

  lasts-kept : (x : A) (rest : List A) → is_last key x rest ≡ true → lasts key (x ∷ rest) ≡ x ∷ lasts key rest
  unfolding lasts
  lasts-kept x rest e = rw e

  -- ---- what is kept of entries from a row on is from that row on
  from-lasts : (k : ℕ) (list : List A) → From key k list → From key k (lasts key list)
  from-lasts k [] p = rw (lasts_nil key) tt
  from-lasts k (x ∷ []) p = rw (lasts-one key x) p
  from-lasts k (x ∷ y ∷ list) p =
      ⊎_elim (λ e. rw (lasts-same key x y list e) (from-lasts k (y ∷ list) p.1)) (λ n. rw (lasts-other key x y list n) (p.0, from-lasts k (y ∷ list) p.1))
      (same? (key x) (key y))

  from-thinned : (k : ℕ) (last : A) (list : List A) → From key k list → From key k (thinned_after near last list)
  from-thinned k last [] p = rw (thinned-none key near last) tt
  from-thinned k last (x ∷ list) p =
      near? key near x last (λ e. rw (thinned-near key near last x list e) (from-thinned k last list p.1)) (λ e. rw (thinned-far key near last x list e) (p.0, from-thinned k x list p.1))

  from-behind : (k : ℕ) (before rest : List A) → From key k rest → From key k (kept_behind key near before rest)
  unfolding kept_behind thinned
  from-behind k [] rest p = all (lasts key rest) (from-lasts k rest p)
    where
      all : (list : List A) → From key k list → From key k (thinned near list)
      all [] q = tt
      all (x ∷ list) q = (q.0, from-thinned k x list q.1)
  from-behind k (last ∷ before) rest p = from-thinned k last (lasts key rest) (from-lasts k rest p)

  -- ---- the last one below a row, behind those that are kept so far
  last_none : (k : ℕ) (other list : List A) → From key k list → last_below key k other list ≡ other
  last_none k other [] p = unfold last_below in refl
  last_none k other (x ∷ list) p = last_not_below key near k other x list p.0 ∙ last_none k other list p.1

  last_of_front : (k : ℕ) (other front list : List A) → Under k front → From key k list → last_below key k other (front ++ list) ≡ the_last other front
  unfolding the_last
  last_of_front k other [] list u f = last_none k other list f
  last_of_front k other (x ∷ front) list u f = last-below key near k other x (front ++ list) u.0 ∙ last_of_front k (x ∷ []) front list u.1 f

  the_last_behind : (other front : List A) (x : A) → the_last other (front ++ x ∷ []) ≡ x ∷ []
  unfolding the_last
  the_last_behind other [] x = refl
  the_last_behind other (y ∷ front) x = the_last_behind (y ∷ []) front x

  -- ---- THE WALK: `front` are kept, `rest` are still to come, and together they make the written list
  pub record Walked (written front rest : List A) : Type 0 where
    pub row : ℕ
    pub before : Under row front
    pub behind : From key row rest
    pub order : NeverFalls key rest
    pub all : front ++ kept_behind key near (the_last [] front) rest ≡ written

  pub walk_begins : (raw : List A) → Walked (mended key near raw) [] (ordered key raw)
  unfolding mended kept_behind the_last
  walk_begins raw = record { row = 0; before = tt; behind = from_zero key (ordered key raw); order = ordered_never_falls key raw; all = refl }

  module _ {written front rest : List A} {x : A} (p : Walked written front (x ∷ rest)) where
    abbrev last : List A
    last = the_last [] front

    less : Under (key x) front
    less = under_le p.row (key x) front p.behind.0 p.before

    -- one that the next replaces
    pub walk_replaced : is_last key x rest ≡ false → Walked written front rest
    walk_replaced e = record {
      row = key x;
      before = less;
      behind = p.order.0;
      order = p.order.1;
      all = ap (λ (l : List A). front ++ l) (sym (same last)) ∙ p.all;
    }
      where
        same : (before : List A) → kept_behind key near before (x ∷ rest) ≡ kept_behind key near before rest
        same [] = unfold kept_behind in (ap (thinned near) (lasts-skipped x rest e))
        same (y ∷ before) = unfold kept_behind in (ap (thinned_after near y) (lasts-skipped x rest e))

    -- one that is near the last one kept
    pub walk-merged : is_last key x rest ≡ true → near_one near x last ≡ true → Walked written front rest
    walk-merged e n = record {
      row = key x;
      before = less;
      behind = p.order.0;
      order = p.order.1;
      all = ap (λ (l : List A). front ++ l) (sym (same last n)) ∙ p.all;
    }
      where
        same : (before : List A) → near_one near x before ≡ true → kept_behind key near before (x ∷ rest) ≡ kept_behind key near before rest
        same [] n = absurd (let z : ◌≡◌ {A = ℕ} 0 1 = unfold near_one in cc in omega arith)
        same (y ∷ before) n = unfold kept_behind near_one in (ap (thinned_after near y) (lasts-kept x rest e) ∙ thinned-near key near y x (lasts key rest) n)

    -- one that is kept
    pub walk_kept : is_last key x rest ≡ true → near_one near x last ≡ false → Walked written (front ++ x ∷ []) rest
    walk_kept e n = record {
      row = suc (key x);
      before = under_one (suc (key x)) front x (under_le (key x) (suc (key x)) front (omega arith) less) (omega arith);
      behind = last-rises x rest p.order e;
      order = p.order.1;
      all =
          append_assoc front (x ∷ []) (kept_behind key near (the_last [] (front ++ x ∷ [])) rest)
          ∙ ap (λ (l : List A). front ++ x ∷ kept_behind key near l rest) (the_last_behind [] front x)
          ∙ ap (λ (l : List A). front ++ l) (sym (more last n)) ∙ p.all;
    }
      where
        more : (before : List A) → near_one near x before ≡ false → kept_behind key near before (x ∷ rest) ≡ x ∷ kept_behind key near (x ∷ []) rest
        more [] n = unfold kept_behind thinned in (ap (thinned near) (lasts-kept x rest e))
        more (y ∷ before) n = unfold kept_behind near_one in (ap (thinned_after near y) (lasts-kept x rest e) ∙ thinned-far key near y x (lasts key rest) n)

    -- ---- the fate of an entry among those that follow it in order
    below : last_below key (key x) [] written ≡ last
    below =
        ap (last_below key (key x) []) (sym p.all)
        ∙ last_of_front (key x) [] front (kept_behind key near last (x ∷ rest)) less (from-behind (key x) last (x ∷ rest) (omega arith, p.order.0))

    pub walk_fate_lem : fate_in key near written x rest ≡ walk_fate key near last x rest
    walk_fate_lem = by (is_last key x rest) refl
      where
        by : (b : Bool) → is_last key x rest ≡ b → fate_in key near written x rest ≡ walk_fate key near last x rest
        by true e = unfold fate_in walk_fate in (rw (next-other x rest p.order e, e, below))
        by false e = unfold fate_in walk_fate in (rw (next-same x rest p.order e, e))

  -- all that was to come has come
  pub walk_ends : {written front : List A} → Walked written front [] → front ≡ written
  walk_ends {written} {front} p = sym (append-nil front) ∙ ap (λ (l : List A). front ++ l) (sym (none (the_last [] front))) ∙ p.all
    where
      none : (before : List A) → kept_behind key near before [] ≡ []
      none [] = unfold kept_behind thinned in (ap (thinned near) (lasts_nil key))
      none (x ∷ before) = unfold kept_behind in (ap (thinned_after near x) (lasts_nil key) ∙ thinned-none key near x)
