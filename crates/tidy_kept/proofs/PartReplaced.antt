-- A part of the first entries of a column replaced: a loop that opens a place, one that closes a gap, and the two together. Assumes nothing.
use mathlib.Core.Path.{◌≡◌, refl, ap, sym, ◌∙◌}
use mathlib.Core.Bool.{Bool, true, false}
use borrow.Author.Tests.{lt-ltb, le-leb}
use mathlib.Core.List.{List, [], ◌∷◌, ◌++◌, append_assoc}
use Prim.Native.Nat.{ℕ, suc, ◌+◌, ◌-◌, ◌≤◌, ◌<◌}
use native.Mathlib.Omega.{arith}
use native.Mathlib.Numerals.{add-one}
use lib.ListN.{length, take, drop, set, get_or, length-set, length-take, length-append, length-drop, drop_of_length-le, take-append-drop}
use lib.Seq.{set_split, take-take, take-set-le, take-set-lt, take-suc-set, drop-set-lt, get_or-take, get_or-drop, drop-cons, drop_at, length-take-le, append_snoc}
use Rattle.order.specs.Order.{laid}
use Rattle.order.proofs.LaidOverFront.{Laying, laying-more, laying-all}
use Rattle.tidy_kept.specs.Changing.{spliced, spliced_in}

module _ {A : Type 0} where
  abbrev pub opened : List A → ℕ → ℕ → A → List A
  opened old n at x = laid (take at (take n old) ++ (x ∷ drop at (take n old))) old

  abbrev pub shut : List A → ℕ → ℕ → ℕ → List A
  shut old n low high = take low (take n old) ++ drop high (take n old)

  -- ---- a place opened: those above i have moved on, those up to i have not
  pub record Opening (old : List A) (n : ℕ) (out : List A) (i : ℕ) : Type 0 where
    pub size : length out ≡ length old
    pub front : take i out ≡ take i old
    pub back : drop (suc i) out ≡ drop i (take n old) ++ drop (suc n) old

  -- ---- a gap closed: what stands from i on goes to the places from `to` on
  pub record Closing (old : List A) (n low high : ℕ) (out : List A) (to i : ℕ) : Type 0 where
    pub gap : to ≤ i
    pub up_to : i ≤ n
    pub laying : Laying (shut old n low high) old out (drop i (take n old)) to

  module _ (none : A) (old : List A) (n : ℕ) (room : n < length old) where
    pub opening-none : Opening old n old n
    opening-none =
        let few : length (take n old) ≤ n = simp length-take (omega arith) in
        record { size = refl; front = refl; back = ap (λ (l : List A). l ++ drop (suc n) old) (sym (drop_of_length-le (take n old) few)) }

    drop-set : (xs : List A) (i : ℕ) (x : A) → i < length xs → drop i (set xs i x) ≡ x ∷ drop (suc i) xs
    drop-set xs i x h = ap (drop i) (set_split xs i x h) ∙ drop_at (take i xs) (x ∷ drop (suc i) xs) i (length-take-le i xs (omega arith))

    opening-step : (out : List A) (j : ℕ) → suc j ≤ n → Opening old n out (suc j) → Opening old n (set out (suc j) (get_or out j none)) j
    opening-step out j h m =
        let in_out : suc j < length out = omega (arith, m.size) in
        let same : get_or out j none ≡ get_or (take n old) j none =
        sym (get_or-take (suc j) out j none (omega arith)) ∙ ap (λ (l : List A). get_or l j none) m.front ∙ get_or-take (suc j) old j none (omega arith)
        ∙ sym (get_or-take n old j none (omega arith)) in
        let in_old : j < length (take n old) = simp length-take (omega arith) in
        record {
          size = length-set out (suc j) (get_or out j none) ∙ m.size;
          front = take-set-le j out (suc j) (get_or out j none) (omega arith) ∙ sym (take-take j (suc j) out (omega arith)) ∙ ap (take j) m.front ∙ take-take j (suc j) old (omega arith);
          back = drop-set out (suc j) (get_or out j none) in_out ∙ rw (m.back, same, drop-cons (take n old) j none in_old);
        }

    pub opening-more : (out : List A) (i j : ℕ) → i ≡ suc j → i ≤ n → Opening old n out i → Opening old n (set out i (get_or out j none)) j
    opening-more out i j e h m = rw e (opening-step out j (omega arith) (rw e at m))

    length_part : (at : ℕ) (x : A) → at ≤ n → length (take at (take n old) ++ (x ∷ drop at (take n old))) ≡ suc n
    length_part at x h =
        let whole : length (take n old) ≡ n = length-take-le n old (omega arith) in
        length-append (take at (take n old)) (x ∷ drop at (take n old)) ∙ omega (arith, whole, length-take-le at (take n old) (omega arith), length-drop at (take n old))

    pub opening-all : (out : List A) (i at : ℕ) (x : A) → i ≤ n → i ≡ at → Opening old n out i → set out i x ≡ opened old n at x
    unfolding laid
    opening-all out i at x h e m =
        set_split out i x (omega (arith, m.size))
        ∙ rw (m.front, m.back, e, length_part at x (omega arith), ← take-take at n old (omega arith)) (sym (append_assoc (take at (take n old)) (x ∷ drop at (take n old)) (drop (suc n) old)))

    -- ---- closing
    module _ (low high : ℕ) (fits : low ≤ high) (within : high ≤ n) where
      pub closing_none : Closing old n low high old low high
      closing_none =
          record {
            gap = fits;
            up_to = within;
            laying = record { size = refl; within = omega arith; done = rw (take-take low n old (omega arith)); rest = refl };
          }

      pub closing_more : (out : List A) (to i : ℕ) → i < n → Closing old n low high out to i → Closing old n low high (set out to (get_or out i none)) (to + 1) (i + 1)
      closing_more out to i h m =
          let gap : to ≤ i = m.gap in
          let far : i ≡ to + (i - to) = omega arith in
          let in_old : i < length (take n old) = simp length-take (omega arith) in
          let same : get_or (take n old) i none ≡ get_or out i none =
          get_or-take n old i none h ∙ ap (λ (k : ℕ). get_or old k none) far ∙ sym (get_or-drop to old (i - to) none) ∙ ap (λ (l : List A). get_or l (i - to) none) (sym m.laying.rest)
          ∙ get_or-drop to out (i - to) none ∙ ap (λ (k : ℕ). get_or out k none) (sym far) in
          record {
            gap = omega arith;
            up_to = omega arith;
            laying =
                laying-more (shut old n low high) old out (drop i (take n old)) to m.laying (get_or out i none) (drop (i + 1) (take n old))
                (drop-cons (take n old) i none in_old ∙ rw (same, add-one i)) (omega (arith, m.laying.size));
          }

      pub closing_all : (out : List A) (to i : ℕ) → n ≤ i → Closing old n low high out to i → out ≡ laid (shut old n low high) old
      closing_all out to i h m =
          laying-all (shut old n low high) old out (drop i (take n old)) to m.laying past
        where
          past : drop i (take n old) ≡ []
          past = let few : length (take n old) ≤ i = simp length-take (omega arith) in drop_of_length-le (take n old) few

      -- where there is no gap nothing is to be done
      pub no_gap : low ≡ high → old ≡ laid (shut old n low high) old
      unfolding laid
      no_gap e =
          let whole : shut old n low high ≡ take n old = rw (← e) (take-append-drop low (take n old)) in
          sym (rw (whole, length-take-le n old (omega arith)) (take-append-drop n old))

      -- one place written, the rest of the gap closed
      pub written_over : (x : A) → low < high → laid (shut (set old low x) n (low + 1) high) (set old low x) ≡ laid (take low (take n old) ++ (x ∷ drop high (take n old))) old
      unfolding laid
      written_over x h =
          let front : take (low + 1) (take n (set old low x)) ≡ take low (take n old) ++ (x ∷ []) =
          take-take (low + 1) n (set old low x) (omega arith) ∙ rw (add-one low, take-suc-set old low x (omega arith), take-take low n old (omega arith)) in
          let back : drop high (take n (set old low x)) ≡ drop high (take n old) = dropped in
          let part : shut (set old low x) n (low + 1) high ≡ take low (take n old) ++ (x ∷ drop high (take n old)) =
          rw (front, back) (append_snoc (take low (take n old)) x (drop high (take n old))) in
          rw (part) (ap (λ (l : List A). (take low (take n old) ++ (x ∷ drop high (take n old))) ++ l) (drop-set-lt (length (take low (take n old) ++ (x ∷ drop high (take n old)))) old low x longer))
        where
          longer : low < length (take low (take n old) ++ (x ∷ drop high (take n old)))
          longer = simp (length-append, length-take) (omega arith)

          dropped : drop high (take n (set old low x)) ≡ drop high (take n old)
          dropped = rw (take-set-lt n old low x (omega arith)) (drop-set-lt high (take n old) low x h)

      -- ---- what `splice` is to leave, by its ways
      spliced_so : (comes : Bool) (x : A) → laid (spliced low high comes x (take n old)) old ≡ spliced_in n low high comes x old
      unfolding spliced_in
      spliced_so comes x = rw (lt-ltb n (length old) room, le-leb high n within, le-leb low high fits)

      pub spliced-opened : (x : A) → low ≡ high → opened old n low x ≡ spliced_in n low high true x old
      unfolding spliced
      spliced-opened x e = ap (λ (k : ℕ). laid (take low (take n old) ++ (x ∷ drop k (take n old))) old) e ∙ spliced_so true x

      pub spliced-over : (x : A) → low < high → laid (shut (set old low x) n (low + 1) high) (set old low x) ≡ spliced_in n low high true x old
      unfolding spliced
      spliced-over x h = written_over x h ∙ spliced_so true x

      pub spliced-shut : (x : A) → laid (shut old n low high) old ≡ spliced_in n low high false x old
      unfolding spliced
      spliced-shut x = spliced_so false x
