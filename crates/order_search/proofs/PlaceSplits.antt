-- Where a search by quarters ends: within the column, and where all that passes comes before what does not, just between the two. Assumes nothing.
use Rattle.std.proofs.Common.{◌≡◌, ℕ, zero, suc, ◌+◌, ◌-◌, ◌*◌, ◌/◌, ◌<◌, ◌≤◌, Bool, true, false, T, List, length, get_or, sym, refl, ap, ◌∙◌, subst, inl, inr, mul-le-mul_left, mul-add, arith}
use lib.Ieee.{Float, nan, le}
use Rattle.picks.specs.Pick.{pick}
use Rattle.order.proofs.Compare.{below?}
use Rattle.order_search.specs.Search.{how_many, quartered, place_of, SplitBy}
use Rattle.order_search.proofs.HowMany.{how_many_most}
use Rattle.order_search.proofs.Quartered.{gained, left, gained-most, stays, goes_on}

-- ---- all that passes comes first
abbrev pub First : (ℕ → Bool) → ℕ → Type 0
First passes n = (i j : ℕ) → i ≤ j → j < n → passes j ≡ true → passes i ≡ true

fails : (t : Bool) → (t ≡ true → ⊥) → t ≡ false
fails true h = absurd (h refl)
fails false h = refl

-- what stands before a place passes, and what stands from it on does not
record Split (passes : ℕ → Bool) (n place : ℕ) : Type 0 where
  within : place ≤ n
  before : (i : ℕ) → i < place → passes i ≡ true
  after : (i : ℕ) → place ≤ i → i < n → passes i ≡ false

-- so many pass as stand before the first that does not
count-splits : (passes : ℕ → Bool) (n : ℕ) → First passes n → Split passes n (how_many passes n)
unfolding how_many
count-splits passes zero f = record { within = omega arith; before = λ i h. absurd (omega arith); after = λ i h k. absurd (omega arith) }
count-splits passes (suc n) f = go (passes n) refl (count-splits passes n (λ i j h k. f i j h (omega arith)))
  where
    go : (t : Bool) → passes n ≡ t → Split passes n (how_many passes n) → Split passes (suc n) (how_many passes n + pick t 1 0)
    go true e less =
        let all : n ≤ how_many passes n = elim (below? (how_many passes n) n) [
          | inl h ↦ absurd (subst T (sym (f (how_many passes n) n (omega arith) (omega arith) e) ∙ less.after (how_many passes n) (omega arith) h) tt)
          | inr h ↦ h
        ] in
        record { within = omega (arith, less.within); before = λ i h. f i n (omega (arith, less.within)) (omega arith) e; after = λ i h k. absurd (omega arith) }
    go false e less = record {
      within = omega (arith, less.within);
      before = λ i h. less.before i (omega arith);
      after = λ i h k. elim (below? i n) [ inl l ↦ less.after i (omega arith) l | inr l ↦ let last : i ≡ n = omega arith in rw last e ];
    }

module _ (passes : ℕ → Bool) where
  -- ---- whatever passes
  ends-within : (steps base size : ℕ) → quartered passes steps base size ≤ base + size
  unfolding quartered
  ends-within zero base size = omega (arith, how_many_most (λ (i : ℕ). passes (base + i)) size)
  ends-within (suc steps) base size = elim (below? 16 size) [
    | inl h ↦ rw (goes_on passes steps base size h) (omega (arith, gained-most passes base size, ends-within steps (base + gained passes base size) (left passes size)))
    | inr h ↦ rw (stays passes (suc steps) base size h) (omega (arith, how_many_most (λ (i : ℕ). passes (base + i)) size))
  ]

  -- ---- where all that passes comes first
  module _ (n : ℕ) (f : First passes n) where
    -- the search is among the entries from a place on
    record Among (base size : ℕ) : Type 0 where
      within : base + size ≤ n
      before : (i : ℕ) → i < base → passes i ≡ true
      after : (i : ℕ) → base + size ≤ i → i < n → passes i ≡ false

    module _ (base size : ℕ) (a : Among base size) where
      counted : Split passes n (base + how_many (λ (i : ℕ). passes (base + i)) size)
      counted =
          let inside = a.within in
          let count = count-splits (λ (i : ℕ). passes (base + i)) size (λ i j h k. f (base + i) (base + j) (omega arith) (omega arith)) in
          record {
            within = omega (arith, count.within);
            before = λ i h. elim (below? i base) [ inl l ↦ a.before i l | inr l ↦ let here : base + (i - base) ≡ i = omega arith in rw here at (count.before (i - base) (omega arith)) ];
            after = λ i h k. elim (below? i (base + size)) [
              | inl l ↦ let here : base + (i - base) ≡ i = omega arith in rw here at (count.after (i - base) (omega arith) (omega arith))
              | inr l ↦ a.after i l k
            ];
          }

      -- by how many of the quarters pass
      abbrev part : ℕ
      part = size / 4

      abbrev mark : ℕ → ℕ
      mark i = base + part * (i + 1) - 1

      abbrev count : ℕ
      count = how_many (λ (i : ℕ). passes (mark i)) 3

      module _ (more : 16 < size) where
        marks : Split (λ (i : ℕ). passes (mark i)) 3 count
        marks = count-splits (λ (i : ℕ). passes (mark i)) 3 (λ i j h k. f (mark i) (mark j) (omega (arith, mul-le-mul_left part (suc_le h))) (omega (arith, a.within, mul-le-mul_left part (below-three j k))))
          where
            suc_le : {i j : ℕ} → i ≤ j → i + 1 ≤ j + 1
            suc_le h = omega arith

            below-three : (j : ℕ) → j < 3 → j + 1 ≤ 3
            below-three j h = omega arith

        among : Among (base + gained passes base size) (left passes size)
        among = record {
          within = omega (arith, a.within, gained-most passes base size);
          before = λ i h. elim (below? 0 count) [
            | inl some ↦
                let last : part * (count - 1 + 1) ≡ part * count = ap (◌*◌ part) (omega arith) in
                f i (mark (count - 1)) (omega arith) (omega (arith, a.within, gained-most passes base size)) (marks.before (count - 1) (omega arith))
            | inr none ↦ let nothing : part * count ≤ part * 0 = mul-le-mul_left part none in a.before i (omega arith)
          ];
          after = λ i h k. elim (below? count 3) [
            | inl less ↦
                let next : mark count ≤ i = omega (arith, mul-add part count 1) in
                fails (passes i) (λ e. subst T (sym (f (mark count) i next k e) ∙ marks.after count (omega arith) less) tt)
            | inr all ↦ let whole : part * 3 ≤ part * count = mul-le-mul_left part all in a.after i (omega arith) k
          ];
        }

    splits : (steps base size : ℕ) → size ≤ steps → Among base size → Split passes n (quartered passes steps base size)
    splits zero base size h a = rw (stays passes zero base size (omega arith)) (counted base size a)
    splits (suc steps) base size h a = elim (below? 16 size) [
      | inl more ↦ rw (goes_on passes steps base size more) (splits steps (base + gained passes base size) (left passes size) (omega arith) (among base size a more))
      | inr few ↦ rw (stays passes (suc steps) base size few) (counted base size a)
    ]

    all : Among 0 n
    all = record { within = omega arith; before = λ i h. absurd (omega arith); after = λ i h k. absurd (omega arith) }

-- ---- of numbers
module _ (at : Float) (column : List Float) where
  abbrev passes : ℕ → Bool
  passes i = le (get_or column i nan) at

  pub place-within : place_of at column ≤ length column
  unfolding place_of
  place-within = omega (arith, ends-within passes (length column) 0 (length column))

  pub place-splits : First passes (length column) → SplitBy at column (place_of at column)
  unfolding place_of
  place-splits f =
      let s = splits passes (length column) f (length column) 0 (length column) (omega arith) (all passes (length column) f) in
      record { within = s.within; before = s.before; after = s.after }
