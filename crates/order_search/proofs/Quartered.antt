-- The search by quarters as a loop: what is left of it ends where the whole one does, and within the column. Assumes nothing.
use Rattle.std.proofs.Common.{◌≡◌, ℕ, zero, suc, ◌+◌, ◌-◌, ◌*◌, ◌/◌, ◌<◌, ◌≤◌, Bool, sym, refl, ◌∙◌, mul-le-mul_left, arith, le-ltb, lt-ltb}
use Rattle.order_search.specs.Search.{how_many, quartered}
use Rattle.order_search.proofs.HowMany.{how_many_most}

module _ (passes : ℕ → Bool) where
  -- what a step adds to the entries that pass, and the entries that are left
  abbrev pub gained : ℕ → ℕ → ℕ
  gained base size = size / 4 * how_many (λ (i : ℕ). passes (base + size / 4 * (i + 1) - 1)) 3

  abbrev pub left : ℕ → ℕ
  left size = size - size / 4 * 3

  pub gained-most : (base size : ℕ) → gained base size ≤ size / 4 * 3
  gained-most base size = mul-le-mul_left (size / 4) (how_many_most (λ (i : ℕ). passes (base + size / 4 * (i + 1) - 1)) 3)

  pub stays : (steps base size : ℕ) → size ≤ 16 → quartered passes steps base size ≡ base + how_many (λ (i : ℕ). passes (base + i)) size
  unfolding quartered
  stays zero base size h = refl
  stays (suc steps) base size h = rw (le-ltb 16 size h)

  pub goes_on : (steps base size : ℕ) → 16 < size → quartered passes (suc steps) base size ≡ quartered passes steps (base + gained base size) (left size)
  unfolding quartered
  goes_on steps base size h = rw (lt-ltb 16 size h)

  module _ (n : ℕ) where
    pub record Quartering (base size : ℕ) : Type 0 where
      pub steps : ℕ
      pub within : base + size ≤ n
      pub enough : size ≤ steps
      pub same : quartered passes steps base size ≡ quartered passes n 0 n

    pub quartering_all : Quartering 0 n
    quartering_all = record { steps = n; within = omega arith; enough = omega arith; same = refl }

    module _ (base size : ℕ) (s : Quartering base size) where
      pub quartering_on : 16 < size → Quartering (base + gained base size) (left size)
      quartering_on more = go s.steps s.enough s.same
        where
          go : (steps : ℕ) → size ≤ steps → quartered passes steps base size ≡ quartered passes n 0 n → Quartering (base + gained base size) (left size)
          go zero h e = absurd (omega arith)
          go (suc steps) h e = record { steps = steps; within = omega (arith, gained-most base size, s.within); enough = omega arith; same = sym (goes_on steps base size more) ∙ e }

      pub quartering_ends : size ≤ 16 → base + how_many (λ (i : ℕ). passes (base + i)) size ≡ quartered passes n 0 n
      quartering_ends few = sym (stays s.steps base size few) ∙ s.same
