-- Differences of numbers of two words, by their words. W is the base, held open because `omega` works with no numbers of more than 38 digits. Assumes nothing.
use Rattle.std.proofs.Common.{◌≡◌, ℕ, ◌+◌, ◌-◌, ◌*◌, ◌%◌, ◌^◌, ◌<◌, ◌≤◌, true, false, ltb, sym, ap, inl, inr, mul-le-mul_right, arith, le-ltb, lt-ltb}
use Rattle.ieee.proofs.Closest.{lt_or_ge}
use Rattle.ieee.specs.inside.SumSize.{sum_size}

module _ (W ah al bh bl : ℕ) where
  -- a smaller first word makes a smaller number
  pub less_by_high : al < W → ah < bh → ah * W + al < bh * W + bl
  less_by_high L h = let m = mul-le-mul_right W h in omega arith

  -- no larger a number has no larger a first word
  pub high_le : al < W → bh * W + bl ≤ ah * W + al → bh ≤ ah
  high_le L h = elim (lt_or_ge ah bh) [ inl g ↦ let m = mul-le-mul_right W g in absurd (omega arith) | inr g ↦ g ]

  -- and a smaller one where its second word is larger
  pub high_lt : al < bl → bh * W + bl ≤ ah * W + al → bh < ah
  high_lt L h = elim (lt_or_ge bh ah) [ inl g ↦ g | inr g ↦ let m = mul-le-mul_right W g in absurd (omega arith) ]

  -- of equal first words the second decides
  pub less_by_low : ah ≡ bh → al < bl → ah * W + al < bh * W + bl
  less_by_low e h = let i = ap (λ (x : ℕ). x * W) e in omega arith

  -- and the difference is theirs
  pub low-apart : ah ≡ bh → al < bl → 0 * W + (bl - al) + (ah * W + al) ≡ bh * W + bl
  low-apart e h = let i = ap (λ (x : ℕ). x * W) e in omega arith

  -- neither word less: no less a number
  pub not_less : bl < W → bh ≤ ah → (ah ≡ bh → bl ≤ al) → bh * W + bl ≤ ah * W + al
  not_less L h k = elim (lt_or_ge bh ah) [
    | inl g ↦ let m = mul-le-mul_right W g in omega arith
    | inr g ↦ let e : ah ≡ bh = omega arith in let i = ap (λ (x : ℕ). x * W) e in let l = k e in omega arith
  ]

  -- a difference with a borrow
  pub borrowed : (l : ℕ) → l + bl ≡ al + W → bh < ah → (ah - bh - 1) * W + l + (bh * W + bl) ≡ ah * W + al
  borrowed l e h = let i : ah ≡ ah - bh - 1 + bh + 1 = omega arith in let j = ap (λ (x : ℕ). x * W) i in omega arith

  -- and without
  pub taken : (l : ℕ) → l + bl ≡ al → bh ≤ ah → (ah - bh) * W + l + (bh * W + bl) ≡ ah * W + al
  taken l e h = let i : ah ≡ ah - bh + bh = omega arith in let j = ap (λ (x : ℕ). x * W) i in omega arith

-- a second word that wrapped round
pub wrapped : (l al bl : ℕ) → (l + bl) % 2 ^ 64 ≡ al → l < 2 ^ 64 → bl < 2 ^ 64 → al < bl → l + bl ≡ al + 2 ^ 64
wrapped l al bl e L B h = omega arith

-- and one that did not
pub unwrapped : (l al bl : ℕ) → (l + bl) % 2 ^ 64 ≡ al → l < 2 ^ 64 → bl < 2 ^ 64 → bl ≤ al → l + bl ≡ al
unwrapped l al bl e L B h = omega arith

-- ---- which is larger, and how far they are apart
pub second-larger : (a b w : ℕ) → a < b → w + a ≡ b → (w ≡ sum_size false a b) × (true ≡ ltb a b)
second-larger a b w l e = (omega arith, sym (lt-ltb a b l))

-- where the first is larger, or as large
pub first-larger : (a b w : ℕ) → b ≤ a → w + b ≡ a → (w ≡ sum_size false a b) × (false ≡ ltb a b)
first-larger a b w l e = (omega arith, sym (le-ltb a b l))
