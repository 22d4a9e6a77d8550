-- Keys that pass a test, counted from one on: a count in two parts, where all pass or none, of two tests, and around keys that all pass. Assumes nothing.
use Rattle.std.proofs.Common.{◌≡◌, ℕ, zero, suc, ◌+◌, ◌-◌, ◌<◌, ◌≤◌, Bool, true, false, refl, ap, ◌∙◌, add-zero, zero-add, arith}
use Rattle.picks.specs.Pick.{pick}

-- of the n keys from k on, how many pass a test
unfoldable pub keys_from : (ℕ → Bool) → ℕ → ℕ → ℕ
keys_from test k zero = 0
keys_from test k (suc n) = pick (test k) 1 0 + keys_from test (suc k) n

module _ (test : ℕ → Bool) where
  keys-zero : (k : ℕ) → keys_from test k 0 ≡ 0
  unfolding keys_from
  keys-zero k = refl

  keys_suc : (k n : ℕ) → keys_from test k (suc n) ≡ pick (test k) 1 0 + keys_from test (suc k) n
  unfolding keys_from
  keys_suc k n = refl

  keys-split : (k n m : ℕ) → keys_from test k (n + m) ≡ keys_from test k n + keys_from test (k + n) m
  keys-split k zero m = rw (keys-zero k, zero-add m, add-zero k) (omega arith)
  keys-split k (suc n) m =
      let whole : suc n + m ≡ suc (n + m) = omega arith in
      let next : k + suc n ≡ suc k + n = omega arith in
      rw (whole, next) (omega (arith, keys_suc k (n + m), keys_suc k n, keys-split (suc k) n m))

  keys-all : (k n : ℕ) → ((j : ℕ) → k ≤ j → j < k + n → test j ≡ true) → keys_from test k n ≡ n
  unfolding keys_from
  keys-all k zero h = refl
  keys-all k (suc n) h = rw (h k (omega arith) (omega arith), keys-all (suc k) n (λ j l m. h j (omega arith) (omega arith))) (omega arith)

  pub keys_none : (k n : ℕ) → ((j : ℕ) → k ≤ j → j < k + n → test j ≡ false) → keys_from test k n ≡ 0
  unfolding keys_from
  keys_none k zero h = refl
  keys_none k (suc n) h = rw (h k (omega arith) (omega arith), keys_none (suc k) n (λ j l m. h j (omega arith) (omega arith)))

module _ (test other : ℕ → Bool) where
  pub keys-agree : (k n : ℕ) → ((j : ℕ) → k ≤ j → j < k + n → test j ≡ other j) → keys_from test k n ≡ keys_from other k n
  unfolding keys_from
  keys-agree k zero h = refl
  keys-agree k (suc n) h = rw (h k (omega arith) (omega arith), keys-agree (suc k) n (λ j l m. h j (omega arith) (omega arith)))

  fewer : (a b : Bool) → (a ≡ true → b ≡ true) → pick a 1 0 ≤ pick b 1 0
  fewer true b h = rw (h refl) (omega arith)
  fewer false b h = omega arith

  pub keys-fewer : (k n : ℕ) → ((j : ℕ) → test j ≡ true → other j ≡ true) → keys_from test k n ≤ keys_from other k n
  unfolding keys_from
  keys-fewer k zero h = omega arith
  keys-fewer k (suc n) h = omega (arith, fewer (test k) (other k) (h k), keys-fewer (suc k) n h)

-- ---- of the n keys from far on, those from first up to last pass a test; there is another test for what lies behind
module _ (test rest : ℕ → Bool) (far first last n : ℕ) (after : far ≤ first) (some : first < last) (fits : last ≤ far + n)
    (within : (j : ℕ) → first ≤ j → j < last → test j ≡ true) where
  three-parts : keys_from test far n ≡ keys_from test far (first - far) + ((last - first) + keys_from test last (far + n - last))
  three-parts =
      let gap : far + (first - far) ≡ first = omega arith in
      let whole : first + (last - first) ≡ last = omega arith in
      let parts : n ≡ (first - far) + ((last - first) + (far + n - last)) = omega arith in
      let all = keys-all test first (last - first) (λ j l m. within j l (omega arith)) in
      ap (keys_from test far) parts ∙ keys-split test far (first - far) ((last - first) + (far + n - last))
      ∙ rw (gap, keys-split test first (last - first) (far + n - last), all, whole)

  -- none pass before, and behind both tests agree
  pub keys-around : ((j : ℕ) → far ≤ j → j < first → test j ≡ false) → ((j : ℕ) → last ≤ j → test j ≡ rest j) → keys_from test far n ≡ (last - first) + keys_from rest last (far + n - last)
  keys-around before behind =
      let none = keys_none test far (first - far) (λ j l m. before j l (omega arith)) in
      let same = keys-agree test rest last (far + n - last) (λ j l m. behind j l) in
      omega (arith, three-parts)

  -- what passes the other test passes this one
  pub keys_at_least : ((j : ℕ) → rest j ≡ true → test j ≡ true) → (last - first) + keys_from rest last (far + n - last) ≤ keys_from test far n
  keys_at_least more = let fewer = keys-fewer rest test last (far + n - last) more in omega (arith, three-parts)
