-- A beat that is at or past the beat of the next row, or at or before that of the row before, is on another row. Assumes nothing.
use Prim.Native.Nat.{ℕ, zero, suc, ◌-◌, ◌≤◌}
use mathlib.Core.Path.{◌≡◌, refl, ap, ◌∙◌, subst}
use mathlib.Core.Bool.{true, false}
use mathlib.Core.Logic.{◌⊎◌, inl, inr}
use native.Mathlib.Omega.{arith}
use native.Mathlib.Numerals.{add-one}
use borrow.Author.Tests.{lt-ltb, le-ltb, leb-true}
use mir.Syntax.{w32}
use mir.Val.{SFits, to_z, of_z}
use mir.ValLaws.{to_z-of_z}
use lib.Dec.{T, leb→le}
use lib.IntN.{ℤ, pos, negsuc, nat_abs, ◌+ℤ◌, ◌-ℤ◌}
use lib.Signed.{le_z}
use lib.Ieee.{Float, fin, binary32, le, lt, eq, div, of_int, round, size}
use lib.Ieee.Fits.{and_i, and_l, and_r}
use Rattle.ieee.specs.Magnitude.{within_power}
use Rattle.rows.specs.Rows.{row, beat_of, allowed_beat}
use Rattle.rows.proofs.RowsKeepOrder.{row_mono}
use Rattle.rows.proofs.RowOfBeat.{row_of_beat}
use Rattle.rows.proofs.RowWithin.{row_within, in_i32}
use Rattle.rows.proofs.BeatsRise.{beat-allowed}
use Rattle.rows.proofs.Allowed.{within-allowed, allowed-within}
use Rattle.limits.specs.Numbers.{row_in, most_row}
use Rattle.rows.specs.RowKey.{row_key}
use Rattle.order.proofs.Compare.{below?}
use Rattle.rows.proofs.RowKeys.{row_keys_differ}
use Rattle.ieee.proofs.FloatsInOrder.{float_le_trans}
use Rattle.lookup.specs.Lookups.{key_of}

-- ---- the rows beside one
abbrev after : ℤ → ℤ
after (pos n) = pos (suc n)
after (negsuc zero) = pos 0
after (negsuc (suc n)) = negsuc n

abbrev ahead : ℤ → ℤ
ahead (pos zero) = negsuc 0
ahead (pos (suc n)) = pos n
ahead (negsuc n) = negsuc (suc n)

plus_one : (r : ℤ) → r +ℤ pos 1 ≡ after r
plus_one (pos n) = ap pos (add-one n)
plus_one (negsuc zero) = refl
plus_one (negsuc (suc n)) = let less : suc (suc n) - 2 ≡ n = omega arith in rw (lt-ltb 1 (suc (suc n)) (omega arith), less)

minus_one : (r : ℤ) → r -ℤ pos 1 ≡ ahead r
minus_one (pos zero) = refl
minus_one (pos (suc n)) = let less : suc n - 1 ≡ n = omega arith in rw (le-ltb (suc n) 1 (omega arith), less)
minus_one (negsuc n) = ap (λ (m : ℕ). negsuc (suc m)) (omega arith)

-- only beside the last and the first row is one that is not allowed
pub near-rows : (r : ℤ) → nat_abs r ≤ most_row → (nat_abs (r +ℤ pos 1) ≤ 3145729) × (nat_abs (r -ℤ pos 1) ≤ 3145729)
near-rows r h = rw (plus_one r, minus_one r) (go r h)
  where
    go : (r : ℤ) → nat_abs r ≤ most_row → (nat_abs (after r) ≤ 3145729) × (nat_abs (ahead r) ≤ 3145729)
    go (pos zero) h = (omega arith, omega arith)
    go (pos (suc n)) h = (omega arith, omega arith)
    go (negsuc zero) h = (omega arith, omega arith)
    go (negsuc (suc n)) h = (omega arith, omega arith)

after-allowed : (r : ℤ) → nat_abs r ≤ most_row → (nat_abs (after r) ≤ most_row) ⊎ (after r ≡ pos 3145729)
after-allowed (pos n) h = elim (below? n most_row) [ inl l ↦ inl (omega arith) | inr l ↦ inr (ap pos (omega arith)) ]
after-allowed (negsuc zero) h = inl (omega arith)
after-allowed (negsuc (suc n)) h = inl (omega arith)

ahead-allowed : (r : ℤ) → nat_abs r ≤ most_row → (nat_abs (ahead r) ≤ most_row) ⊎ (ahead r ≡ negsuc 3145728)
ahead-allowed (pos zero) h = inl (omega arith)
ahead-allowed (pos (suc n)) h = inl (omega arith)
ahead-allowed (negsuc n) h = elim (below? (suc n) most_row) [ inl l ↦ inl (omega arith) | inr l ↦ inr (ap negsuc (omega arith)) ]

not_from_after : (r : ℤ) → T (le_z (after r) r) → ⊥
not_from_after (pos n) h = absurd (omega (arith, leb→le (suc n) n h))
not_from_after (negsuc zero) h = h
not_from_after (negsuc (suc n)) h = absurd (omega (arith, leb→le (suc n) n h))

not_to_ahead : (r : ℤ) → T (le_z r (ahead r)) → ⊥
not_to_ahead (pos zero) h = h
not_to_ahead (pos (suc n)) h = absurd (omega (arith, leb→le (suc n) n h))
not_to_ahead (negsuc n) h = absurd (omega (arith, leb→le (suc n) n h))

-- ---- a beat
abbrev most : Float
most = fin false 1 (pos 16)

abbrev lowest : Float
lowest = fin true 1 (pos 16)

allowed-between : (x : Float) → T (le lowest x) → T (le x most) → T (allowed_beat x)
unfolding within_power
allowed-between x l m = within-allowed x (and_i (le lowest x) (le x most) l m)

from_lowest : (x : Float) → T (allowed_beat x) → T (le lowest x)
unfolding within_power
from_lowest x h = and_l (le lowest x) (le x most) (allowed-within x h)

to-most : (x : Float) → T (allowed_beat x) → T (le x most)
unfolding within_power
to-most x h = and_r (le lowest x) (le x most) (allowed-within x h)

past-most : T (le (beat_of binary32 (pos 3145729)) most) → ⊥
unfolding le lt eq div of_int round size
past-most h = h

before-lowest : T (le lowest (beat_of binary32 (negsuc 3145728))) → ⊥
unfolding le lt eq div of_int round size
before-lowest h = h

module _ (r : ℤ) (allowed : nat_abs r ≤ most_row) (beat : Float) where
  -- beats that are on the row have its row
  on_it : T (allowed_beat beat) → key_of beat ≡ row_key r → row binary32 beat ≡ r
  on_it p = row_keys_differ (row binary32 beat) r (in_i32 (row binary32 beat) (row_within binary32 beat p)) (in_i32 r allowed)

  pub past_row : T (le (beat_of binary32 (r +ℤ pos 1)) beat) → T (le beat most) → key_of beat ≡ row_key r → ⊥
  past_row l m = go (after-allowed r allowed) (subst (λ (z : ℤ). T (le (beat_of binary32 z) beat)) (plus_one r) l)
    where
      go : (nat_abs (after r) ≤ most_row) ⊎ (after r ≡ pos 3145729) → T (le (beat_of binary32 (after r)) beat) → key_of beat ≡ row_key r → ⊥
      go (inl w) k e =
          let q = beat-allowed binary32 (after r) w in
          let p = allowed-between beat (float_le_trans lowest (beat_of binary32 (after r)) beat (from_lowest (beat_of binary32 (after r)) q) k) m in
          not_from_after r (subst (λ (z : ℤ). T (le_z z r)) (row_of_beat binary32 binary32 (after r) w) (subst (λ (z : ℤ). T (le_z (row binary32 (beat_of binary32 (after r))) z)) (on_it p e) (row_mono binary32 (beat_of binary32 (after r)) beat q p k)))
      go (inr w) k e = past-most (float_le_trans (beat_of binary32 (pos 3145729)) beat most (subst (λ (z : ℤ). T (le (beat_of binary32 z) beat)) w k) m)

  pub before-row : T (le beat (beat_of binary32 (r -ℤ pos 1))) → T (le lowest beat) → key_of beat ≡ row_key r → ⊥
  before-row l m = go (ahead-allowed r allowed) (subst (λ (z : ℤ). T (le beat (beat_of binary32 z))) (minus_one r) l)
    where
      go : (nat_abs (ahead r) ≤ most_row) ⊎ (ahead r ≡ negsuc 3145728) → T (le beat (beat_of binary32 (ahead r))) → key_of beat ≡ row_key r → ⊥
      go (inl w) k e =
          let q = beat-allowed binary32 (ahead r) w in
          let p = allowed-between beat m (float_le_trans beat (beat_of binary32 (ahead r)) most k (to-most (beat_of binary32 (ahead r)) q)) in
          not_to_ahead r (subst (λ (z : ℤ). T (le_z r z)) (row_of_beat binary32 binary32 (ahead r) w) (subst (λ (z : ℤ). T (le_z z (row binary32 (beat_of binary32 (ahead r))))) (on_it p e) (row_mono binary32 beat (beat_of binary32 (ahead r)) p q k)))
      go (inr w) k e = before-lowest (float_le_trans lowest beat (beat_of binary32 (negsuc 3145728)) m (subst (λ (z : ℤ). T (le beat (beat_of binary32 z))) w k))

-- ---- the rows beside one, as the machine's integers
fits_i32 : (z : ℤ) → nat_abs z ≤ 3145729 → SFits w32 z
fits_i32 (pos n) h = record { sfits = omega arith }
fits_i32 (negsuc n) h = record { sfits = omega arith }

pub row-allowed : (r : ℤ) → row_in r ≡ true → nat_abs r ≤ most_row
unfolding row_in
row-allowed r h = leb-true (nat_abs r) most_row h

module _ (r : ℤ) (fit : SFits w32 r) (taken : row_in r ≡ true) where
  own : to_z w32 (of_z w32 r) ≡ r
  own = to_z-of_z w32 r fit

  pub next_fits : SFits w32 (to_z w32 (of_z w32 r) +ℤ pos 1)
  next_fits = rw own (fits_i32 (r +ℤ pos 1) (near-rows r (row-allowed r taken)).0)

  pub next-is : to_z w32 (of_z w32 (to_z w32 (of_z w32 r) +ℤ pos 1)) ≡ r +ℤ pos 1
  next-is = to_z-of_z w32 (to_z w32 (of_z w32 r) +ℤ pos 1) next_fits ∙ ap (λ (z : ℤ). z +ℤ pos 1) own

  pub next-near : nat_abs (to_z w32 (of_z w32 (to_z w32 (of_z w32 r) +ℤ pos 1))) ≤ 3145729
  next-near = rw next-is (near-rows r (row-allowed r taken)).0

  pub last_fits : SFits w32 (to_z w32 (of_z w32 r) -ℤ pos 1)
  last_fits = rw own (fits_i32 (r -ℤ pos 1) (near-rows r (row-allowed r taken)).1)

  pub last-is : to_z w32 (of_z w32 (to_z w32 (of_z w32 r) -ℤ pos 1)) ≡ r -ℤ pos 1
  last-is = to_z-of_z w32 (to_z w32 (of_z w32 r) -ℤ pos 1) last_fits ∙ ap (λ (z : ℤ). z -ℤ pos 1) own

  pub last-near : nat_abs (to_z w32 (of_z w32 (to_z w32 (of_z w32 r) -ℤ pos 1))) ≤ 3145729
  last-near = rw last-is (near-rows r (row-allowed r taken)).1
