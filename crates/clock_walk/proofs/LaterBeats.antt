-- An allowed beat that is not before the beat of a row has that row or a later one. Assumes nothing.
use Rattle.std.proofs.Common.{◌≡◌, ℕ, ◌+◌, ◌*◌, ◌^◌, ◌<◌, ◌≤◌, Bool, true, false, not, T, eqb, ltb, List, length, get_or, ℤ, pos, negsuc, ◌+ℤ◌, nat_abs, sym, refl, ap, ◌∙◌, subst, zero-le, le_trans, le_of_eq, zero-lt-suc, le_of_mul-le-mul_right, arith, leb→le, pow_pos, w32, SFits, to_z, of_z, ltb-false, lt-ltb}
use lib.Signed.{lt_z, le_z}
use lib.Ieee.{Float, fin, inf, nan, binary64, up, down, low, is_nan, le, lt, eq}
use lib.Ieee.Fits.{and_i, down_pos}
use lib.Ieee.Exact.{HasValue}
use Rattle.picks.specs.Pick.{pick}
use Rattle.ieee.specs.Magnitude.{within_power}
use Rattle.ieee.proofs.SignedSizes.{Ordered}
use Rattle.ieee.proofs.FloatOrder.{le_sizes, sizes_le}
use Rattle.limits.specs.Numbers.{most_row}
use Rattle.rows.specs.Rows.{row, beat_of, allowed_beat}
use Rattle.rows.proofs.RowValue.{beat-value}
use Rattle.rows.proofs.RowOfBeat.{row_of_beat}
use Rattle.rows.proofs.RowsKeepOrder.{row_mono}
use Rattle.rows.proofs.BeatsRise.{beat-allowed}
use Rattle.rows.proofs.Allowed.{within-allowed}
use Rattle.clock_walk.specs.Events.{farthest}
use Rattle.clock_walk.specs.Quiet.{row_at, not_before, is_later}
use Rattle.rows.proofs.RowOrder.{no}
use Rattle.rows.proofs.BackFromBits.{back}

held : (b : Bool) → b ≡ true → T b
held b e = subst T (sym e) tt

yes : (b : Bool) → T b → b ≡ true
yes true h = refl
yes false h = absurd h

-- what is at most another is a number
pub number : (x y : Float) → le x y ≡ true → T (not (is_nan x))
unfolding le lt eq is_nan
number nan y h = absurd (held _ h)
number (inf s) y h = tt
number (fin s m e) y h = tt

pub next_fits : (r : ℤ) → lt_z r (pos 0) ≡ false → lt_z (pos 3145727) r ≡ false → SFits w32 (r +ℤ pos 1)
next_fits (pos n) h k = let l = ltb-false 3145727 n k in record { sfits = omega arith }
next_fits (negsuc n) h k = no (sym h)

-- ---- a row that was put into bits and read back
pub not_below_lem : (z : ℤ) (found : Bool) → SFits w32 z → lt_z (to_z w32 (of_z w32 z)) (pos 0) ≡ found → lt_z z (pos 0) ≡ found
not_below_lem z found f h = rw (back z f) at h

pub not_above_lem : (z : ℤ) (found : Bool) → SFits w32 z → lt_z (pos 3145727) (to_z w32 (of_z w32 z)) ≡ found → lt_z (pos 3145727) z ≡ found
not_above_lem z found f h = rw (back z f) at h

-- the beat of the row after
pub beat-after : (z : ℤ) → SFits w32 z → lt_z (to_z w32 (of_z w32 z)) (pos 0) ≡ false → lt_z (pos 3145727) (to_z w32 (of_z w32 z)) ≡ false
    → beat_of binary64 (to_z w32 (of_z w32 (to_z w32 (of_z w32 z) +ℤ pos 1))) ≡ beat_of binary64 (z +ℤ pos 1)
beat-after z f h k = ap (beat_of binary64) (back (to_z w32 (of_z w32 z) +ℤ pos 1) (next_fits (to_z w32 (of_z w32 z)) h k) ∙ ap (λ (x : ℤ). x +ℤ pos 1) (back z f))

-- ---- entries
after : (n : ℕ) (x : ℤ) → T (le_z (pos (n + 1)) x) → lt_z (pos n) x ≡ true
after n (pos m) h = let l = leb→le (n + 1) m h in lt-ltb n m (omega arith)
after n (negsuc m) h = absurd h

allowed : (h : Float) → le h (fin false 1 (pos 16)) ≡ true → le (fin true 1 (pos 16)) h ≡ true → T (allowed_beat h)
unfolding within_power
allowed h below above = within-allowed h (and_i (le (fin true 1 (pos 16)) h) (le h (fin false 1 (pos 16))) (held _ above) (held _ below))

-- what is not before a number that is not negative is not below the least beat
not_below_least : (x h : Float) (a c : ℕ) → 0 < c → HasValue x false a c → le x h ≡ true → le (fin true 1 (pos 16)) h ≡ true
unfolding le lt eq
not_below_least nan h a c C v p = absurd v
not_below_least (inf s) h a c C v p = absurd v
not_below_least (fin s m e) nan a c C v p = no p
not_below_least (fin s m e) (inf true) a c C v p = no p
not_below_least (fin s m e) (inf false) a c C v p = refl
not_below_least (fin s m e) (fin t k g) a c C v p = yes _ (go t (le_sizes (fin s m e) (fin t k g) false t a c (k * up g) (down g) v (refl, refl) (held _ p)))
  where
    go : (t : Bool) → Ordered false (a * down g) t (k * up g * c) → T (le (fin true 1 (pos 16)) (fin t k g))
    go false o = sizes_le (fin true 1 (pos 16)) (fin false k g) true false (2 ^ 16) 1 (k * up g) (down g) (zero-lt-suc 0) (down_pos g) (refl, refl) (refl, refl) tt
    go true o =
        let z : k * up g ≤ 0 = le_of_mul-le-mul_right {k = c} (le_trans (le_of_eq o.1) zero-le) C in
        sizes_le (fin true 1 (pos 16)) (fin true k g) true true (2 ^ 16) 1 (k * up g) (down g) (zero-lt-suc 0) (down_pos g) (refl, refl) (refl, refl) (omega arith)

module _ (n : ℕ) (small : n ≤ 3145727) where
  row-after : (h : Float) → le h (fin false 1 (pos 16)) ≡ true → le (beat_of binary64 (pos (n + 1))) h ≡ true → lt_z (pos n) (row binary64 h) ≡ true
  row-after h below later =
      let within : nat_abs (pos (n + 1)) ≤ most_row = omega arith in
      let above = not_below_least (beat_of binary64 (pos (n + 1))) h _ _ (pow_pos (low binary64)) (beat-value binary64 (pos (n + 1)) within) later in
      after n (row binary64 h)
      (subst (λ (z : ℤ). T (le_z z (row binary64 h))) (row_of_beat binary64 binary64 (pos (n + 1)) within)
      (row_mono binary64 (beat_of binary64 (pos (n + 1))) h (beat-allowed binary64 (pos (n + 1)) within) (allowed h below above) (held _ later)))

  pub later-entry : (beats : List Float) (place : ℕ) → not_before beats place (beat_of binary64 (pos n +ℤ pos 1)) ≡ true → lt_z (pos n) (row_at beats place) ≡ true
  unfolding not_before row_at
  later-entry beats place h = go (ltb place (length beats)) h
    where
      at : Float
      at = get_or beats place nan

      inside : (a b : Bool) → le at (fin false 1 (pos 16)) ≡ a → le (beat_of binary64 (pos n +ℤ pos 1)) at ≡ b → pick a b false ≡ true → lt_z (pos n) (row binary64 at) ≡ true
      inside true true e f h = row-after at e f
      inside true false e f h = no h
      inside false b e f h = no h

      go : (x : Bool) → pick x (pick (le at (fin false 1 (pos 16))) (le (beat_of binary64 (pos n +ℤ pos 1)) at) false) (eqb place (length beats)) ≡ true → lt_z (pos n) (pick x (row binary64 at) farthest) ≡ true
      go true h = inside (le at (fin false 1 (pos 16))) (le (beat_of binary64 (pos n +ℤ pos 1)) at) refl refl h
      go false h = lt-ltb n 2147483647 (omega arith)

-- so what is later is on a later row, and the row is before the greatest i32
pub later-row : (r : ℤ) (beats : List Float) (place : ℕ) → is_later beats place r ≡ true → (lt_z r farthest ≡ true) × (lt_z r (row_at beats place) ≡ true)
unfolding is_later
later-row (negsuc n) beats place h = no h
later-row (pos n) beats place h = go (lt_z (pos n) (pos 0)) (lt_z (pos 3145727) (pos n)) refl h
  where
    go : (x y : Bool) → lt_z (pos 3145727) (pos n) ≡ y → pick x false (pick y false (not_before beats place (beat_of binary64 (pos n +ℤ pos 1)))) ≡ true → (lt_z (pos n) farthest ≡ true) × (lt_z (pos n) (row_at beats place) ≡ true)
    go true y e h = no h
    go false true e h = no h
    go false false e h = let small = ltb-false 3145727 n e in (lt-ltb n 2147483647 (omega arith), later-entry n small beats place h)
