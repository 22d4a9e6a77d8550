-- A row as an f32 by its key: moved down, the key is the pattern of 1.5 * 2 ^ 23 and the row, from which the one is taken off. Assumes nothing.
use mathlib.Core.Path.{◌≡◌, refl, sym, ap, ◌∙◌, subst}
use mathlib.Core.Bool.{true, false, not}
use Prim.Native.Nat.{ℕ, suc, ◌+◌, ◌-◌, ◌*◌, ◌^◌, ◌≤◌, ◌<◌}
use native.Mathlib.Nat.{mul-one, zero-lt-suc}
use native.Mathlib.Omega.{arith}
use borrow.Author.Tests.{lt-leb}
use lib.Dec.{T, lit<}
use lib.IntN.{ℤ, pos, negsuc, nat_abs}
use lib.Pow.{pow_pos}
use lib.Ieee.{Float, binary32, round, sub, of_int, of_bits, nan_bits}
use lib.Ieee.Exact.{HasValue}
use Rattle.ieee.proofs.Fields.{normal_bits}
use Rattle.ieee.proofs.Signs.{number_bits}
use Rattle.ieee.proofs.SumByValue.{minus-values, minus-less}
use Rattle.ieee.proofs.Values.{rescaled, finite_of, finite_number}
use Rattle.rows.specs.RowKey.{row_key}

-- ---- the patterns of whole numbers from 2 ^ 23 on, one after the other
module _ (t : ℕ) (h : t < 8388608) where
  abbrev pattern : ℕ
  pattern = 1258291200 + t

  pattern-is : HasValue (of_bits binary32 pattern) false (8388608 + t) 1
  pattern-is =
      rescaled (of_bits binary32 pattern) false ((8388608 + t) * 2 ^ 149) (2 ^ 149) (8388608 + t) 1 (pow_pos 149) (sym (mul-one ((8388608 + t) * 2 ^ 149)))
      (normal_bits binary32 pattern false 149 t (lt-leb 2147483648 pattern (omega arith)) (omega arith) (omega arith) (omega arith))

  pattern_number : T (not (nan_bits binary32 pattern))
  pattern_number = let c = of_bits binary32 pattern in number_bits binary32 pattern c refl (finite_number c (finite_of c false (8388608 + t) 1 pattern-is))

-- the code's literal, 1.5 * 2 ^ 23
abbrev middle : Float
middle = of_bits binary32 1262485504

middle-is : HasValue middle false 12582912 1
middle-is = pattern-is 4194304 (lit< tt)

-- ---- of a row that is allowed, or next to one
abbrev digits : ℤ → ℕ
digits (pos n) = 4194304 + n
digits (negsuc n) = 4194304 - suc n

few : (r : ℤ) → nat_abs r ≤ 3145729 → digits r < 8388608
few (pos n) h = omega arith
few (negsuc n) h = omega arith

moved_down : (r : ℤ) → nat_abs r ≤ 3145729 → 1258291200 + digits r ≡ row_key r - 884998144
unfolding row_key
moved_down (pos n) h = omega arith
moved_down (negsuc n) h = omega arith

taken-off : (r : ℤ) → nat_abs r ≤ 3145729 → sub binary32 (of_bits binary32 (1258291200 + digits r)) middle ≡ of_int binary32 r
unfolding of_int
taken-off (pos n) h =
    let whole : 8388608 + (4194304 + n) - 12582912 ≡ n = omega arith in
    minus-values binary32 (of_bits binary32 (1258291200 + (4194304 + n))) middle (8388608 + (4194304 + n)) 12582912 1 (zero-lt-suc 0) (omega arith) (pattern-is (4194304 + n) (omega arith)) middle-is
    ∙ ap (λ (x : ℕ). round binary32 false x 1) whole
taken-off (negsuc n) h =
    let whole : 12582912 - (8388608 + (4194304 - suc n)) ≡ suc n = omega arith in
    minus-less binary32 (of_bits binary32 (1258291200 + (4194304 - suc n))) middle (8388608 + (4194304 - suc n)) 12582912 1 (zero-lt-suc 0) (omega arith) (pattern-is (4194304 - suc n) (omega arith)) middle-is
    ∙ ap (λ (x : ℕ). round binary32 true x 1) whole

module _ (r : ℤ) (h : nat_abs r ≤ 3145729) where
  pub key_above : 884998144 ≤ row_key r
  key_above = let e = moved_down r h in omega arith

  pub row_number : T (not (nan_bits binary32 (row_key r - 884998144)))
  row_number = subst (λ (b : ℕ). T (not (nan_bits binary32 b))) (moved_down r h) (pattern_number (digits r) (few r h))

  pub row_by_pattern : sub binary32 (of_bits binary32 (row_key r - 884998144)) middle ≡ of_int binary32 r
  row_by_pattern = ap (λ (b : ℕ). sub binary32 (of_bits binary32 b) middle) (sym (moved_down r h)) ∙ taken-off r h
