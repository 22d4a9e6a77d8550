-- A number that is not negative has a row that is not negative, at either width: so far up to 2 ^ 31, where rows are held at the end of an i32. Assumes nothing.
use Rattle.std.proofs.Common.{◌≡◌, ℕ, suc, ◌-◌, ◌*◌, ◌^◌, ◌<◌, ◌≤◌, min, false, pos, ap, ◌∙◌, zero-lt-suc, mul-one, arith, lit<, pow_pos}
use lib.Ieee.{Float, Format, binary32, binary64, prec, emax, low, round, of_int}
use lib.Ieee.Exact.{HasValue}
use lib.Ieee.Scale.{grid}
use Rattle.ieee.specs.Rounding.{rint, hold}
use Rattle.ieee.proofs.Units.{round-units}
use Rattle.ieee.proofs.RoundedSize.{grid_under}
use Rattle.ieee.proofs.ByValue.{rint-value, mul-value}
use Rattle.rows.specs.Rows.{row}
use Rattle.rows.proofs.RowValue.{like_48, row_size}

-- 48 times 2 ^ 31 is 3 * 2 ^ 35
digits : (f : Format) → 3 < 2 ^ prec f
digits binary32 = lit< tt
digits binary64 = lit< tt

under : (f : Format) → 3 * 2 ^ 35 < 2 ^ suc (emax f)
under binary32 = lit< tt
under binary64 = lit< tt

pub row_not_negative : (f : Format) (x : Float) (a c : ℕ) → 0 < c → HasValue x false a c → a ≤ 2 ^ 31 * c → (n : ℕ) × (row f x ≡ pos n)
unfolding hold
row_not_negative f x a c C v small = (
  min (row_size f a c) (2 ^ 31 - 1),
  ap (λ (y : Float). hold (rint y)) (mul-value f x (of_int f (pos 48)) false false a c 48 1 C (zero-lt-suc 0) v (like_48 f) ∙ ap (round f false (a * 48)) (mul-one c))
      ∙ ap hold (rint-value (round f false (a * 48) c) false (grid f (a * 48) c) (2 ^ low f) (pow_pos (low f))
      (round-units f false (a * 48) c (grid_under f (a * 48) c 3 35 C (digits f) (omega arith) (under f)))),
)
