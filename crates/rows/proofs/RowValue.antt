-- The row of an allowed beat by the beat's value, and the beat of a row: each is rounded once by the width and, for the row, once more to a whole number. Assumes nothing.
use Rattle.std.proofs.Common.{◌≡◌, ℕ, ◌-◌, ◌*◌, ◌^◌, ◌<◌, ◌≤◌, Bool, true, false, ℤ, pos, nat_abs, sym, refl, ap, ◌∙◌, subst, le_trans, le_of_eq, mul-le-mul_right, zero-lt-suc, mul-one, mul_right_comm, arith, lit<, lit≤, pow_pos}
use lib.Ieee.{Float, Format, binary32, binary64, prec, low, unlike, round, of_int}
use lib.Ieee.Exact.{HasValue}
use lib.Ieee.Nearest.{closest, closest_mono}
use lib.Ieee.Scale.{grid, overflow}
use Rattle.ieee.specs.Rounding.{signed, rint, hold}
use Rattle.ieee.proofs.ClosestLaws.{closest_le}
use Rattle.ieee.proofs.Held.{held-within}
use Rattle.ieee.proofs.SignedSizes.{negative, mag_signed}
use Rattle.ieee.proofs.Magnitude.{Sized}
use Rattle.ieee.proofs.Units.{round-units}
use Rattle.ieee.proofs.RoundedSize.{grid_le, grid_fine, grid_mono}
use Rattle.ieee.proofs.ByValue.{rint-value, mul-value, div_value, whole-value}
use Rattle.limits.specs.Numbers.{most_row}
use Rattle.rows.specs.Rows.{row, beat_of}

-- a format counts to the last row
room : (f : Format) → most_row < 2 ^ prec f
room binary32 = lit< tt
room binary64 = lit< tt

-- and its smallest unit is far below a 48th
pub tiny : (f : Format) → 2 ^ (prec f - 1) * 48 ≤ 2 ^ low f
tiny binary32 = lit≤ tt
tiny binary64 = lit≤ tt

pub like_48 : (f : Format) → HasValue (of_int f (pos 48)) false 48 1
like_48 f = whole-value f (pos 48) (omega (arith, room f))

pub unlike-positive : (s : Bool) → unlike s false ≡ s
unlike-positive true = refl
unlike-positive false = refl

-- ---- the row of a / c
abbrev pub row_size : Format → ℕ → ℕ → ℕ
row_size f a c = closest (grid f (a * 48) c) (2 ^ low f)

module _ (f : Format) (a c : ℕ) (C : 0 < c) where
  pub row_size_le : (k : ℕ) → k < 2 ^ prec f → a * 48 ≤ k * c → row_size f a c ≤ k
  row_size_le k K h = closest_le k (grid f (a * 48) c) (2 ^ low f) (pow_pos (low f)) (grid_le f (a * 48) c k C K h)

  module _ (small : a ≤ 65536 * c) where
    in_rows : a * 48 ≤ most_row * c
    in_rows = omega arith

    pub row_size_within : row_size f a c ≤ most_row
    row_size_within = row_size_le most_row (room f) in_rows

    pub product-fine : grid f (a * 48) c < overflow f
    product-fine = grid_fine f (a * 48) c most_row C (room f) in_rows

pub row-value : (f : Format) (x : Float) (z : Sized 16 x) → row f x ≡ signed z.negative (row_size f z.num z.den)
row-value f x z =
    let s = z.negative in
    let a = z.num in
    let c = z.den in
    let n = row_size_within f a c z.den_pos z.small in
    let m = mag_signed s (row_size f a c) in
    ap (λ (y : Float). hold (rint y))
    (mul-value f x (of_int f (pos 48)) s false a c 48 1 z.den_pos (zero-lt-suc 0) z.value (like_48 f)
    ∙ ap (λ (b : Bool). round f b (a * 48) (c * 1)) (unlike-positive s)
    ∙ ap (round f s (a * 48)) (mul-one c))
    ∙ ap hold (rint-value (round f s (a * 48) c) s (grid f (a * 48) c) (2 ^ low f) (pow_pos (low f)) (round-units f s (a * 48) c (product-fine f a c z.den_pos z.small)))
    ∙ held-within (signed s (row_size f a c)) (omega arith)

-- a larger fraction has a row that is no smaller
pub row_size_mono : (f : Format) (a c b d : ℕ) → 0 < c → 0 < d → a ≤ 65536 * c → b ≤ 65536 * d → a * d ≤ b * c → row_size f a c ≤ row_size f b d
row_size_mono f a c b d C D p q h =
    closest_mono (grid f (a * 48) c) (2 ^ low f) (grid f (b * 48) d) (2 ^ low f) (pow_pos (low f)) (pow_pos (low f))
    (mul-le-mul_right (2 ^ low f)
    (grid_mono f (a * 48) c (b * 48) d C D (product-fine f a c C p) (product-fine f b d D q)
    (le_trans (le_of_eq (mul_right_comm a 48 d)) (le_trans (mul-le-mul_right 48 h) (le_of_eq (mul_right_comm b c 48))))))

-- ---- the beat of a row
pub beat-rounded : (f : Format) (r : ℤ) → nat_abs r ≤ 2 ^ prec f → beat_of f r ≡ round f (negative r) (nat_abs r) 48
beat-rounded f r h =
    div_value f (of_int f r) (of_int f (pos 48)) (negative r) false (nat_abs r) 1 48 1 (zero-lt-suc 0) (zero-lt-suc 0) (zero-lt-suc 47) (whole-value f r h) (like_48 f)
    ∙ ap (λ (b : Bool). round f b (nat_abs r * 1) 48) (unlike-positive (negative r))
    ∙ ap (λ (n : ℕ). round f (negative r) n 48) (mul-one (nat_abs r))

module _ (f : Format) (r : ℤ) (h : nat_abs r ≤ most_row) where
  pub beat-value : HasValue (beat_of f r) (negative r) (grid f (nat_abs r) 48) (2 ^ low f)
  beat-value =
      subst (λ (x : Float). HasValue x (negative r) (grid f (nat_abs r) 48) (2 ^ low f)) (sym (beat-rounded f r (omega (arith, room f))))
      (round-units f (negative r) (nat_abs r) 48 (grid_fine f (nat_abs r) 48 65536 (zero-lt-suc 47) (omega (arith, room f)) (omega arith)))

  pub beat-small : grid f (nat_abs r) 48 ≤ 65536 * 2 ^ low f
  beat-small = grid_le f (nat_abs r) 48 65536 (zero-lt-suc 47) (omega (arith, room f)) (omega arith)

  unfoldable pub beat-sized : Sized 16 (beat_of f r)
  beat-sized = record { negative = negative r; num = grid f (nat_abs r) 48; den = 2 ^ low f; den_pos = pow_pos (low f); value = beat-value; small = beat-small }
