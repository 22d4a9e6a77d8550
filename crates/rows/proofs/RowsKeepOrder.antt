-- Rows keep the order of allowed beats, at either width. Assumes nothing.
use Rattle.std.proofs.Common.{◌≡◌, ℕ, ◌*◌, ◌<◌, ◌≤◌, T, ℤ, sym, subst₂, inl, inr, zero-le, le_trans, le_of_eq, le_of_mul-le-mul_right, arith, pow_pos}
use lib.Signed.{le_z, lt_z, le_z_yes, lt_z_yes, clash_ℤ}
use lib.Ieee.{Float, Format, prec, le, lt}
use Rattle.ieee.proofs.SignedSizes.{ordered-through, ordered-whole}
use Rattle.ieee.proofs.FloatOrder.{le_sizes, lt_or_le}
use Rattle.ieee.proofs.Magnitude.{Sized}
use Rattle.rows.specs.Rows.{row, allowed_beat}
use Rattle.rows.proofs.RowValue.{row_size, row-value, row_size_le, row_size_mono}
use Rattle.rows.proofs.Allowed.{allowed-sized, allowed-finite}

row_size_zero : (f : Format) (a c d : ℕ) → 0 < c → 0 < d → a * d ≡ 0 → row_size f a c ≡ 0
row_size_zero f a c d C D h =
    let z : a ≤ 0 = le_of_mul-le-mul_right {k = d} (le_trans (le_of_eq h) zero-le) D in
    let l = row_size_le f a c C 0 (pow_pos (prec f)) (omega arith) in
    omega arith

sized_mono : (f : Format) (x y : Float) → Sized 16 x → Sized 16 y → T (le x y) → T (le_z (row f x) (row f y))
sized_mono f x y z w h =
    let s = z.negative in
    let t = w.negative in
    let a = z.num in
    let c = z.den in
    let b = w.num in
    let d = w.den in
    let there = row_size_mono f a c b d z.den_pos w.den_pos z.small w.small in
    let back = row_size_mono f b d a c w.den_pos z.den_pos w.small z.small in
    subst₂ (λ (p q : ℤ). T (le_z p q)) (sym (row-value f x z)) (sym (row-value f y w))
    (ordered-whole s t (row_size f a c) (row_size f b d)
    (ordered-through s t (a * d) (b * c) (row_size f a c) (row_size f b d) there back (row_size_zero f a c d z.den_pos w.den_pos) (row_size_zero f b d c w.den_pos z.den_pos) (le_sizes x y s t a c b d z.value w.value h)))

pub row_mono : (f : Format) (x y : Float) → T (allowed_beat x) → T (allowed_beat y) → T (le x y) → T (le_z (row f x) (row f y))
row_mono f x y p q = sized_mono f x y (allowed-sized x p) (allowed-sized y q)

-- so rows that rise come of beats that rise
pub rows-rise : (f : Format) (x y : Float) → T (allowed_beat x) → T (allowed_beat y) → T (lt_z (row f x) (row f y)) → T (lt x y)
rows-rise f x y p q h = elim (lt_or_le x y (allowed-finite x p) (allowed-finite y q)) [
  | inl l ↦ l
  | inr g ↦ clash_ℤ {a = row f x} {b = row f y} (lt_z_yes h) (le_z_yes (row_mono f y x q p g))
]
