-- A beat that equals 0, of either sign, is on row 0. Assumes nothing.
use Rattle.std.proofs.Common.{◌≡◌, ℕ, ◌+◌, ◌*◌, Bool, true, false, ◌&&◌, eqb, ℤ, pos, sym, refl, ap, ◌∙◌, zero-lt-suc, arith, eqb-true}
use lib.Ieee.{Float, nan, inf, fin, Format, up, down, eq, mul, of_int, round}
use lib.Ieee.Exact.{HasValue}
use Rattle.ieee.specs.Rounding.{rint, hold}
use Rattle.ieee.proofs.ByValue.{mul-value}
use Rattle.ieee.proofs.KeepsOrder.{round-zero}
use Rattle.rows.specs.Rows.{row}
use Rattle.rows.proofs.RowValue.{unlike-positive, like_48}

first : (a b : Bool) → a && b ≡ true → a ≡ true
first true b h = refl
first false b h = h

zero-rounds : (s : Bool) → hold (rint (fin s 0 (pos 0))) ≡ pos 0
unfolding hold rint
zero-rounds true = refl
zero-rounds false = refl

pub row_of_zero : (f : Format) (x : Float) → eq x (fin false 0 (pos 0)) ≡ true → row f x ≡ pos 0
unfolding eq
row_of_zero f nan h = let z : ◌≡◌ {A = ℕ} 0 1 = cc in absurd (omega arith)
row_of_zero f (inf s) h = let z : ◌≡◌ {A = ℕ} 0 1 = cc in absurd (omega arith)
row_of_zero f (fin s m e) h =
    let none = eqb-true (m * up e * 1) (0 * down e) (first _ _ h) in
    let value : HasValue (fin s m e) s 0 1 = (refl, omega arith) in
    ap (λ (y : Float). hold (rint y))
    (mul-value f (fin s m e) (of_int f (pos 48)) s false 0 1 48 1 (zero-lt-suc 0) (zero-lt-suc 0) value (like_48 f)
    ∙ ap (λ (b : Bool). round f b (0 * 48) (1 * 1)) (unlike-positive s)
    ∙ round-zero f s (0 * 48) (1 * 1) (zero-lt-suc 0) refl)
    ∙ zero-rounds s
