-- Rounding keeps the order of numbers of either sign, over the format: of two fractions, and of two floats at another format. Assumes nothing.
use mathlib.Core.Path.{◌≡◌, refl, sym, ap, ◌∙◌}
use Prim.Native.Nat.{ℕ, ◌*◌, ◌<◌}
use native.Mathlib.Nat.{eq_of_mul-eq-mul_right, zero-mul, zero-lt-suc}
use native.Mathlib.Omega.{arith}
use mathlib.Core.Bool.{Bool, true, false, not, true≢false}
use lib.IntN.{pos}
use lib.Signed.{◌≤ℤ◌}
use lib.Dec.{T, leb→le}
use lib.Ieee.{Float, nan, inf, fin, Format, up, down, fits, round, neg, le, is_nan}
use lib.Ieee.Fits.{down_pos}
use lib.Ieee.Order.{round_mono}
use lib.Ieee.Scale.{round_same}
use Rattle.ieee.specs.Rounding.{signed}
use Rattle.ieee.specs.Narrowing.{convert}
use Rattle.ieee.specs.inside.Spacing.{with_sign}
use Rattle.ieee.specs.Nearest.{sign_of}
use Rattle.ieee.proofs.Tests.{or_false, not_above_lem}
use Rattle.ieee.proofs.SignedSizes.{ordered-turned, ordered-whole, whole-ordered, test-ordered, ordered-test}
use Rattle.ieee.proofs.Signs.{round-signed}
use Rattle.ieee.proofs.Units.{round-sign, round_number}
use Rattle.ieee.proofs.Convert.{round-own}

-- ---- the other sign
neg_signed : (x : Float) → sign_of x ≡ false → with_sign true x ≡ neg x
unfolding with_sign neg
neg_signed nan e = refl
neg_signed (inf s) e = ap (λ (t : Bool). inf (not t)) (sym e)
neg_signed (fin s m k) e = ap (λ (t : Bool). fin (not t) m k) (sym e)

round_neg : (f : Format) (num den : ℕ) → round f true num den ≡ neg (round f false num den)
round_neg f num den = round-signed f true false num den ∙ neg_signed (round f false num den) (round-sign f false num den)

-- ---- and the order, turned round
le_neg_neg : (x y : Float) → T (le y x) → T (le (neg x) (neg y))
unfolding le neg
le_neg_neg nan nan h = absurd h
le_neg_neg nan (inf t) h = absurd h
le_neg_neg nan (fin t n d) h = absurd h
le_neg_neg (inf s) nan h = absurd h
le_neg_neg (inf true) (inf true) h = tt
le_neg_neg (inf true) (inf false) h = absurd h
le_neg_neg (inf false) (inf true) h = tt
le_neg_neg (inf false) (inf false) h = tt
le_neg_neg (inf s) (fin t n d) h = h
le_neg_neg (fin s m e) nan h = absurd h
le_neg_neg (fin s m e) (inf true) h = tt
le_neg_neg (fin s m e) (inf false) h = absurd h
le_neg_neg (fin s m e) (fin t n d) h =
    let a = m * up e * down d in
    let b = n * up d * down e in
    ordered-test (not s) (not t) a b (ordered-turned s t a b (test-ordered t s b a h))

-- what is not negative, and what is not positive
le_opposite : (x y : Float) → T (not (is_nan x)) → T (not (is_nan y)) → sign_of x ≡ true → sign_of y ≡ false → T (le x y)
unfolding le is_nan
le_opposite nan y h k s t = absurd h
le_opposite (inf u) nan h k s t = absurd k
le_opposite (inf true) (inf true) h k s t = absurd (true≢false t)
le_opposite (inf true) (inf false) h k s t = tt
le_opposite (inf false) (inf b) h k s t = absurd (true≢false (sym s))
le_opposite (inf true) (fin b n d) h k s t = tt
le_opposite (inf false) (fin b n d) h k s t = absurd (true≢false (sym s))
le_opposite (fin u m e) nan h k s t = absurd k
le_opposite (fin u m e) (inf true) h k s t = absurd (true≢false t)
le_opposite (fin u m e) (inf false) h k s t = tt
le_opposite (fin true m e) (fin true n d) h k s t = absurd (true≢false t)
le_opposite (fin true m e) (fin false n d) h k s t = not_above_lem (m * up e * down d) (n * up d * down e)
le_opposite (fin false m e) (fin b n d) h k s t = absurd (true≢false (sym s))

-- ---- `round`
pub round-zero : (f : Format) (s : Bool) (num den : ℕ) → 0 < den → num ≡ 0 → round f s num den ≡ fin s 0 (pos 0)
unfolding fits
round-zero f s num den D z = round_same f s num den 0 1 D (zero-lt-suc 0) (omega arith) ∙ round-own f s 0 (pos 0) tt

-- ±a / b ≤ ±c / d
pub round_keeps_order : (f : Format) (s t : Bool) (a b c d : ℕ) → 0 < b → 0 < d → signed s (a * d) ≤ℤ signed t (c * b) → T (le (round f s a b) (round f t c d))
round_keeps_order f false false a b c d B D h = round_mono f a b c d B D (leb→le (a * d) (c * b) h.le)
round_keeps_order f false true a b c d B D h =
    let z = whole-ordered false true (a * d) (c * b) h.le in
    let x = round-zero f false a b B (eq_of_mul-eq-mul_right d D a 0 (z.0 ∙ sym (zero-mul d))) in
    let y = round-zero f true c d D (eq_of_mul-eq-mul_right b B c 0 (z.1 ∙ sym (zero-mul b))) in
    rw (x, y) (unfold le in tt)
round_keeps_order f true false a b c d B D h = le_opposite (round f true a b) (round f false c d) (round_number f true a b) (round_number f false c d) (round-sign f true a b) (round-sign f false c d)
round_keeps_order f true true a b c d B D h = rw (round_neg f a b, round_neg f c d) (le_neg_neg (round f false a b) (round f false c d) (round_mono f c d a b D B (whole-ordered true true (a * d) (c * b) h.le)))

-- ---- a float at another format
inf_le : (s : Bool) (y : Float) → T s → T (not (is_nan y)) → T (le (inf s) y)
unfolding le is_nan
inf_le false y h k = absurd h
inf_le true nan h k = absurd k
inf_le true (inf true) h k = tt
inf_le true (inf false) h k = tt
inf_le true (fin t n d) h k = tt

le_inf : (x : Float) (t : Bool) → T (not t) → T (not (is_nan x)) → T (le x (inf t))
unfolding le is_nan
le_inf x true h k = absurd h
le_inf nan false h k = absurd k
le_inf (inf true) false h k = tt
le_inf (inf false) false h k = tt
le_inf (fin s m e) false h k = tt

pub convert_keeps_order : (f : Format) (x y : Float) → T (le x y) → T (le (convert f x) (convert f y))
unfolding le convert
convert_keeps_order f nan y h = absurd h
convert_keeps_order f (inf s) nan h = absurd h
convert_keeps_order f (inf s) (inf t) h = h
convert_keeps_order f (inf s) (fin t n d) h = inf_le s (round f t (n * up d) (down d)) (or_false s h) (round_number f t (n * up d) (down d))
convert_keeps_order f (fin s m e) nan h = absurd h
convert_keeps_order f (fin s m e) (inf t) h = le_inf (round f s (m * up e) (down e)) t (or_false (not t) h) (round_number f s (m * up e) (down e))
convert_keeps_order f (fin s m e) (fin t n d) h =
    let a = m * up e * down d in
    let b = n * up d * down e in
    round_keeps_order f s t (m * up e) (down e) (n * up d) (down d) (down_pos e) (down_pos d) (record { le = ordered-whole s t a b (test-ordered s t a b h) })
