-- What is made of floats, by the fractions that they equal: the nearest whole number, a sum, a difference, a product, a quotient; and a whole number as a float. Assumes nothing.
use mathlib.Core.Path.{◌≡◌, refl, sym, ap, ap₂, ◌∙◌, subst}
use mathlib.Core.Bool.{Bool, true, false, not, cond}
use Prim.Native.Nat.{ℕ, zero, suc, ◌+◌, ◌-◌, ◌*◌, ◌^◌, ◌≤◌, ◌<◌}
use native.Mathlib.Nat.{le_of_eq, le_of_lt, lt_of_not-le, not-le_of_lt, eq_of_mul-eq-mul_right, mul-sub, mul_comm, mul-mul-mul_comm, mul-pos, zero-mul, zero-lt-suc, lt_irrefl}
use native.Mathlib.Omega.{arith}
use lib.IntN.{ℤ, pos, negsuc, nat_abs}
use lib.Dec.{eqb, eqb→eq, not_T}
use lib.Ieee.{Float, nan, inf, fin, Format, prec, up, down, unlike, round, sum, neg, add, sub, mul, div, of_int}
use lib.Ieee.Back.{round_whole}
use lib.Ieee.Bits.{cond_no}
use lib.Ieee.Exact.{HasValue}
use lib.Ieee.Fits.{down_pos, up_pos}
use lib.Ieee.Nearest.{closest, closest_same}
use lib.Ieee.Order.{transfer}
use lib.Ieee.Scale.{round_same}
use borrow.Author.Tests.{lt-ltb, le-ltb}
use Rattle.ieee.specs.Rounding.{signed, rint}
use Rattle.ieee.proofs.SignedSizes.{negative}

pub rint-value : (x : Float) (s : Bool) (num den : ℕ) → 0 < den → HasValue x s num den → rint x ≡ signed s (closest num den)
unfolding rint
rint-value nan s num den D v = absurd v
rint-value (inf t) s num den D v = absurd v
rint-value (fin t m e) s num den D v =
    ap (λ (b : Bool). signed b (closest (m * up e) (down e))) v.0 ∙ ap (signed s) (closest_same (m * up e) (down e) num den (down_pos e) D v.1)

-- a fraction above 0 has a numerator above 0
positive : (n u d b k : ℕ) → 0 < b → 0 < k → n * u * d ≡ b * k → 0 < n
positive zero u d b k B K e = absurd (lt_irrefl 0 (subst (λ (x : ℕ). 0 < x) (sym e ∙ ap (λ (x : ℕ). x * d) (zero-mul u) ∙ zero-mul d) (mul-pos B K)))
positive (suc n) u d b k B K e = zero-lt-suc n

neg_value : (x : Float) (s : Bool) (a c : ℕ) → HasValue x s a c → HasValue (neg x) (not s) a c
unfolding neg
neg_value nan s a c v = v
neg_value (inf t) s a c v = v
neg_value (fin t m e) s a c v = (ap not v.0, v.1)

sub-mul : (a b k : ℕ) → (a - b) * k ≡ a * k - b * k
sub-mul a b k = mul_comm (a - b) k ∙ mul-sub k a b ∙ ap₂ ◌-◌ (mul_comm k a) (mul_comm k b)

module _ (f : Format) where
  -- two of unlike signs, where the first is the larger, and where they are as large
  less-sum : (s : Bool) (a b c : ℕ) → b < a → sum f s a (not s) b c ≡ round f s (a - b) c
  unfolding sum
  less-sum true a b c h = rw (le-ltb a b (le_of_lt h), lt-ltb b a h)
  less-sum false a b c h = rw (le-ltb a b (le_of_lt h))

  equal-sum : (s : Bool) (a b c : ℕ) → a ≡ b → sum f s a (not s) b c ≡ round f false 0 c
  unfolding sum
  equal-sum true a b c h = rw (le-ltb a b (le_of_eq (sym h)), le-ltb b a (le_of_eq h)) (ap (λ (x : ℕ). round f false x c) (omega arith))
  equal-sum false a b c h = rw (le-ltb a b (le_of_eq (sym h))) (ap (λ (x : ℕ). round f false x c) (omega arith))

  -- two of one sign
  pub add-value : (x y : Float) (s : Bool) (a c b d : ℕ) → 0 < c → 0 < d → HasValue x s a c → HasValue y s b d → add f x y ≡ round f s (a * d + b * c) (c * d)
  unfolding add sum
  add-value nan y s a c b d C D v w = absurd v
  add-value (inf u) y s a c b d C D v w = absurd v
  add-value (fin u m e) nan s a c b d C D v w = absurd w
  add-value (fin u m e) (inf z) s a c b d C D v w = absurd w
  add-value (fin u m e) (fin z n g) s a c b d C D v w =
      let x = m * up e in
      let y = n * up g in
      let p = ap (λ (k : ℕ). k * (d * down g)) v.1 in
      let q = ap (λ (k : ℕ). k * (c * down e)) w.1 in
      ap₂ (λ (i j : Bool). sum f i (x * down g) j (y * down e) (down e * down g)) v.0 w.0
      ∙ alike s (x * down g) (y * down e) (down e * down g)
      ∙ round_same f s (x * down g + y * down e) (down e * down g) (a * d + b * c) (c * d) (mul-pos (down_pos e) (down_pos g)) (mul-pos C D) (omega arith)
    where
      alike : (s : Bool) (a b c : ℕ) → sum f s a s b c ≡ round f s (a + b) c
      alike true a b c = refl
      alike false a b c = refl

  -- two of unlike signs, where the first is the larger, and where they are as large: the sum is +0 then
  module _ (s : Bool) (a c b d : ℕ) (C : 0 < c) (D : 0 < d) where
    pub add-less : (x y : Float) → HasValue x s a c → HasValue y (not s) b d → b * c < a * d → add f x y ≡ round f s (a * d - b * c) (c * d)
    unfolding add
    add-less nan y v w l = absurd v
    add-less (inf u) y v w l = absurd v
    add-less (fin u m e) nan v w l = absurd w
    add-less (fin u m e) (inf z) v w l = absurd w
    add-less (fin u m e) (fin z n g) v w l =
        let x = m * up e * down g in
        let y = n * up g * down e in
        let p : x * (c * d) ≡ a * d * (down e * down g) = let p = ap (λ (k : ℕ). k * (d * down g)) v.1 in omega arith in
        let q : y * (c * d) ≡ b * c * (down e * down g) = let q = ap (λ (k : ℕ). k * (c * down e)) w.1 in omega arith in
        let less : y < x = lt_of_not-le (λ (h : x ≤ y). not-le_of_lt l (transfer a b c d (m * up e) (n * up g) (down e) (down g) (down_pos e) (down_pos g) (sym v.1) (sym w.1) h)) in
        ap₂ (λ (i j : Bool). sum f i x j y (down e * down g)) v.0 w.0
        ∙ less-sum s x y (down e * down g) less
        ∙ round_same f s (x - y) (down e * down g) (a * d - b * c) (c * d) (mul-pos (down_pos e) (down_pos g)) (mul-pos C D)
        (sub-mul x y (c * d) ∙ ap₂ ◌-◌ p q ∙ sym (sub-mul (a * d) (b * c) (down e * down g)))

    add_none : (x y : Float) → HasValue x s a c → HasValue y (not s) b d → a * d ≡ b * c → add f x y ≡ round f false 0 1
    unfolding add
    add_none nan y v w l = absurd v
    add_none (inf u) y v w l = absurd v
    add_none (fin u m e) nan v w l = absurd w
    add_none (fin u m e) (inf z) v w l = absurd w
    add_none (fin u m e) (fin z n g) v w l =
        let x = m * up e * down g in
        let y = n * up g * down e in
        let p = ap (λ (k : ℕ). k * (d * down g)) v.1 in
        let q = ap (λ (k : ℕ). k * (c * down e)) w.1 in
        let r = ap (λ (k : ℕ). k * (down e * down g)) l in
        let same : x ≡ y = eq_of_mul-eq-mul_right (c * d) (mul-pos C D) x y (omega arith) in
        ap₂ (λ (i j : Bool). sum f i x j y (down e * down g)) v.0 w.0
        ∙ equal-sum s x y (down e * down g) same
        ∙ round_same f false 0 (down e * down g) 0 1 (mul-pos (down_pos e) (down_pos g)) (zero-lt-suc 0) (omega arith)

    -- so the difference of two of one sign
    pub sub-above : (x y : Float) → HasValue x s a c → HasValue y s b d → b * c < a * d → sub f x y ≡ round f s (a * d - b * c) (c * d)
    unfolding sub
    sub-above x y v w = add-less x (neg y) v (neg_value y s b d w)

    pub sub-equal : (x y : Float) → HasValue x s a c → HasValue y s b d → a * d ≡ b * c → sub f x y ≡ round f false 0 1
    unfolding sub
    sub-equal x y v w = add_none x (neg y) v (neg_value y s b d w)

  pub mul-value : (x y : Float) (s t : Bool) (a c b d : ℕ) → 0 < c → 0 < d → HasValue x s a c → HasValue y t b d → mul f x y ≡ round f (unlike s t) (a * b) (c * d)
  unfolding mul
  mul-value nan y s t a c b d C D v w = absurd v
  mul-value (inf u) y s t a c b d C D v w = absurd v
  mul-value (fin u m e) nan s t a c b d C D v w = absurd w
  mul-value (fin u m e) (inf z) s t a c b d C D v w = absurd w
  mul-value (fin u m e) (fin z n g) s t a c b d C D v w =
      ap₂ (λ (p q : Bool). round f (unlike p q) (m * up e * (n * up g)) (down e * down g)) v.0 w.0
      ∙ round_same f (unlike s t) (m * up e * (n * up g)) (down e * down g) (a * b) (c * d) (mul-pos (down_pos e) (down_pos g)) (mul-pos C D)
      (mul-mul-mul_comm (m * up e) (n * up g) c d ∙ ap₂ ◌*◌ v.1 w.1 ∙ mul-mul-mul_comm a (down e) b (down g))

  pub div_value : (x y : Float) (s t : Bool) (a c b d : ℕ) → 0 < c → 0 < d → 0 < b → HasValue x s a c → HasValue y t b d → div f x y ≡ round f (unlike s t) (a * d) (b * c)
  unfolding div
  div_value nan y s t a c b d C D B v w = absurd v
  div_value (inf u) y s t a c b d C D B v w = absurd v
  div_value (fin u m e) nan s t a c b d C D B v w = absurd w
  div_value (fin u m e) (inf z) s t a c b d C D B v w = absurd w
  div_value (fin u m e) (fin z n g) s t a c b d C D B v w =
      let x = m * up e in
      let y = n * up g in
      let N : 0 < n = positive n (up g) d b (down g) B (down_pos g) w.1 in
      cond_no (eqb n 0) (cond (eqb m 0) nan (inf (unlike u z))) (round f (unlike u z) (x * down g) (y * down e)) (not_T (eqb n 0) (λ h. let e = eqb→eq n 0 h in omega arith))
      ∙ ap₂ (λ (p q : Bool). round f (unlike p q) (x * down g) (y * down e)) v.0 w.0
      ∙ round_same f (unlike s t) (x * down g) (y * down e) (a * d) (b * c) (mul-pos (mul-pos N (up_pos g)) (down_pos e)) (mul-pos B C)
      (ap (λ (k : ℕ). x * down g * k) (mul_comm b c)
      ∙ mul-mul-mul_comm x (down g) c b
      ∙ ap₂ ◌*◌ v.1 (mul_comm (down g) b ∙ sym w.1 ∙ mul_comm y d)
      ∙ mul-mul-mul_comm a (down e) d y
      ∙ ap (λ (k : ℕ). a * d * k) (mul_comm (down e) y))

pub whole-value : (f : Format) (z : ℤ) → nat_abs z ≤ 2 ^ prec f → HasValue (of_int f z) (negative z) (nat_abs z) 1
unfolding of_int
whole-value f (pos n) h = round_whole f false n h
whole-value f (negsuc n) h = round_whole f true (suc n) h
