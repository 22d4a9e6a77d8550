-- A multiply-add by whatever fractions the numbers are, over the format; that it is the two operations where the product is exact, or something in it is not finite; and what they leave finite, or no NaN. Assumes nothing.
use Rattle.std.proofs.Common.{◌≡◌, ℕ, ◌-◌, ◌*◌, ◌<◌, Bool, true, false, cond, not, ◌&&◌, T, eqb, pos, sym, refl, ap, ◌∙◌, subst, ap₂, mul-pos, arith}
use lib.Ieee.{Float, nan, inf, fin, Format, up, down, unlike, is_nan, sum, add, mul}
use lib.Ieee.Exact.{HasValue}
use lib.Ieee.Fits.{down_pos}
use lib.Ieee.Scale.{finite}
use Rattle.ieee.proofs.ByValue.{mul-value}
use Rattle.ieee.proofs.KeepsOrder.{round-zero}
use Rattle.ieee.proofs.SumByValue.{sum_same, add-values}
use Rattle.ieee.proofs.Values.{rescaled}
use Rattle.ieee_mul_add.specs.MulAdd.{fraction_plus, mul_add}

module _ (f : Format) where
  -- ---- between numbers, over one bottom c
  pub mul_add_values : (x y z : Float) (s t u : Bool) (a b p c d : ℕ) → 0 < c → 0 < d → HasValue x s a c → HasValue y t b d → HasValue z u p (c * d) → mul_add f x y z ≡ sum f (unlike s t) (a * b) u p (c * d)
  unfolding mul_add fraction_plus
  mul_add_values nan y z s t u a b p c d C D v w r = absurd v
  mul_add_values (inf i) y z s t u a b p c d C D v w r = absurd v
  mul_add_values (fin i m e) nan z s t u a b p c d C D v w r = absurd w
  mul_add_values (fin i m e) (inf j) z s t u a b p c d C D v w r = absurd w
  mul_add_values (fin i m e) (fin j n g) nan s t u a b p c d C D v w r = absurd r
  mul_add_values (fin i m e) (fin j n g) (inf k) s t u a b p c d C D v w r = absurd r
  mul_add_values (fin i m e) (fin j n g) (fin k o h) s t u a b p c d C D v w r =
      let top = m * up e * (n * up g) in
      let low = down e * down g in
      ap₂ (λ (q l : Bool). sum f q (top * down h) l (o * up h * low) (low * down h)) (ap₂ unlike v.0 w.0) r.0
      ∙ sum_same f (unlike s t) u (a * b) p (c * d) (top * down h) (o * up h * low) (low * down h) (mul-pos C D) (mul-pos (mul-pos (down_pos e) (down_pos g)) (down_pos h))
      (times (m * up e) c a (down e) (n * up g) d b (down g) (down h) v.1 w.1)
      (over (o * up h) c d p (down h) low r.1)
    where
      times : (x c a e y d b g h : ℕ) → x * c ≡ a * e → y * d ≡ b * g → x * y * h * (c * d) ≡ a * b * (e * g * h)
      times x c a e y d b g h p q = let i = ap₂ ◌*◌ p q in let j = ap (λ (z : ℕ). z * h) i in omega arith

      over : (x c d p h l : ℕ) → x * (c * d) ≡ p * h → x * l * (c * d) ≡ p * (l * h)
      over x c d p h l e = let i = ap (λ (z : ℕ). z * l) e in omega arith

  -- each over a bottom of its own
  pub mul_add_fractions : (x y z : Float) (s t u : Bool) (a b p c d e : ℕ) → 0 < c → 0 < d → 0 < e → HasValue x s a c → HasValue y t b d → HasValue z u p e → mul_add f x y z ≡ sum f (unlike s t) (a * b * e) u (p * (c * d)) (c * d * e)
  mul_add_fractions x y z s t u a b p c d e C D E v w r =
      mul_add_values x y z s t u (a * e) b (p * (c * d)) (c * e) d (mul-pos C E) D (rescaled x s a c (a * e) (c * e) C (both a e c) v) w (rescaled z u p e (p * (c * d)) (c * e * d) E (over p c d e) r)
      ∙ ap₂ (λ (n q : ℕ). sum f (unlike s t) n u (p * (c * d)) q) (turned a e b) (turned c e d)
    where
      both : (a e c : ℕ) → a * e * c ≡ a * (c * e)
      both a e c = omega arith

      over : (p c d e : ℕ) → p * (c * d) * e ≡ p * (c * e * d)
      over p c d e = omega arith

      turned : (a e b : ℕ) → a * e * b ≡ a * b * e
      turned a e b = omega arith

  -- ---- where the product is exact, or 0, it is the two operations
  module _ (x y z : Float) (s t : Bool) (a b c d : ℕ) (C : 0 < c) (D : 0 < d) (v : HasValue x s a c) (w : HasValue y t b d) where
    -- a product that the format holds is added as it is
    pub exact-product : T (finite z) → HasValue (mul f x y) (unlike s t) (a * b) (c * d) → add f (mul f x y) z ≡ mul_add f x y z
    exact-product Z h = go z Z
      where
        below : (p e n : ℕ) → p * e * n ≡ p * (n * e)
        below p e n = omega arith

        beside : (p e n : ℕ) → p * n * e ≡ p * (n * e)
        beside p e n = omega arith

        go : (z : Float) → T (finite z) → add f (mul f x y) z ≡ mul_add f x y z
        go nan Z = absurd Z
        go (inf u) Z = absurd Z
        go (fin u o g) Z =
            let p = o * up g in
            let e = down g in
            let E = down_pos g in
            let CD = mul-pos C D in
            add-values f (mul f x y) (fin u o g) (unlike s t) u (a * b * e) (p * (c * d)) (c * d * e) (mul-pos CD E)
            (rescaled (mul f x y) (unlike s t) (a * b) (c * d) (a * b * e) (c * d * e) CD (below (a * b) e (c * d)) h)
            (rescaled (fin u o g) u p e (p * (c * d)) (c * d * e) E (beside p e (c * d)) (refl, refl))
            ∙ sym (mul_add_fractions x y (fin u o g) s t u a b p c d e C D E v w (refl, refl))

    -- and so is a product that is 0
    pub zero-product : T (finite z) → a * b ≡ 0 → add f (mul f x y) z ≡ mul_add f x y z
    zero-product Z e =
        let n = mul-value f x y s t a c b d C D v w ∙ round-zero f (unlike s t) (a * b) (c * d) (mul-pos C D) e in
        exact-product Z (subst (λ (r : Float). HasValue r (unlike s t) (a * b) (c * d)) (sym n) (subst (λ (k : ℕ). HasValue (fin (unlike s t) 0 (pos 0)) (unlike s t) k (c * d)) (sym e) (refl, nothing (c * d))))
      where
        nothing : (k : ℕ) → 0 * 1 * k ≡ 0 * 1
        nothing k = omega arith

  -- ---- where something is not finite
  pub other-sum : (x y z : Float) → T (finite x) → T (finite y) → T (not (finite z)) → z ≡ mul_add f x y z
  unfolding mul_add fraction_plus
  other-sum nan y z X Y Z = absurd X
  other-sum (inf s) y z X Y Z = absurd X
  other-sum (fin s m e) nan z X Y Z = absurd Y
  other-sum (fin s m e) (inf t) z X Y Z = absurd Y
  other-sum (fin s m e) (fin t n d) nan X Y Z = refl
  other-sum (fin s m e) (fin t n d) (inf u) X Y Z = refl
  other-sum (fin s m e) (fin t n d) (fin u p g) X Y Z = absurd Z

  picked : (b : Bool) (u : Bool) (z : Float) → add f (cond b nan (inf u)) z ≡ cond b nan (add f (inf u) z)
  unfolding add
  picked true u z = refl
  picked false u z = refl

  -- nor is a product with what is not finite ever rounded
  pub other-product : (x y z : Float) → T (not (finite x && finite y)) → add f (mul f x y) z ≡ mul_add f x y z
  unfolding mul_add mul add
  other-product nan y z h = refl
  other-product (inf s) nan z h = refl
  other-product (inf s) (inf t) z h = refl
  other-product (inf s) (fin t n d) z h = picked (eqb n 0) (unlike s t) z
  other-product (fin s m e) nan z h = refl
  other-product (fin s m e) (inf t) z h = picked (eqb m 0) (unlike s t) z
  other-product (fin s m e) (fin t n d) z h = absurd h

  -- ---- a finite result of the two operations has finite parts
  infinite-sum : (s : Bool) (z : Float) → T (finite (add f (inf s) z)) → ⊥
  unfolding add
  infinite-sum s nan h = h
  infinite-sum true (inf true) h = h
  infinite-sum true (inf false) h = h
  infinite-sum false (inf true) h = h
  infinite-sum false (inf false) h = h
  infinite-sum s (fin t n d) h = h

  no_number : (b s : Bool) (z : Float) → T (finite (add f (cond b nan (inf s)) z)) → ⊥
  unfolding add
  no_number true s z h = h
  no_number false s z h = infinite-sum s z h

  finite-addend : (w z : Float) → T (finite (add f w z)) → T (finite z)
  unfolding add
  finite-addend nan z h = absurd h
  finite-addend (inf s) z h = absurd (infinite-sum s z h)
  finite-addend (fin s m e) nan h = h
  finite-addend (fin s m e) (inf t) h = h
  finite-addend (fin s m e) (fin t n d) h = tt

  -- so all three were finite
  pub finite-parts : (x y z : Float) → T (finite (add f (mul f x y) z)) → T (finite x) × T (finite y) × T (finite z)
  unfolding add mul
  finite-parts nan y z h = absurd h
  finite-parts (inf s) nan z h = absurd h
  finite-parts (inf s) (inf t) z h = absurd (infinite-sum (unlike s t) z h)
  finite-parts (inf s) (fin t n d) z h = absurd (no_number (eqb n 0) (unlike s t) z h)
  finite-parts (fin s m e) nan z h = absurd h
  finite-parts (fin s m e) (inf t) z h = absurd (no_number (eqb m 0) (unlike s t) z h)
  finite-parts (fin s m e) (fin t n d) z h = (tt, tt, finite-addend (mul f (fin s m e) (fin t n d)) z h)

  -- ---- and one that is no NaN has no NaN in it
  pub number-factors : (x y : Float) → T (not (is_nan (mul f x y))) → T (not (is_nan x)) × T (not (is_nan y))
  unfolding mul is_nan
  number-factors nan y h = absurd h
  number-factors (inf s) nan h = absurd h
  number-factors (inf s) (inf t) h = (tt, tt)
  number-factors (inf s) (fin t n d) h = (tt, tt)
  number-factors (fin s m e) nan h = absurd h
  number-factors (fin s m e) (inf t) h = (tt, tt)
  number-factors (fin s m e) (fin t n d) h = (tt, tt)

  -- of a sum
  pub number_summands : (w z : Float) → T (not (is_nan (add f w z))) → T (not (is_nan w)) × T (not (is_nan z))
  unfolding add is_nan
  number_summands nan z h = absurd h
  number_summands (inf s) nan h = absurd h
  number_summands (inf s) (inf t) h = (tt, tt)
  number_summands (inf s) (fin t n d) h = (tt, tt)
  number_summands (fin s m e) nan h = absurd h
  number_summands (fin s m e) (inf t) h = (tt, tt)
  number_summands (fin s m e) (fin t n d) h = (tt, tt)
