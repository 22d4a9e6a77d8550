-- A multiply-add at binary32 by way of the one at binary64: narrowed, where its pattern is harmless. Assumes nothing.
use Rattle.std.proofs.Common.{◌≡◌, ℕ, ◌*◌, ◌/◌, ◌%◌, ◌^◌, ◌<◌, ◌≤◌, Bool, true, false, cond, not, ◌&&◌, T, ltb, pos, sym, refl, ap, ◌∙◌, subst, inl, inr, eq-zero-or-pos, mul-pos, arith}
use mathlib.Core.Bool.{beq}
use lib.Ieee.{Float, nan, inf, fin, binary32, binary64, up, down, unlike, sum, size, span, climb, to_bits}
use lib.Ieee.Fits.{down_pos}
use lib.Ieee.Scale.{finite}
use Rattle.ieee.specs.Narrowing.{narrow}
use Rattle.ieee.proofs.NarrowOnce.{narrowed_once}
use Rattle.ieee.proofs.SumBySigns.{sum-signed, sum-zero}
use Rattle.ieee.specs.inside.Harmless.{Harmless}
use Rattle.ieee.specs.inside.SumSize.{sum_size}
use Rattle.ieee_mul_add.specs.MulAdd.{fraction_plus, mul_add}

zero_bits : (v : Bool) → to_bits binary64 (fin v 0 (pos 0)) % 2 ^ 63 ≡ 0
unfolding to_bits size span climb
zero_bits true = refl
zero_bits false = refl

module _ (s t : Bool) (a b c : ℕ) (C : 0 < c) where
  sum-once : Harmless (to_bits binary64 (sum binary64 s a t b c)) → narrow (sum binary64 s a t b c) ≡ sum binary32 s a t b c
  sum-once H = elim (eq-zero-or-pos (sum_size (beq s t) a b)) [
    | inl z ↦
        let e = sum-zero binary64 s t a b c C z in
        let h : 897 ≤ to_bits binary64 (fin (s && t) 0 (pos 0)) % 2 ^ 63 / 2 ^ 52 = subst (λ (x : Float). 897 ≤ to_bits binary64 x % 2 ^ 63 / 2 ^ 52) e H.normal in
        absurd (none (to_bits binary64 (fin (s && t) 0 (pos 0))) h (zero_bits (s && t)))
    | inr p ↦
        let q = cond (not (beq s t) && ltb a b) t s in
        let n = sum_size (beq s t) a b in
        let e = sum-signed binary64 s t a b c p in
        ap narrow e ∙ narrowed_once q n c C (subst (λ (x : Float). Harmless (to_bits binary64 x)) e H) ∙ sym (sum-signed binary32 s t a b c p)
  ]
    where
      none : (b : ℕ) → 897 ≤ b % 2 ^ 63 / 2 ^ 52 → b % 2 ^ 63 ≡ 0 → ⊥
      none b h g = omega arith

-- so a multiply-add at binary32 is the one at binary64, narrowed, where that does no harm
pub narrowed_multiply_add : (x y z : Float) → T (finite x) → T (finite y) → T (finite z) → Harmless (to_bits binary64 (mul_add binary64 x y z)) → narrow (mul_add binary64 x y z) ≡ mul_add binary32 x y z
unfolding mul_add fraction_plus
narrowed_multiply_add nan y z X Y Z H = absurd X
narrowed_multiply_add (inf s) y z X Y Z H = absurd X
narrowed_multiply_add (fin s m e) nan z X Y Z H = absurd Y
narrowed_multiply_add (fin s m e) (inf t) z X Y Z H = absurd Y
narrowed_multiply_add (fin s m e) (fin t n d) nan X Y Z H = absurd Z
narrowed_multiply_add (fin s m e) (fin t n d) (inf u) X Y Z H = absurd Z
narrowed_multiply_add (fin s m e) (fin t n d) (fin u p g) X Y Z H =
    sum-once (unlike s t) u (m * up e * (n * up d) * down g) (p * up g * (down e * down d)) (down e * down d * down g) (mul-pos (mul-pos (down_pos e) (down_pos d)) (down_pos g)) H
