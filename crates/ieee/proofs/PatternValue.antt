-- The number that a bit pattern stands for, by its digits and its power, over the format. Assumes nothing.
use mathlib.Core.Path.{◌≡◌, refl, sym, ap₂, subst}
use mathlib.Core.Logic.{inl, inr}
use Prim.Native.Nat.{ℕ, zero, suc, ◌+◌, ◌-◌, ◌*◌, ◌%◌, ◌^◌, ◌≤◌, ◌<◌}
use native.Mathlib.Nat.{mod-lt, mul-pos, mul_comm, div-lt_iff_lt-mul, lt_of_lt_of_le, le_of_eq, zero-lt-suc}
use native.Mathlib.Omega.{arith}
use mathlib.Core.Bool.{Bool, true, false, cond}
use lib.Dec.{T, leb, eqb}
use lib.Pow.{pow_pos}
use lib.Ieee.{nan, inf, Format, prec, low, hid, ones, top, odd, of_fields, of_bits}
use lib.Ieee.Exact.{HasValue, odd_sign}
use lib.Ieee.Scale.{finite}
use borrow.Author.Tests.{eq-eqb, ne_eqb}
use Rattle.ieee.proofs.Closest.{lt_or_ge}
use Rattle.ieee.proofs.Fields.{normal_bits}
use Rattle.ieee.specs.inside.PatternParts.{field_of, digits_of, power_of}

module _ (f : Format) where
  -- of a field of 0
  low-fields : (s : Bool) (t : ℕ) → HasValue (of_fields f s zero t) s (t * 2 ^ 0) (2 ^ low f)
  unfolding of_fields
  low-fields s t = odd_sign (prec f) s t 0 (low f)

  -- what a finite pattern stands for: its digits times its power of two, in units of the smallest value
  pub pattern-value : (b : ℕ) → field_of f b < ones f → HasValue (of_bits f b) (leb (top f) b) (digits_of f b * 2 ^ power_of f b) (2 ^ low f)
  unfolding of_bits
  pattern-value b h = go (field_of f b) refl
    where
      go : (x : ℕ) → field_of f b ≡ x → HasValue (of_bits f b) (leb (top f) b) (digits_of f b * 2 ^ power_of f b) (2 ^ low f)
      go zero e = rw e (low-fields (leb (top f) b) (b % hid f))
      go (suc x) e =
          let v = normal_bits f b (leb (top f) b) x (b % hid f) refl e refl (subst (λ (z : ℕ). z < ones f) e h) in
          let i : power_of f b ≡ x = omega arith in
          let j : digits_of f b ≡ hid f + b % hid f = rw (ne_eqb (field_of f b) 0 (λ z. omega arith)) refl in
          subst (λ (n : ℕ). HasValue (of_bits f b) (leb (top f) b) n (2 ^ low f)) (sym (ap₂ (λ (d p : ℕ). d * 2 ^ p) j i)) v

  -- a finite number's field is not all ones
  pub finite-field : (b : ℕ) → T (finite (of_bits f b)) → field_of f b < ones f
  unfolding of_bits of_fields
  finite-field b h = elim (lt_or_ge (field_of f b) (ones f)) [
    | inl l ↦ l
    | inr l ↦
        let H : 0 < hid f = pow_pos (prec f - 1) in
        let u : field_of f b < suc (ones f) = (div-lt_iff_lt-mul H).1 (lt_of_lt_of_le (mod-lt b (mul-pos H (zero-lt-suc (ones f)))) (le_of_eq (mul_comm (hid f) (suc (ones f))))) in
        let e : field_of f b ≡ ones f = omega arith in
        absurd (never (leb (top f) b) (field_of f b) (b % hid f) e h)
  ]
    where
      never : (s : Bool) (x t : ℕ) → x ≡ ones f → T (finite (of_fields f s x t)) → ⊥
      never s zero t e h = omega arith
      never s (suc x) t e h = at_ones (eqb t 0) (subst (λ (i : Bool). T (finite (cond i (cond (eqb t 0) (inf s) nan) (odd (prec f) s (hid f + t) x (low f))))) (eq-eqb (suc x) (ones f) e) h)
        where
          at_ones : (i : Bool) → T (finite (cond i (inf s) nan)) → ⊥
          at_ones true h = h
          at_ones false h = h

  -- its digits are no more than the format keeps
  pub digits_lt : (b : ℕ) → digits_of f b < hid f + hid f
  digits_lt b = go (eqb (field_of f b) 0)
    where
      go : (i : Bool) → cond i (b % hid f) (hid f + b % hid f) < hid f + hid f
      go true = let m = mod-lt b (pow_pos (prec f - 1)) in omega arith
      go false = let m = mod-lt b (pow_pos (prec f - 1)) in omega arith

  -- and all of them are in use but at the lowest power
  pub digits-full : (b : ℕ) → 0 < power_of f b → hid f ≤ digits_of f b
  digits-full b h = rw (ne_eqb (field_of f b) 0 (λ z. omega arith)) (omega arith)
