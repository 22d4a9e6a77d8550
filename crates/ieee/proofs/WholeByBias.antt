-- What is left of an x within an i32 and 1.5 * 2 ^ 52, added in f64, without 1.5 * 2 ^ 52: the whole number nearest to x. Assumes nothing.
use mathlib.Core.Path.{◌≡◌, refl, ap, ◌∙◌}
use mathlib.Core.Logic.{inl, inr}
use mathlib.Core.Bool.{true, false}
use Prim.Native.Nat.{ℕ, suc, ◌+◌, ◌-◌, ◌*◌, ◌^◌}
use native.Mathlib.Nat.{zero-lt-suc}
use native.Mathlib.Omega.{arith}
use lib.IntN.{sub_ℕ}
use lib.Ieee.{Float, binary64, round, add, sub, of_int}
use lib.Ieee.Exact.{HasValue}
use borrow.Author.Tests.{lt-ltb, le-ltb}
use Rattle.ieee.specs.Rounding.{rint}
use Rattle.ieee.specs.inside.FloatEnds.{InI32}
use Rattle.ieee.proofs.Closest.{lt_or_ge}
use Rattle.ieee.proofs.SumByValue.{minus-values, minus-less}
use Rattle.ieee.proofs.RintBySum.{bias_float, bias_pattern, summed}

bias-value : HasValue bias_float false (3 * 2 ^ 51) 1
bias-value = (refl, refl)

left : (c : ℕ) (y : Float) → HasValue y false c 1 → sub binary64 y bias_float ≡ of_int binary64 (sub_ℕ (1074 * 2 ^ 52 + c) bias_pattern)
unfolding of_int
left c y v = elim (lt_or_ge c (3 * 2 ^ 51)) [
  | inl l ↦
      let less = lt-ltb (1074 * 2 ^ 52 + c) bias_pattern (omega arith) in
      let many : 3 * 2 ^ 51 - c ≡ suc (bias_pattern - suc (1074 * 2 ^ 52 + c)) = omega arith in
      minus-less binary64 y bias_float c (3 * 2 ^ 51) 1 (zero-lt-suc 0) l v bias-value ∙ rw less (ap (λ (n : ℕ). round binary64 true n 1) many)
  | inr g ↦
      let more = le-ltb (1074 * 2 ^ 52 + c) bias_pattern (omega arith) in
      let many : c - 3 * 2 ^ 51 ≡ 1074 * 2 ^ 52 + c - bias_pattern = omega arith in
      minus-values binary64 y bias_float c (3 * 2 ^ 51) 1 (zero-lt-suc 0) g v bias-value ∙ rw more (ap (λ (n : ℕ). round binary64 false n 1) many)
]

pub whole_by_bias : (x : Float) → InI32 x → sub binary64 (add binary64 x bias_float) bias_float ≡ of_int binary64 (rint x)
whole_by_bias x h = let s = summed x h in left s.count (add binary64 x bias_float) s.value ∙ ap (of_int binary64) s.near
