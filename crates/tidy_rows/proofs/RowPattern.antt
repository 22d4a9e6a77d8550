-- The pattern of 48 times an allowed beat and 1.5 * 2 ^ 52, added in f64, is that of 1.5 * 2 ^ 52 and the beat's row more. Assumes nothing.
use Prim.Native.Nat.{ℕ, ◌+◌, ◌<◌}
use mathlib.Core.Path.{◌≡◌, sym, ap, ◌∙◌, subst}
use mathlib.Core.Logic.{⊎_elim}
use native.Mathlib.Omega.{arith}
use borrow.Author.Tests.{lt-ltb, le-ltb}
use lib.Dec.{T}
use lib.IntN.{ℤ, pos, sub_ℕ, ◌-ℤ◌}
use lib.Signed.{mag}
use lib.Ieee.{Float, binary64, add, to_bits}
use mir.Syntax.{w32, w64}
use mir.Val.{to_z}
use mir.ValLaws.{to_z_pos, to_z-of_z}
use Rattle.ieee.specs.Rounding.{rint}
use Rattle.ieee.specs.inside.FloatEnds.{InI32}
use Rattle.ieee.proofs.Held.{held-within}
use Rattle.ieee.proofs.RintBySum.{bias_float, bias_pattern, within-small, pattern-in64, difference-in64, difference_in32, difference32}
use Rattle.rows.specs.Rows.{allowed_beat}
use Rattle.rows.proofs.RowBySum.{product, product-within}
use Rattle.rows.specs.RowKey.{row_key}
use Rattle.order.proofs.Compare.{below?}
use Rattle.tidy_rows.specs.inside.Ways.{row_pattern}

counted : (n : ℕ) → mag (sub_ℕ n bias_pattern) < 2147483648 → n ≡ 0x4337_FFFF_8000_0000 + row_key (sub_ℕ n bias_pattern)
unfolding row_key
counted n h =
    ⊎_elim (λ l. let less = lt-ltb n bias_pattern l in let small = rw less at h in rw less (omega arith))
    (λ l. let more = le-ltb n bias_pattern l in rw more (omega arith)) (below? n bias_pattern)

module _ (beat : Float) (h : T (allowed_beat beat)) where
  within : InI32 (product beat)
  within = product-within beat h

  -- the pattern counts on from that of 1.5 * 2 ^ 52: its difference, without the machine's casts
  difference : to_z w64 (to_bits binary64 (add binary64 (product beat) bias_float)) -ℤ pos bias_pattern ≡ rint (product beat)
  difference =
      sym (to_z-of_z w32 _ (difference_in32 (product beat) within) ∙ to_z-of_z w64 _ (difference-in64 (product beat) within)) ∙ difference32 (product beat) within

  pub pattern-counts : to_bits binary64 (add binary64 (product beat) bias_float) ≡ row_pattern beat
  pattern-counts =
      let n = to_bits binary64 (add binary64 (product beat) bias_float) in
      let fits = pattern-in64 (product beat) within in
      let small = within-small (product beat) within in
      let less : sub_ℕ n bias_pattern ≡ rint (product beat) = ap (λ (z : ℤ). z -ℤ pos bias_pattern) (sym (to_z_pos w64 n fits.sfits)) ∙ difference in
      counted n (subst (λ (z : ℤ). mag z < 2147483648) (sym less) small)
      ∙ ap (λ (z : ℤ). 0x4337_FFFF_8000_0000 + row_key z) (less ∙ sym (held-within (rint (product beat)) small))
