-- What marks mean: those of allowed beats are in the order of the beats' rows, and each stands for the beat of its row. Assumes nothing.
use Rattle.std.proofs.Common.{◌≡◌, ℕ, suc, ◌+◌, ◌-◌, ◌*◌, ◌^◌, ◌<◌, Bool, true, false, T, ltb, ℤ, sym, refl, ap, ◌∙◌, subst, ap₂, zero-lt-suc, arith, ltb-false, ltb-true, le-ltb, lt-ltb}
use lib.IntN.{sub_ℕ}
use lib.Signed.{mag, lt_z}
use lib.Ieee.{Float, binary64, lt, of_int}
use Rattle.ieee.specs.Rounding.{rint}
use Rattle.ieee.proofs.Held.{held-within}
use Rattle.ieee.proofs.SumByValue.{lt-values}
use Rattle.ieee.proofs.RintBySum.{bias_pattern, within-small, summed}
use Rattle.ieee.proofs.WholeByBias.{whole_by_bias}
use Rattle.rows.specs.Rows.{allowed_beat, row, beat_of}
use Rattle.rows.specs.Marks.{row_mark, forty_eighth, beat_of_mark}
use Rattle.rows.proofs.BeatBySum.{i32_by_sum}
use Rattle.rows.proofs.RowBySum.{product, product-within}

module _ (beat : Float) (h : T (allowed_beat beat)) where
  small : mag (rint (product beat)) < 2 ^ 31
  small = within-small (product beat) (product-within beat h)

  held : row binary64 beat ≡ rint (product beat)
  held = held-within (rint (product beat)) small

  pub mark-beat : beat_of_mark (row_mark beat) ≡ beat_of binary64 (row binary64 beat)
  unfolding row_mark beat_of_mark
  mark-beat =
      ap forty_eighth (whole_by_bias (product beat) (product-within beat h) ∙ ap (of_int binary64) (sym held))
      ∙ i32_by_sum (row binary64 beat) (subst (λ (z : ℤ). mag z < 2 ^ 31) (sym held) small)

-- two counts compare as what they are past another number
moved : (k n m a b : ℕ) → n ≡ k + a → m ≡ k + b → ltb a b ≡ ltb n m
moved k n m a b p q = go (ltb a b) refl
  where
    go : (t : Bool) → ltb a b ≡ t → ltb a b ≡ ltb n m
    go true h = h ∙ sym (lt-ltb n m (omega (arith, ltb-true a b h)))
    go false h = h ∙ sym (le-ltb n m (omega (arith, ltb-false a b h)))

turned : (k n m a b : ℕ) → n + suc a ≡ k → m + suc b ≡ k → ltb b a ≡ ltb n m
turned k n m a b p q = go (ltb b a) refl
  where
    go : (t : Bool) → ltb b a ≡ t → ltb b a ≡ ltb n m
    go true h = h ∙ sym (lt-ltb n m (omega (arith, ltb-true b a h)))
    go false h = h ∙ sym (le-ltb n m (omega (arith, ltb-false b a h)))

by_difference : (k n m : ℕ) → lt_z (sub_ℕ n k) (sub_ℕ m k) ≡ ltb n m
by_difference k n m = go (ltb n k) (ltb m k) refl refl
  where
    go : (s t : Bool) → ltb n k ≡ s → ltb m k ≡ t → lt_z (sub_ℕ n k) (sub_ℕ m k) ≡ ltb n m
    go true true p q = let l = ltb-true n k p in let r = ltb-true m k q in rw (p, q) (turned k n m (k - suc n) (k - suc m) (omega arith) (omega arith))
    go true false p q = let l = ltb-true n k p in let r = ltb-false m k q in rw (p, q) (sym (lt-ltb n m (omega arith)))
    go false true p q = let l = ltb-false n k p in let r = ltb-true m k q in rw (p, q) (sym (le-ltb n m (omega arith)))
    go false false p q = let l = ltb-false n k p in let r = ltb-false m k q in rw (p, q) (moved k n m (n - k) (m - k) (omega arith) (omega arith))

pub mark-order : (one other : Float) → T (allowed_beat one) → T (allowed_beat other) → lt (row_mark one) (row_mark other) ≡ lt_z (row binary64 one) (row binary64 other)
unfolding row_mark
mark-order one other h k =
    let s = summed (product one) (product-within one h) in
    let t = summed (product other) (product-within other k) in
    lt-values (row_mark one) (row_mark other) s.count t.count 1 (zero-lt-suc 0) s.value t.value
    ∙ moved (1074 * 2 ^ 52) (1074 * 2 ^ 52 + s.count) (1074 * 2 ^ 52 + t.count) s.count t.count refl refl
    ∙ sym (by_difference bias_pattern (1074 * 2 ^ 52 + s.count) (1074 * 2 ^ 52 + t.count))
    ∙ ap₂ lt_z (s.near ∙ sym (held one h)) (t.near ∙ sym (held other k))
