-- Quantised beats, each below the next as a float, rise by row; and where no given beat is above the next, the rows of the quantised ones never fall. Assumes nothing.
use Prim.Native.Nat.{ℕ, ◌≤◌, ◌<◌}
use mathlib.Core.Path.{◌≡◌, refl, sym, ap₂, ◌∙◌, subst}
use mathlib.Core.Logic.{inl, inr}
use mathlib.Core.Bool.{Bool, true, false, not}
use mathlib.Core.List.{List, [], ◌∷◌, map}
use native.Mathlib.Omega.{arith}
use borrow.Author.Tests.{ltb-true, le-leb, leb-true}
use lib.Dec.{T, ltb, leb}
use lib.IntN.{ℤ, nat_abs}
use lib.Signed.{le_z}
use lib.Ieee.{Float, binary32, binary64, lt, le}
use lib.Ieee.Bits.{is_true}
use Rattle.ieee.specs.Narrowing.{narrow}
use Rattle.ieee.proofs.FloatOrder.{lt_or_le}
use Rattle.ieee.proofs.Narrow.{narrow_keeps_order}
use Rattle.rows.specs.Rows.{row, quantized, allowed_beat}
use Rattle.rows.proofs.BeatsRise.{beat-order}
use Rattle.rows.proofs.Quantizing.{narrow-allowed, row-quantized}
use Rattle.rows.proofs.RowWithin.{row_within, in_i32}
use Rattle.rows.proofs.RowsKeepOrder.{row_mono}
use Rattle.limits.specs.declared.Kind.TheVariants.{Beat}
use Rattle.limits.specs.Numbers.{in_range, range_of, all_in, most_row}
use Rattle.limits.proofs.Every.{every_rest}
use Rattle.order.specs.Order.{may_precede, never_falls, Above, Rises}
use Rattle.rows.specs.RowKey.{row_key, row_key_at}
use Rattle.rows.proofs.RowKeys.{rows-below, rows_at_most}
use Rattle.limits.specs.Neighbours.{neighbours, every_two, not_falling}
use Rattle.rows.proofs.Allowed.{taken-allowed, allowed-finite}

-- the f32 row, which is the row of the quantised beat
abbrev pub narrow_row : Float → ℤ
narrow_row beat = row binary32 (narrow beat)

pub narrow_row_within : (beat : Float) → T (allowed_beat beat) → nat_abs (narrow_row beat) ≤ most_row
narrow_row_within beat h = row_within binary32 (narrow beat) (narrow-allowed beat h)

pub quantized-below : (x y : Float) → T (allowed_beat x) → T (allowed_beat y) → lt (quantized x) (quantized y) ≡ ltb (row_key_at (quantized x)) (row_key_at (quantized y))
quantized-below x y p q =
    let a = narrow_row_within x p in
    let b = narrow_row_within y q in
    beat-order binary32 (narrow_row x) (narrow_row y) a b
    ∙ rows-below (narrow_row x) (narrow_row y) (in_i32 (narrow_row x) a) (in_i32 (narrow_row y) b)
    ∙ sym (ap₂ (λ (r s : ℤ). ltb (row_key r) (row_key s)) (row-quantized x p binary64) (row-quantized y q binary64))

above_more : (j k : ℕ) (l : List Float) → j < k → Above row_key_at k l → Above row_key_at j l
above_more j k [] h a = tt
above_more j k (x ∷ l) h a = (omega (arith, a.0), above_more j k l h a.1)

pub rising-rows : (beats : List Float) → all_in (range_of Beat) beats ≡ true → every_two lt (map quantized beats) ≡ true → Rises row_key_at (map quantized beats)
unfolding neighbours
rising-rows [] a t = tt
rising-rows (x ∷ []) a t = (tt, tt)
rising-rows (x ∷ y ∷ beats) a t =
    let first = every_rest (in_range (range_of Beat)) x (y ∷ beats) a in
    let second = every_rest (in_range (range_of Beat)) y beats first.1 in
    let two = every_rest (λ (e : Float × Float). lt e.0 e.1) (quantized x, quantized y) (neighbours (map quantized (y ∷ beats))) t in
    let rest = rising-rows (y ∷ beats) first.1 two.1 in
    let below = ltb-true (row_key_at (quantized x)) (row_key_at (quantized y)) (sym (quantized-below x y (taken-allowed x first.0) (taken-allowed y second.0)) ∙ two.0) in
    ((below, above_more (row_key_at (quantized x)) (row_key_at (quantized y)) (map quantized beats) below rest.0), rest)

-- ---- beats of which none is above the next
not_both : (t : Bool) → T t → T (not t) → ⊥
not_both true h k = k
not_both false h k = h

quantized_not_above : (x y : Float) → T (allowed_beat x) → T (allowed_beat y) → not_falling x y ≡ true → row_key_at (quantized x) ≤ row_key_at (quantized y)
quantized_not_above x y p q h =
    let a = narrow_row_within x p in
    let b = narrow_row_within y q in
    let below : T (le x y) = elim (lt_or_le y x (allowed-finite y q) (allowed-finite x p)) [ inl l ↦ absurd (not_both (lt y x) l (subst T (sym h) tt)) | inr g ↦ g ] in
    let up = row_mono binary32 (narrow x) (narrow y) (narrow-allowed x p) (narrow-allowed y q) (narrow_keeps_order x y below) in
    leb-true (row_key_at (quantized x)) (row_key_at (quantized y))
    (ap₂ (λ (r s : ℤ). leb (row_key r) (row_key s)) (row-quantized x p binary64) (row-quantized y q binary64)
    ∙ sym (rows_at_most (narrow_row x) (narrow_row y) (in_i32 (narrow_row x) a) (in_i32 (narrow_row y) b)) ∙ is_true (le_z (narrow_row x) (narrow_row y)) up)

pub rows_never_fall : (beats : List Float) → all_in (range_of Beat) beats ≡ true → every_two not_falling beats ≡ true → never_falls row_key_at (map quantized beats) ≡ true
unfolding neighbours never_falls may_precede
rows_never_fall [] a t = refl
rows_never_fall (x ∷ []) a t = refl
rows_never_fall (x ∷ y ∷ beats) a t =
    let first = every_rest (in_range (range_of Beat)) x (y ∷ beats) a in
    let second = every_rest (in_range (range_of Beat)) y beats first.1 in
    let two = every_rest (λ (e : Float × Float). not_falling e.0 e.1) (x, y) (neighbours (y ∷ beats)) t in
    let rest = rows_never_fall (y ∷ beats) first.1 two.1 in
    rw (le-leb (row_key_at (quantized x)) (row_key_at (quantized y)) (quantized_not_above x y (taken-allowed x first.0) (taken-allowed y second.0) two.0)) rest
