-- f32s are laid as they are, cast or narrowed; beats that are on rows are f32s, and so laid where they rise. Assumes nothing.
use Prim.Native.Nat.{ℕ, zero, suc, ◌≤◌, ◌<◌, min}
use mathlib.Core.Path.{◌≡◌, refl, sym, ap, ap₂, ◌∙◌, subst}
use mathlib.Core.Bool.{true, not}
use mathlib.Core.List.{List, [], ◌∷◌, map}
use native.Mathlib.Omega.{arith}
use borrow.Author.Tests.{eq-eqb}
use lib.Dec.{T}
use lib.ListN.{length, get_or, length-map}
use lib.Ieee.{Float, nan, binary32, fits, is_nan, lt}
use lib.Ieee.Bits.{is_true}
use lib.Ieee.Fits.{and_i, and_l}
use Rattle.ieee.specs.Narrowing.{narrow}
use Rattle.ieee.proofs.Narrow.{narrow-own}
use Rattle.rows.specs.Rows.{quantized}
use Rattle.limits.specs.Numbers.{every}
use Rattle.limits.specs.Neighbours.{every_two}
use Rattle.limits.proofs.Every.{every_rest}
use Rattle.limits.proofs.ListTaken.{list-taken}
use Rattle.order.specs.Order.{laid}
use Rattle.order.proofs.Columns.{length-entries, first-entries, second-entries}
use Rattle.columns.specs.Each.{laid_each}
use Rattle.columns.proofs.Rooms.{taken}
use Rattle.columns.proofs.EachOverFront.{each_over_front, copied_over_front}
use Rattle.tidy_rows.specs.RowTidying.{rows_number}
use Rattle.assembly_rows.specs.AssembledRows.{each_by_itself, RowsUntested}
use Rattle.assembly_tempos.specs.inside.ProcessedColumns.{held_f32}
use Rattle.columns_each.proofs.QuantizedNumbers.{quantized-fits, quantized-number}
use Rattle.assembly_rows.proofs.Untested.{rising}
use Rattle.assembly_rows.specs.declared.Meaning.TheVariants.{Values}

-- ---- columns of f32s

pub held_at : (l : List Float) → every held_f32 l ≡ true → (i : ℕ) → i < length l → T (held_f32 (get_or l i nan))
unfolding every
held_at [] h i k = absurd (omega arith)
held_at (x ∷ l) h zero k = subst T (sym (every_rest held_f32 x l h).0) tt
held_at (x ∷ l) h (suc i) k = held_at l (every_rest held_f32 x l h).1 i (omega arith)

held-own : (x : Float) → held_f32 x ≡ true → narrow x ≡ x
held-own x h = narrow-own x (and_l (fits binary32 x) (not (is_nan x)) (subst T (sym h) tt))

-- cast or narrowed, they are laid as they are
pub held-laid : (from old : List Float) → every held_f32 from ≡ true → laid_each (λ (x : Float). x) from old ≡ laid_each narrow from old
unfolding laid_each every
held-laid [] old h = refl
held-laid (x ∷ from) [] h = refl
held-laid (x ∷ from) (y ∷ old) h = let xs = every_rest held_f32 x from h in ap₂ ◌∷◌ (sym (held-own x xs.0)) (held-laid from old xs.1)

pub on_row_held : (l : List Float) → map quantized l ≡ l → every held_f32 l ≡ true
unfolding every
on_row_held l h = subst (λ (m : List Float). every held_f32 m ≡ true) h (go l)
  where
    go : (l : List Float) → every held_f32 (map quantized l) ≡ true
    go [] = refl
    go (x ∷ l) = rw (is_true (held_f32 (quantized x)) (and_i (fits binary32 (quantized x)) (not (is_nan (quantized x))) (quantized-fits x) (quantized-number x))) (go l)

module _ (beats values beats_old values_old : List Float) (h : rows_number beats values ≡ 0) (on_rows : map quantized beats ≡ beats) (rises : every_two lt beats ≡ true) (room : length beats ≤ min (length beats_old) (length values_old)) where
  even : length beats ≡ length (map narrow values)
  even = (list-taken h).even ∙ sym (length-map values narrow)

  long : length (each_by_itself Values beats values) ≡ length beats
  long = length-entries beats (map narrow values) even

  pub laid_as_they_are : RowsUntested Values beats values (record { number = 0; count = length beats }) beats_old (laid_each (λ (x : Float). x) beats beats_old) values_old (laid_each narrow values values_old)
  laid_as_they_are =
      rising beats values Values (list-taken h).even (list-taken h).few (sym on_rows) rises
      (taken _ (each_by_itself Values beats values) beats_old values_old (length beats) _ _ (rw (eq-eqb (length beats) (length values) (list-taken h).even)) (omega (arith, long, room)) (sym long)
      (copied_over_front beats beats_old (omega (arith, room)) ∙ ap (λ (l : List Float). laid l beats_old) (sym (first-entries beats (map narrow values) even)))
      (each_over_front narrow values values_old (omega (arith, room, (list-taken h).even)) ∙ ap (λ (l : List Float). laid l values_old) (sym (second-entries beats (map narrow values) even))))
