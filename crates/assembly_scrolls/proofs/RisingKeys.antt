-- Quantised beats, each below the next as a float, have rows that rise, as keys. Assumes nothing.
use mathlib.Core.Path.{◌≡◌, refl, sym, ◌∙◌}
use mathlib.Core.Bool.{true}
use mathlib.Core.List.{List, [], ◌∷◌, map}
use lib.Ieee.{Float, lt}
use Rattle.rows.specs.Rows.{quantized}
use Rattle.limits.specs.declared.Kind.TheVariants.{Beat}
use Rattle.limits.specs.Numbers.{in_range, range_of, every, all_in}
use Rattle.limits.specs.Neighbours.{neighbours, every_two}
use Rattle.limits.proofs.Every.{every_rest}
use Rattle.limits.proofs.EachTwo.{passes}
use Rattle.tidy_by_rows.specs.ByMarks.{row_rises}
use Rattle.assembly_rows.proofs.InRowOrder.{quantized-below}
use Rattle.rows.proofs.Allowed.{taken-allowed}

pub rising-keys : (beats : List Float) → all_in (range_of Beat) beats ≡ true → every_two lt (map quantized beats) ≡ true → every_two row_rises (map quantized beats) ≡ true
unfolding neighbours every
rising-keys [] a t = refl
rising-keys (x ∷ []) a t = refl
rising-keys (x ∷ y ∷ beats) a t =
    let first = every_rest (in_range (range_of Beat)) x (y ∷ beats) a in
    let second = every_rest (in_range (range_of Beat)) y beats first.1 in
    let two = every_rest (passes lt) (quantized x, quantized y) (neighbours (map quantized (y ∷ beats))) t in
    rw (sym (quantized-below x y (taken-allowed x first.0) (taken-allowed y second.0)) ∙ two.0) (rising-keys (y ∷ beats) first.1 two.1)
