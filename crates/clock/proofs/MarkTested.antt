-- The number of a timing that is given with a mark, by the mark that is made of it. Assumes nothing.
use mathlib.Core.Bool.{Bool, true, false}
use mathlib.Core.Path.{◌≡◌, refl, sym, ◌∙◌}
use borrow.Author.Tests.{eq-eqb, ne_eqb, eqb-true}
use lib.Dec.{eqb}
use lib.Ieee.{Float}
use Rattle.rows.proofs.RowOrder.{no}
use Rattle.limits.specs.Table.{not_rising}
use Rattle.picks.specs.Pick.{pick}
use Rattle.chart.specs.Timing.{Timing}
use Rattle.clock_walk.specs.declared.Mark.{Mark}
use Rattle.clock_tests.specs.TimingNumbers.{timing_number}
use Rattle.clock.specs.Marked.{mark_of, no_mark, mark_made, same_mark, marked_timing_number}
use Rattle.clock.specs.declared.MarkMade.{MarkMade}

module _ (m : Mark) (t : Timing) (offset global : Float) (made : MarkMade) (is : made ≡ mark_made t offset global) where
  made-is : (made.number ≡ timing_number t offset global) × (timing_number t offset global ≡ 0 → made.mark ≡ mark_of t offset global)
  unfolding mark_made
  made-is = rw is (go (eqb (timing_number t offset global) 0) refl)
    where
      go : (b : Bool) → eqb (timing_number t offset global) 0 ≡ b →
          let x : MarkMade = pick b (record { number = 0; mark = mark_of t offset global }) (record { number = timing_number t offset global; mark = no_mark }) in
          (x.number ≡ timing_number t offset global) × (timing_number t offset global ≡ 0 → x.mark ≡ mark_of t offset global)
      go true e = (sym (eqb-true _ 0 e), λ n. refl)
      go false e = (refl, λ n. no (sym e ∙ eq-eqb _ 0 n))

  pub own-taken : made.number ≡ 0 → same_mark m made.mark ≡ true → 0 ≡ marked_timing_number m t offset global
  unfolding marked_timing_number
  own-taken n same = let z = sym made-is.0 ∙ n in rw (eq-eqb _ 0 z, ← made-is.1 z, same)

  pub other-refused : made.number ≡ 0 → same_mark m made.mark ≡ false → not_rising ≡ marked_timing_number m t offset global
  unfolding marked_timing_number
  other-refused n other = let z = sym made-is.0 ∙ n in rw (eq-eqb _ 0 z, ← made-is.1 z, other)

  pub timing-refused : (made.number ≡ 0 → ⊥) → made.number ≡ marked_timing_number m t offset global
  unfolding marked_timing_number
  timing-refused h = rw (ne_eqb (timing_number t offset global) 0 (λ z. h (made-is.0 ∙ z))) made-is.0
