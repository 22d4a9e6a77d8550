-- Two timings that agree for an asked row give a fresh cursor the same answer. Assumes nothing.
use mathlib.Core.List.{List}
use mathlib.Core.Bool.{false}
use mathlib.Core.Path.{◌≡◌, sym, ap, ◌∙◌}
use lib.IntN.{ℤ, pos}
use lib.Signed.{lt_z}
use lib.Ieee.{Float, binary64}
use Rattle.ieee.specs.Constants.{sixty}
use Rattle.rows.specs.Rows.{row}
use Rattle.chart.specs.Timing.{Timing}
use Rattle.clock_walk.specs.Passing.{first_or}
use Rattle.clock_walk.specs.Walk.{walk_on}
use Rattle.clock_tests.specs.TimingNumbers.{timing_number}
use Rattle.clock.specs.Question.{filled, fresh_state}
use Rattle.clock_histories.specs.Demand.{alone}
use Rattle.clock_edits_laws.specs.AgreeingTimings.{AgreeFor}
use Rattle.clock_edits_laws.specs.EditsFurtherOn.{tempo_at_zero, EditsFurtherOn}
use Rattle.clock_edits_laws.proofs.Fronts.{cut}
use Rattle.clock_edits_laws.proofs.EntriesAtTheFront.{values_on, agree-cut}
use Rattle.clock_edits_laws.proofs.TurnsOnTheCut.{ordered, answer, fresh-answer, first-within}
use Rattle.clock_edits_laws.proofs.OffTheRow.{agree-off}

module _ (t u : Timing) (offset global beat : Float) (takes : timing_number t offset global ≡ 0) (takes_too : timing_number u offset global ≡ 0) where
  abbrev r : ℤ
  r = row binary64 beat

  same_answer : tempo_at_zero t ≡ tempo_at_zero u → AgreeFor r (filled t) (filled u) → alone t offset global beat ≡ alone u offset global beat
  same_answer first agree =
      fresh-answer t offset global takes beat
      ∙ ap (λ (x : Float). answer t offset global takes beat (walk_on x (cut r (filled t)) r (fresh_state offset global) 0)) first
      ∙ ap (λ (g : Timing). answer t offset global takes beat (walk_on (tempo_at_zero u) g r (fresh_state offset global) 0))
      (agree-cut r (filled t) (filled u) (ordered t offset global takes) (ordered u offset global takes_too) agree)
      ∙ sym (fresh-answer u offset global takes_too beat)

  same_first : lt_z r (pos 0) ≡ false → AgreeFor r (filled t) (filled u) → tempo_at_zero t ≡ tempo_at_zero u
  same_first h agree =
      sym (first-within t offset global takes r h) ∙ ap (λ (list : List (Float × Float)). first_or sixty (values_on list)) agree.tempos ∙ first-within u offset global takes_too r h

-- whatever is edited in a timing that is taken, if what comes of it is taken too
pub later_edits : (before after : Timing) (offset global beat : Float) → timing_number before offset global ≡ 0 → timing_number after offset global ≡ 0
    → EditsFurtherOn before after offset global beat
later_edits t u offset global beat takes takes_too = record {
  from_zero_on = λ h agree. same_answer t u offset global beat takes takes_too (same_first t u offset global beat takes takes_too h agree) agree;
  on_any_row = λ first agree. same_answer t u offset global beat takes takes_too first agree;
  on_the_row_itself = λ off. same_answer t u offset global beat takes takes_too (ap (first_or sixty) off.tempo_values) (agree-off (row binary64 beat) (filled t) (filled u) off);
}
