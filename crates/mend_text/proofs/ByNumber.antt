-- The answer to both lists by its number: a refusal is the answer line only, and of lists that are taken both are written. Assumes nothing.
use Prim.Native.Nat.{ℕ}
use mathlib.Core.Path.{◌≡◌, sym, ap, ap₂, ◌∙◌}
use mathlib.Core.List.{◌++◌, append-nil}
use borrow.Author.Tests.{eq-eqb, ne_eqb}
use Rattle.limits.specs.Refusals.{lower}
use Rattle.limits.proofs.NoRefusal.{lower-none}
use Rattle.chart.specs.ChartColumns.{ListColumns, SpeedColumns}
use Rattle.report_text.specs.Output.{answer_line}
use Rattle.mend_scrolls.specs.MendedScrolls.{scroll_tests}
use Rattle.mend_speeds.specs.MendedSpeeds.{speed_tests}
use Rattle.mend_text.specs.MendedText.{scrolls_text, speeds_text, mend_number, mended_text}

module _ (scrolls : ListColumns) (speeds : SpeedColumns) where
  pub lower-is : {one other number : ℕ} → one ≡ scroll_tests scrolls → other ≡ speed_tests speeds → number ≡ lower one other → number ≡ mend_number scrolls speeds
  lower-is a b e = e ∙ ap₂ lower a b

  module _ {number : ℕ} (e : number ≡ mend_number scrolls speeds) where
    pub refused-only : (number ≡ 0 → ⊥) → answer_line number ≡ mended_text scrolls speeds
    unfolding mended_text
    refused-only h = rw (ne_eqb (mend_number scrolls speeds) 0 (λ z. h (e ∙ z))) (ap answer_line e ∙ sym (append-nil (answer_line (mend_number scrolls speeds))))

    pub taken-lists : number ≡ 0 → answer_line number ++ (scrolls_text scrolls ++ speeds_text speeds) ≡ mended_text scrolls speeds
    unfolding mended_text
    taken-lists h = rw (eq-eqb (mend_number scrolls speeds) 0 (sym e ∙ h)) (ap (λ (n : ℕ). answer_line n ++ (scrolls_text scrolls ++ speeds_text speeds)) (e))

    pub both-taken : number ≡ 0 → (scroll_tests scrolls ≡ 0) × (speed_tests speeds ≡ 0)
    both-taken h = lower-none (scroll_tests scrolls) (speed_tests speeds) (sym e ∙ h)
