-- What is said of SSC's tempos and stops leaves one outcome: number, counts, offset and both lists. Assumes nothing.
use mathlib.Core.Path.{◌≡◌, sym, ◌∙◌}
use Rattle.columns.proofs.OneOutcome.{one_list}
use Rattle.process_raw.specs.declared.Processed.{Processed}
use Rattle.process_raw.specs.LentLists.{TwoColumns}
use Rattle.process_ssc.specs.Ssc.{SscLaid}

pub one_outcome : {raw : TwoColumns} {a b : Processed} {old new_a new_b : TwoColumns}
    → SscLaid raw a old new_a → SscLaid raw b old new_b
    → (a ≡ b) × (new_a ≡ new_b)
one_outcome {a = a} {b = b} x y =
    let number : a.number ≡ b.number = x.number ∙ sym y.number in
    let tempos = one_list x.tempos (rw (sym number) at y.tempos) in
    let stops = one_list x.stops (rw (sym number) at y.stops) in
    let warps = x.warps ∙ sym y.warps in
    let offset = x.offset ∙ sym y.offset in (
      λ i. record { number = number i; tempos = tempos.0 i; stops = stops.0 i; warps = warps i; offset = offset i },
      λ i. record {
        tempos = record { beats = tempos.1 i; values = tempos.2 i };
        stops = record { beats = stops.1 i; values = stops.2 i };
      },
    )
