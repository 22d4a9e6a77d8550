-- What is said of processing leaves one outcome: number, counts, offset and the three lists. Assumes nothing.
use Prim.Native.Nat.{ℕ}
use mathlib.Core.Path.{◌≡◌, sym, ◌∙◌}
use mathlib.Core.List.{List}
use lib.Ieee.{Float}
use Rattle.columns.proofs.OneOutcome.{one_list}
use Rattle.process_raw.specs.declared.Processed.{Processed}
use Rattle.process_raw.specs.LentLists.{ThreeColumns}
use Rattle.process_raw.specs.ProcessedLaid.{ProcessedLaid}

pub one-processed : {tests : ℕ} {tempos stops warps : List (Float × Float)} {offset : Float} {a b : Processed} {old new_a new_b : ThreeColumns}
    → ProcessedLaid tests tempos stops warps offset a old new_a → ProcessedLaid tests tempos stops warps offset b old new_b
    → (a ≡ b) × (new_a ≡ new_b)
one-processed {a = a} {b = b} x y =
    let number : a.number ≡ b.number = x.number ∙ sym y.number in
    let tempos = one_list x.tempos_laid (rw (sym number) at y.tempos_laid) in
    let stops = one_list x.stops_laid (rw (sym number) at y.stops_laid) in
    let warps = one_list x.warps_laid (rw (sym number) at y.warps_laid) in
    let offset = x.offset_is ∙ sym (rw (sym number) at y.offset_is) in (
      λ i. record { number = number i; tempos = tempos.0 i; stops = stops.0 i; warps = warps.0 i; offset = offset i },
      λ i. record {
        tempos = record { beats = tempos.1 i; values = tempos.2 i };
        stops = record { beats = stops.1 i; values = stops.2 i };
        warps = record { beats = warps.1 i; values = warps.2 i };
      },
    )
