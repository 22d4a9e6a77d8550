-- What is said of processing by way of lent work columns leaves one outcome, the work columns too. Assumes nothing.
use Rattle.std.proofs.Common.{◌≡◌, sym, ◌∙◌}
use Rattle.process_raw.specs.declared.Processed.{Processed}
use Rattle.process_raw.specs.LentLists.{TwoColumns, ThreeColumns}
use Rattle.process_raw.proofs.OneOutcome.{one-processed}
use Rattle.process_sm_walk.specs.Columns.{Columns}
use Rattle.process_sm_lent.specs.Lent.{LentLaid}

pub one_lent : {raw : TwoColumns} {a b : Processed} {work_old work_a work_b : Columns} {old new_a new_b : ThreeColumns}
    → LentLaid raw a work_old work_a old new_a → LentLaid raw b work_old work_b old new_b
    → (a ≡ b) × (work_a ≡ work_b) × (new_a ≡ new_b)
one_lent x y =
    let lists = one-processed x.lists y.lists in
    let u = x.work in
    let v = y.work in
    let tempo_beats = u.tempo_beats ∙ sym v.tempo_beats in
    let tempo_values = u.tempo_values ∙ sym v.tempo_values in
    let stop_beats = u.stop_beats ∙ sym v.stop_beats in
    let stop_values = u.stop_values ∙ sym v.stop_values in
    let warp_beats = u.warp_beats ∙ sym v.warp_beats in
    let warp_lengths = u.warp_lengths ∙ sym v.warp_lengths in (
      lists.0,
      λ i. record {
        tempo_beats = tempo_beats i;
        tempo_values = tempo_values i;
        stop_beats = stop_beats i;
        stop_values = stop_values i;
        warp_beats = warp_beats i;
        warp_lengths = warp_lengths i;
      },
      lists.1,
    )
