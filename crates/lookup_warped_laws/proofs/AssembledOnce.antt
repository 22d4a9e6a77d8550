-- Of the warps that assembly writes one pass is the number of warped rows: their rows rise. Assumes nothing.
use Prim.Native.Nat.{ℕ, ◌≤◌}
use mathlib.Core.Path.{◌≡◌}
use mathlib.Core.List.{List, [], ◌∷◌, map}
use native.Mathlib.Omega.{arith}
use lib.ListN.{length, length-map}
use lib.Ieee.{Float, binary64}
use Rattle.limits.proofs.NoRefusal.{lower-none}
use Rattle.order.specs.Order.{Above, Rises}
use Rattle.order.specs.Entries.{first, second}
use Rattle.order.proofs.TidiedList.{rises_never_falls}
use Rattle.rows.specs.RowKey.{row_key_of}
use Rattle.chart.specs.declared.TimingFormat.{TimingFormat}
use Rattle.chart.specs.ChartColumns.{ChartColumns, ChartRoom}
use Rattle.tidy_warps.specs.Marks.{marks_number}
use Rattle.assembly_warps.specs.MergedWarps.{three_number}
use Rattle.assembly_rows.specs.declared.Meaning.TheVariants.{Lengths}
use Rattle.assembly_rows.specs.AssembledRows.{change_by, assembled_rows, assembled_number}
use Rattle.assembly_rows.proofs.QuantizedTaken.{quantized-taken}
use Rattle.assembly_rows.proofs.WrittenRises.{row_key_in, written-rises}
use Rattle.assembly_tempos.specs.AssembledTempos.{assembled_warps}
use Rattle.assembly_tempos.proofs.WorkColumns.{merged-warps}
use Rattle.assembly.specs.Assembly.{processed_together, processed_chart, others_number, seven_number, seven_with_marks, later_number, assembly_number}
use Rattle.assembly.proofs.Ends.{none-refused}
use Rattle.lookup_warped.specs.WarpedRows.{warped_rows}
use Rattle.lookup_warped.specs.OnePass.{one_pass}
use Rattle.lookup_warped.proofs.OnePassCounts.{one_pass_counts}

-- ---- beats that rise by row are starts that do
above-starts : (k : ℕ) (warps : List (Float × Float)) → Above (row_key_in binary64) k (map first warps) → Above row_key_of k warps
above-starts k [] p = tt
above-starts k (warp ∷ warps) p = (p.0, above-starts k warps p.1)

starts-rise : (warps : List (Float × Float)) → Rises (row_key_in binary64) (map first warps) → Rises row_key_of warps
starts-rise [] p = tt
starts-rise (warp ∷ warps) p = (above-starts (row_key_of warp) warps p.0, starts-rise warps p.1)

-- ---- a list that is assembled by itself, whatever is done to its lengths first
pub written_once : (change : Float → Float) (beats lengths : List Float) → assembled_number change beats lengths ≡ 0
    → one_pass (assembled_rows change beats lengths) ≡ warped_rows (assembled_rows change beats lengths)
written_once change beats lengths taken =
    let warps = assembled_rows change beats lengths in
    one_pass_counts warps (rises_never_falls row_key_of warps (starts-rise warps (written-rises change beats lengths taken binary64)))

-- ---- the warps of a chart that is taken, given and made
pub assembled-once : (most : ℕ) (format : TimingFormat) (raw : ChartColumns) (marks : List ℕ) (room : ChartRoom) → assembly_number most format raw marks room ≡ 0
    → one_pass (assembled_warps (processed_chart format raw)) ≡ warped_rows (assembled_warps (processed_chart format raw))
assembled-once most format raw marks room none =
    let merged = (processed_chart format raw).warps in
    let passed = none-refused (seven_with_marks raw marks) _ most (later_number format raw room) none in
    let seven = (lower-none (seven_number raw) (marks_number (length raw.warps.beats) marks) passed.raw_taken).0 in
    let taken = (lower-none (three_number (processed_together raw)) (others_number raw.delays raw.speeds raw.scrolls raw.fakes) seven).0 in
    let few : length (map first merged) ≤ 1024 = rw (length-map merged first) (omega (arith, passed.few_warps)) in
    written_once (change_by Lengths) (map first merged) (map second merged)
    (quantized-taken (map first merged) (map second merged) Lengths (merged-warps format (processed_together raw) taken few))
