-- `assembly_warps::process_with_warps` has the made warps written behind the place of the given ones, and then fills that place. Assumes nothing.
use Prim.Native.Nat.{◌-◌, ◌<◌}
use mathlib.Core.Path.{sym, ◌∙◌}
use native.Mathlib.Omega.{arith}
use borrow.Rule.Slice.PartMut.{same_len_mid}
use lib.ListN.{length}
use Rattle.limits.proofs.ListTaken.{list-taken}
use Rattle.process_raw.specs.RawLists.{raw_numbers}
use Rattle.process.specs.ByFormat.{processed_lists}
use Rattle.chart.specs.ChartColumns.{list_columns}
use Rattle.assembly_warps.specs.MergedWarps.{warps_number}
use Rattle.assembly_warps.proofs.Merging.{refused-warps, no_room, passed_on, made-fit, part_length, all_laid}
use borrow.Author.Rules.{rules}
use Rattle.assembly_warps.proofs.process_with_warps.Reads as reads
use Rattle.assembly_warps.proofs.process_with_warps.Lts as lts
use Rattle.process.proofs.process_bpms_and_stops.Reads as process-bpms-and-stops-reads
use Rattle.columns.proofs.room_of.Reads as room-of-reads
use Rattle.limits.proofs.list_number.Reads as list-number-reads
use Rattle.columns.proofs.copy.Reads as copy-reads
use Rattle.assembly_warps.proofs.refuse.Reads as refuse-reads
use Rattle.assembly_warps.proofs.process_with_warps.Goals as goal
use Rattle.assembly_warps.proofs.process_with_warps.Goals.{After-slice_known-6-1}

-- a room's length is a usize
known : (c : After-slice_known-6-1) → length c.args.out_warp_beats.now < 18446744073709551616
known c = omega arith

-- src/lib.rt:65:9
pub returns-then-warps-ne-TAKEN : goal.returns-then-warps-ne-TAKEN
returns-then-warps-ne-TAKEN c = rw (c.refuse.ensures, c.list_number-warps.ensures) (refused-warps (raw_numbers c.args.tempo_beats.now c.args.tempo_values.now c.args.stop_beats.now c.args.stop_values.now) (warps_number (list_columns c.args.warp_beats.now c.args.warp_lengths.now)) (processed_lists c.args.format c.args.tempo_beats.now c.args.tempo_values.now c.args.stop_beats.now c.args.stop_values.now) (list_columns c.args.warp_beats.now c.args.warp_lengths.now) (λ e. c.if-warps-ne-TAKEN.true (c.list_number-warps.ensures ∙ e)))

-- src/lib.rt:68:9
pub returns-then-given-room_of : goal.returns-then-given-room_of
returns-then-given-room_of c = rw (c.refuse-then-given-room_of.ensures, c.list_number-warps.ensures) (no_room (raw_numbers c.args.tempo_beats.now c.args.tempo_values.now c.args.stop_beats.now c.args.stop_values.now) (warps_number (list_columns c.args.warp_beats.now c.args.warp_lengths.now)) (processed_lists c.args.format c.args.tempo_beats.now c.args.tempo_values.now c.args.stop_beats.now c.args.stop_values.now) (list_columns c.args.warp_beats.now c.args.warp_lengths.now) (list-taken (sym c.list_number-warps.ensures ∙ c.if-warps-ne-TAKEN.false)).even (omega (arith, c.room_of.ensures, c.if-given-room_of.true)))

-- src/lib.rt:84:9
pub returns-then-processed-ne-TAKEN : goal.returns-then-processed-ne-TAKEN
returns-then-processed-ne-TAKEN c = passed_on (raw_numbers c.args.tempo_beats.now c.args.tempo_values.now c.args.stop_beats.now c.args.stop_values.now) (sym c.list_number-warps.ensures ∙ c.if-warps-ne-TAKEN.false) (processed_lists c.args.format c.args.tempo_beats.now c.args.tempo_values.now c.args.stop_beats.now c.args.stop_values.now) c.args.warp_beats.now c.args.warp_lengths.now (list-taken (sym c.list_number-warps.ensures ∙ c.if-warps-ne-TAKEN.false)).even c.args.out_warp_beats.now c.args.out_warp_lengths.now (omega (arith, c.room_of.ensures, c.if-given-room_of.false)) c.process_bpms_and_stops-processed.ensures c.if-processed-ne-TAKEN.true

-- src/lib.rt:92:16
pub overflow_add-result : goal.overflow_add-result
overflow_add-result c = omega (arith, known (goal.at.overflow_add-result c).After-slice_known-6-1, made-fit (raw_numbers c.args.tempo_beats.now c.args.tempo_values.now c.args.stop_beats.now c.args.stop_values.now) (sym c.list_number-warps.ensures ∙ c.if-warps-ne-TAKEN.false) (processed_lists c.args.format c.args.tempo_beats.now c.args.tempo_values.now c.args.stop_beats.now c.args.stop_values.now) c.args.warp_beats.now c.args.warp_lengths.now (list-taken (sym c.list_number-warps.ensures ∙ c.if-warps-ne-TAKEN.false)).even c.args.out_warp_beats.now c.args.out_warp_lengths.now (omega (arith, c.room_of.ensures, c.if-given-room_of.false)) c.process_bpms_and_stops-processed.ensures c.if-processed-ne-TAKEN.false)

-- src/lib.rt:45:1
pub shape_of-out_warp_beats : goal.shape_of-out_warp_beats
shape_of-out_warp_beats c = c.copy.auto.to ∙ same_len_mid (length c.args.warp_beats.now) (length c.args.out_warp_beats.now - (length c.args.warp_beats.now)) c.args.out_warp_beats.now c.process_bpms_and_stops-processed.new.out_warp_beats c.process_bpms_and_stops-processed.auto.out_warp_beats

-- src/lib.rt:45:1
pub shape_of-out_warp_lengths : goal.shape_of-out_warp_lengths
shape_of-out_warp_lengths c = c.copy-2.auto.to ∙ same_len_mid (length c.args.warp_beats.now) (length c.args.out_warp_lengths.now - (length c.args.warp_beats.now)) c.args.out_warp_lengths.now c.process_bpms_and_stops-processed.new.out_warp_lengths c.process_bpms_and_stops-processed.auto.out_warp_lengths

-- src/lib.rt:45:1
pub returns : goal.returns
returns c = rw (c.copy.ensures, c.copy-2.ensures) (all_laid (raw_numbers c.args.tempo_beats.now c.args.tempo_values.now c.args.stop_beats.now c.args.stop_values.now) (sym c.list_number-warps.ensures ∙ c.if-warps-ne-TAKEN.false) (processed_lists c.args.format c.args.tempo_beats.now c.args.tempo_values.now c.args.stop_beats.now c.args.stop_values.now) c.args.warp_beats.now c.args.warp_lengths.now (list-taken (sym c.list_number-warps.ensures ∙ c.if-warps-ne-TAKEN.false)).even c.args.out_warp_beats.now c.args.out_warp_lengths.now (omega (arith, c.room_of.ensures, c.if-given-room_of.false)) c.process_bpms_and_stops-processed.ensures c.if-processed-ne-TAKEN.false (c.process_bpms_and_stops-processed.auto.out_warp_beats ∙ part_length (length c.args.warp_beats.now) c.args.out_warp_beats.now) (c.process_bpms_and_stops-processed.auto.out_warp_lengths ∙ part_length (length c.args.warp_beats.now) c.args.out_warp_lengths.now))
