-- `process_sm_lent::lay_results` refuses for the room of any list, and else tidies the tempos and copies the rest. Assumes nothing.
use Rattle.std.proofs.Common.{◌<◌, ◌≤◌, length, sym, refl, arith, rules}
use Rattle.order.specs.Entries.{entries}
use Rattle.order.proofs.Columns.{length-entries}
use Rattle.columns.specs.Laying.{LaidPair}
use Rattle.process_raw.specs.RawLists.{room_for}
use Rattle.tidy_tempos.specs.TempoTidying.{tidy_tempos}
use Rattle.process_sm_lent.proofs.CopiedLists.{firsts-copied, seconds-copied}
use Rattle.process_sm_lent.proofs.Ends.{for_stops, for_warps, for_tempos, taken}
use Rattle.process_sm_lent.proofs.lay_results.Goals as goal
use Rattle.process_sm_lent.proofs.lay_results.Goals.{After-tidy_bpms-tempos, Else-stop_beats-room_of, Else-warp_beats-room_of}

stops-fit : (c : Else-stop_beats-room_of) → length (entries c.args.stop_beats.now c.args.stop_values.now) ≤ room_for c.args.out_stop_beats.now c.args.out_stop_values.now
stops-fit c = omega (arith, c.if-stop_beats-room_of.false, c.room_of.ensures, length-entries c.args.stop_beats.now c.args.stop_values.now c.requires.stop_beats_len.0)

warps-fit : (c : Else-warp_beats-room_of) → length (entries c.args.warp_beats.now c.args.warp_lengths.now) ≤ room_for c.args.out_warp_beats.now c.args.out_warp_lengths.now
warps-fit c = omega (arith, c.if-warp_beats-room_of.false, c.room_of-2.ensures, length-entries c.args.warp_beats.now c.args.warp_lengths.now c.requires.stop_beats_len.1)

tidy : (c : After-tidy_bpms-tempos) → LaidPair 0 (tidy_tempos c.args.tempo_beats.now c.args.tempo_values.now) c.tidy_bpms-tempos.result c.args.out_tempo_beats.now c.tidy_bpms-tempos.new.out_beats c.args.out_tempo_values.now c.tidy_bpms-tempos.new.out_tempos
tidy c = rw c.requires.tempo_values_value at c.tidy_bpms-tempos.ensures

pub returns-then-stop_beats-room_of : goal.returns-then-stop_beats-room_of
returns-then-stop_beats-room_of c =
    let short : room_for c.args.out_stop_beats.now c.args.out_stop_values.now < length (entries c.args.stop_beats.now c.args.stop_values.now) = omega (arith, c.if-stop_beats-room_of.true, c.room_of.ensures, length-entries c.args.stop_beats.now c.args.stop_values.now c.requires.stop_beats_len.0) in
    rw c.refused.ensures (for_stops refl short)

pub returns-then-warp_beats-room_of : goal.returns-then-warp_beats-room_of
returns-then-warp_beats-room_of c =
    let short : room_for c.args.out_warp_beats.now c.args.out_warp_lengths.now < length (entries c.args.warp_beats.now c.args.warp_lengths.now) = omega (arith, c.if-warp_beats-room_of.true, c.room_of-2.ensures, length-entries c.args.warp_beats.now c.args.warp_lengths.now c.requires.stop_beats_len.1) in
    rw c.refused-then-warp_beats-room_of.ensures (for_warps refl (stops-fit (goal.at.returns-then-warp_beats-room_of c).Else-stop_beats-room_of) short)

pub returns-then-tempos-ne-TAKEN : goal.returns-then-tempos-ne-TAKEN
returns-then-tempos-ne-TAKEN c = rw c.refused-then-tempos-ne-TAKEN.ensures (for_tempos refl (stops-fit (goal.at.returns-then-tempos-ne-TAKEN c).Else-stop_beats-room_of) (warps-fit (goal.at.returns-then-tempos-ne-TAKEN c).Else-warp_beats-room_of) (tidy (goal.at.returns-then-tempos-ne-TAKEN c).After-tidy_bpms-tempos) c.if-tempos-ne-TAKEN.true)

pub returns : goal.returns
returns c =
    let start = c in
    let given = start.args in
    let stop-room = stops-fit (goal.at.returns c).Else-stop_beats-room_of in
    let warp-room = warps-fit (goal.at.returns c).Else-warp_beats-room_of in
    taken refl stop-room warp-room (tidy (goal.at.returns c).After-tidy_bpms-tempos) _ _ c.if-tempos-ne-TAKEN.false
    (sym (length-entries given.stop_beats.now given.stop_values.now start.requires.stop_beats_len.0)) (sym (length-entries given.warp_beats.now given.warp_lengths.now start.requires.stop_beats_len.1))
    (firsts-copied given.stop_beats.now given.stop_values.now start.requires.stop_beats_len.0 given.out_stop_beats.now given.out_stop_values.now stop-room c.copy.ensures)
    (seconds-copied given.stop_beats.now given.stop_values.now start.requires.stop_beats_len.0 given.out_stop_beats.now given.out_stop_values.now stop-room c.copy-2.ensures)
    (firsts-copied given.warp_beats.now given.warp_lengths.now start.requires.stop_beats_len.1 given.out_warp_beats.now given.out_warp_lengths.now warp-room c.copy-3.ensures)
    (seconds-copied given.warp_beats.now given.warp_lengths.now start.requires.stop_beats_len.1 given.out_warp_beats.now given.out_warp_lengths.now warp-room c.copy-4.ensures)
