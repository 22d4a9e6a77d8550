-- `note_sheet::time_rows` times all rows, piece by piece. Assumes nothing.
use Prim.Native.Nat.{◌+◌, ◌<◌, ◌≤◌, ◌^◌}
use mathlib.Core.Path.{ap, ◌∙◌}
use native.Mathlib.Omega.{arith}
use lib.ListN.{length}
use Rattle.chart.specs.Timing.{timing}
use Rattle.note_sheet.proofs.RunInPieces.{none_timed, fresh-made, timed_size, piece_fits, steps-fit, piece_timed, all_timed}
use Rattle.clock.specs.declared.Made.{Made}
use Rattle.clock_run.proofs.PlacesInColumns.{scaled4, scaled8}
use Rattle.note_sheet.proofs.time_rows.Goals as goal

pub loop-done-init : goal.loop-done-init
loop-done-init c =
    let a = c.args in
    none_timed (timing a.tempo_beats.now a.tempo_values.now a.stop_beats.now a.stop_values.now a.delay_beats.now a.delay_values.now a.warp_beats.now a.warp_lengths.now) a.offset a.global a.rows.now a.times.now c.new-made.result.cursor (ap (λ (m : Made). m.cursor) c.new-made.ensures ∙ fresh-made (timing a.tempo_beats.now a.tempo_values.now a.stop_beats.now a.stop_values.now a.delay_beats.now a.delay_values.now a.warp_beats.now a.warp_lengths.now) a.offset a.global c.requires.taken)

pub overflow_add-end : goal.overflow_add-end
overflow_add-end c =
    let s = c in
    let a = s.args in
    let l = c.loop-done in
    record { fits = omega (arith, c.room_of-size.ensures, c.loop-done-test.true, s.well_formed.1.1.1.1.1.1.1.1.1.1.0.0) }

pub offset_bounds-rows-done : goal.offset_bounds-rows-done
offset_bounds-rows-done c =
    let s = c in
    let a = s.args in
    let l = c.loop-done in
    scaled4 l.done (length a.rows.now) c.loop-done-test.true s.well_formed.1.1.1.1.1.1.1.1.1.1.0.1

pub offset_bounds-times-done : goal.offset_bounds-times-done
offset_bounds-times-done c =
    let s = c in
    let a = s.args in
    let l = c.loop-done in
    scaled8 l.done (length a.times.now) (omega (arith, c.loop-done-test.true, s.requires.places)) s.well_formed.1.1.1.1.1.1.1.1.1.1.1.0.1

pub slice_bounds-time_piece-count-in-loop-done : goal.slice_bounds-time_piece-count-in-loop-done
slice_bounds-time_piece-count-in-loop-done c =
    let s = c in
    let a = s.args in
    let l = c.loop-done in
    omega (arith, c.loop-done-test.true, s.requires.places, timed_size (timing a.tempo_beats.now a.tempo_values.now a.stop_beats.now a.stop_values.now a.delay_beats.now a.delay_values.now a.warp_beats.now a.warp_lengths.now) a.offset a.global a.rows.now a.times.now s.requires l.times l.at l.steps l.done l.invariant)

pub time_piece-piece-requires : goal.time_piece-piece-requires
time_piece-piece-requires c =
    let s = c in
    let a = s.args in
    let l = c.loop-done in
    let size = c.room_of-size.result in
    let least = c.room_of-size.ensures in
    let inside : l.done + size ≤ length a.rows.now = omega (arith, least, c.loop-done-test.true) in
    let small : length a.rows.now + 5120 < 2 ^ 64 = omega (arith, s.well_formed.1.1.1.1.1.1.1.1.1.1.0.1) in
    piece_fits (timing a.tempo_beats.now a.tempo_values.now a.stop_beats.now a.stop_values.now a.delay_beats.now a.delay_values.now a.warp_beats.now a.warp_lengths.now) a.offset a.global a.rows.now a.times.now s.requires l.times l.at l.steps l.done l.invariant (l.done + size) (omega arith) inside small (omega (arith, least))

pub overflow_add-steps : goal.overflow_add-steps
overflow_add-steps c =
    let s = c in
    let a = s.args in
    let l = c.loop-done in
    let size = c.room_of-size.result in
    let least = c.room_of-size.ensures in
    let inside : l.done + size ≤ length a.rows.now = omega (arith, least, c.loop-done-test.true) in
    let small : length a.rows.now + 5120 < 2 ^ 64 = omega (arith, s.well_formed.1.1.1.1.1.1.1.1.1.1.0.1) in
    record { fits = steps-fit (timing a.tempo_beats.now a.tempo_values.now a.stop_beats.now a.stop_values.now a.delay_beats.now a.delay_values.now a.warp_beats.now a.warp_lengths.now) a.offset a.global a.rows.now a.times.now s.requires l.times l.at l.steps l.done l.invariant (l.done + size) (omega arith) inside small c.time_piece-piece.result _ c.time_piece-piece.ensures }

pub loop-done-smaller : goal.loop-done-smaller
loop-done-smaller c =
    let s = c in
    let a = s.args in
    let l = c.loop-done in
    let size = c.room_of-size.result in
    let least = c.room_of-size.ensures in
    let inside : l.done + size ≤ length a.rows.now = omega (arith, least, c.loop-done-test.true) in
    let small : length a.rows.now + 5120 < 2 ^ 64 = omega (arith, s.well_formed.1.1.1.1.1.1.1.1.1.1.0.1) in
    omega (arith, least, c.loop-done-test.true)

pub loop-done-preserved : goal.loop-done-preserved
loop-done-preserved c =
    let s = c in
    let a = s.args in
    let l = c.loop-done in
    let size = c.room_of-size.result in
    let least = c.room_of-size.ensures in
    let inside : l.done + size ≤ length a.rows.now = omega (arith, least, c.loop-done-test.true) in
    let small : length a.rows.now + 5120 < 2 ^ 64 = omega (arith, s.well_formed.1.1.1.1.1.1.1.1.1.1.0.1) in
    piece_timed (timing a.tempo_beats.now a.tempo_values.now a.stop_beats.now a.stop_values.now a.delay_beats.now a.delay_values.now a.warp_beats.now a.warp_lengths.now) a.offset a.global a.rows.now a.times.now s.requires l.times l.at l.steps l.done l.invariant (l.done + size) (omega arith) inside small c.time_piece-piece.result _ c.time_piece-piece.ensures

pub shape_of-times : goal.shape_of-times
shape_of-times c =
    let s = c in
    let a = s.args in
    let l = c.loop-done in
    timed_size (timing a.tempo_beats.now a.tempo_values.now a.stop_beats.now a.stop_values.now a.delay_beats.now a.delay_values.now a.warp_beats.now a.warp_lengths.now) a.offset a.global a.rows.now a.times.now s.requires l.times l.at l.steps l.done l.invariant

pub returns : goal.returns
returns c =
    let s = c in
    let a = s.args in
    let l = c.loop-done in
    all_timed (timing a.tempo_beats.now a.tempo_values.now a.stop_beats.now a.stop_values.now a.delay_beats.now a.delay_values.now a.warp_beats.now a.warp_lengths.now) a.offset a.global a.rows.now a.times.now l.times l.at l.steps l.done l.invariant c.loop-done-test.false
