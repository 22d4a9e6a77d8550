-- `process_sm::process_by_columns` lends columns for 64 tempos and stops where there are no more, and else for as many as are taken. Assumes nothing.
use Rattle.std.proofs.Common.{length, arith, rules}
use native.Mathlib.Nat.{max-le}
use Rattle.limits.proofs.ListTaken.{list-taken}
use Rattle.process_raw.proofs.BothTaken.{both-taken}
use Rattle.process_sm.proofs.WorkRoom.{with_room}
use Rattle.process_sm.proofs.process_by_columns.Goals as goal

pub returns-then-stop_beats-le-FEW : goal.returns-then-stop_beats-le-FEW
returns-then-stop_beats-le-FEW c =
    let lent = c in
    let few = lent in
    let start = few in
    let t = few.if-tempo_beats-le-FEW.true in
    let s = few.if-stop_beats-le-FEW.true in
    with_room lent.process_lent.ensures
    (record {
      tempos = λ h. max-le {a = length start.args.tempo_beats.now} {b = 1} {k = 64} t (omega arith);
      stops = λ h. s;
      warps = λ h. omega (arith, t, s);
    })

pub returns : goal.returns
returns c =
    let lent = c in
    let start = lent in
    with_room lent.process_lent-2.ensures
    (record {
      tempos = λ h. max-le {a = length start.args.tempo_beats.now} {b = 1} {k = 1024} (list-taken (both-taken h).tempos).few (omega arith);
      stops = λ h. (list-taken (both-taken h).stops).few;
      warps = λ h. let t = (list-taken (both-taken h).tempos).few in let s = (list-taken (both-taken h).stops).few in omega arith;
    })

pub shape_of-out_tempo_beats-then-stop_beats-le-FEW : goal.shape_of-out_tempo_beats-then-stop_beats-le-FEW
shape_of-out_tempo_beats-then-stop_beats-le-FEW c = c.out_tempo_beats-1.given

pub shape_of-out_tempo_values-then-stop_beats-le-FEW : goal.shape_of-out_tempo_values-then-stop_beats-le-FEW
shape_of-out_tempo_values-then-stop_beats-le-FEW c = c.out_tempo_values-1.given

pub shape_of-out_stop_beats-then-stop_beats-le-FEW : goal.shape_of-out_stop_beats-then-stop_beats-le-FEW
shape_of-out_stop_beats-then-stop_beats-le-FEW c = c.out_stop_beats-1.given

pub shape_of-out_stop_values-then-stop_beats-le-FEW : goal.shape_of-out_stop_values-then-stop_beats-le-FEW
shape_of-out_stop_values-then-stop_beats-le-FEW c = c.out_stop_values-1.given

pub shape_of-out_warp_beats-then-stop_beats-le-FEW : goal.shape_of-out_warp_beats-then-stop_beats-le-FEW
shape_of-out_warp_beats-then-stop_beats-le-FEW c = c.out_warp_beats-1.given

pub shape_of-out_warp_lengths-then-stop_beats-le-FEW : goal.shape_of-out_warp_lengths-then-stop_beats-le-FEW
shape_of-out_warp_lengths-then-stop_beats-le-FEW c = c.out_warp_lengths-1.given

pub shape_of-out_tempo_beats : goal.shape_of-out_tempo_beats
shape_of-out_tempo_beats c = c.out_tempo_beats-2-1.given

pub shape_of-out_tempo_values : goal.shape_of-out_tempo_values
shape_of-out_tempo_values c = c.out_tempo_values-2-1.given

pub shape_of-out_stop_beats : goal.shape_of-out_stop_beats
shape_of-out_stop_beats c = c.out_stop_beats-2-1.given

pub shape_of-out_stop_values : goal.shape_of-out_stop_values
shape_of-out_stop_values c = c.out_stop_values-2-1.given

pub shape_of-out_warp_beats : goal.shape_of-out_warp_beats
shape_of-out_warp_beats c = c.out_warp_beats-2-1.given

pub shape_of-out_warp_lengths : goal.shape_of-out_warp_lengths
shape_of-out_warp_lengths c = c.out_warp_lengths-2-1.given
