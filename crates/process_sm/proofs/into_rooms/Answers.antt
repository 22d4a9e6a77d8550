-- `process_sm::into_rooms` lends columns for as many tempos as there may be: for 64 where there are no more, and else for as many as are taken. Assumes nothing.
use native.Mathlib.Nat.{max-le}
use Rattle.std.proofs.Common.{length, arith, rules}
use Rattle.limits.proofs.ListTaken.{list-taken}
use Rattle.process_raw.proofs.BothTaken.{both-taken}
use Rattle.process_sm.proofs.into_rooms.Goals as goal

pub process_into-requires : goal.process_into-requires
process_into-requires c =
    let few = c in
    let start = few in
    record {
      fact = start.requires;
      fact_2 = λ h. max-le {a = length start.args.tempo_beats.now} {b = 1} {k = 64} few.if-tempo_beats-le-FEW.true (omega arith);
    }

pub process_into-requires-2 : goal.process_into-requires-2
process_into-requires-2 c =
    let start = c in
    record {
      fact = start.requires;
      fact_2 = λ h. max-le {a = length start.args.tempo_beats.now} {b = 1} {k = 1024} (list-taken (both-taken h).tempos).few (omega arith);
    }

pub shape_of-out_tempo_beats-then-tempo_beats-le-FEW : goal.shape_of-out_tempo_beats-then-tempo_beats-le-FEW
shape_of-out_tempo_beats-then-tempo_beats-le-FEW c = c.out_tempo_beats-1.given

pub shape_of-out_tempo_values-then-tempo_beats-le-FEW : goal.shape_of-out_tempo_values-then-tempo_beats-le-FEW
shape_of-out_tempo_values-then-tempo_beats-le-FEW c = c.out_tempo_values-1.given

pub shape_of-out_stop_beats-then-tempo_beats-le-FEW : goal.shape_of-out_stop_beats-then-tempo_beats-le-FEW
shape_of-out_stop_beats-then-tempo_beats-le-FEW c = c.out_stop_beats-1.given

pub shape_of-out_stop_values-then-tempo_beats-le-FEW : goal.shape_of-out_stop_values-then-tempo_beats-le-FEW
shape_of-out_stop_values-then-tempo_beats-le-FEW c = c.out_stop_values-1.given

pub shape_of-out_warp_beats-then-tempo_beats-le-FEW : goal.shape_of-out_warp_beats-then-tempo_beats-le-FEW
shape_of-out_warp_beats-then-tempo_beats-le-FEW c = c.out_warp_beats-1.given

pub shape_of-out_warp_lengths-then-tempo_beats-le-FEW : goal.shape_of-out_warp_lengths-then-tempo_beats-le-FEW
shape_of-out_warp_lengths-then-tempo_beats-le-FEW c = c.out_warp_lengths-1.given

pub returns-then-tempo_beats-le-FEW : goal.returns-then-tempo_beats-le-FEW
returns-then-tempo_beats-le-FEW c = c.process_into.ensures

pub shape_of-out_tempo_beats : goal.shape_of-out_tempo_beats
shape_of-out_tempo_beats c = c.out_tempo_beats-2-1.given

pub shape_of-out_tempo_values : goal.shape_of-out_tempo_values
shape_of-out_tempo_values c = c.out_tempo_values-2-1.given

pub shape_of-out_stop_beats : goal.shape_of-out_stop_beats
shape_of-out_stop_beats c = c.out_stop_beats-2-1.given

pub shape_of-out_stop_values : goal.shape_of-out_stop_values
shape_of-out_stop_values c = c.out_stop_values-2-1.given

pub shape_of-out_warp_beats : goal.shape_of-out_warp_beats
shape_of-out_warp_beats c = c.out_warp_beats-2-1.given

pub shape_of-out_warp_lengths : goal.shape_of-out_warp_lengths
shape_of-out_warp_lengths c = c.out_warp_lengths-2-1.given

pub returns : goal.returns
returns c = c.process_into-2.ensures
