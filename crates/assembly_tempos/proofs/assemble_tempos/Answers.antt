-- `assembly_tempos::assemble_tempos` lends arrays that are long enough: for 64 entries a list where none has more, and else for 1,024. Assumes nothing.
use native.Mathlib.Omega.{arith}
use lib.ListN.{length-replicate}
use lib.Ieee.{Float, binary64, of_bits}
use Rattle.process_raw.specs.LentLists.{ThreeColumns, three_columns}
use Rattle.assembly_tempos.proofs.WorkColumns.{lengths-few, work-rooms}
use Rattle.assembly_tempos.proofs.assemble_tempos.Goals as goal
use Rattle.assembly_tempos.proofs.assemble_tempos.Goals.{Start}

abbrev given : Start → ThreeColumns
given s = three_columns s.args.tempo_beats.now s.args.tempo_values.now s.args.stop_beats.now s.args.stop_values.now s.args.warp_beats.now s.args.warp_lengths.now

pub assemble_in-requires : goal.assemble_in-requires
assemble_in-requires c =
    let start = c in
    work-rooms 64 start.args.format (given (goal.at.assemble_in-requires start).Start) (omega arith) (length-replicate {A = Float} 64 (of_bits binary64 0)) (length-replicate {A = Float} 192 (of_bits binary64 0))
    (λ h. record { tempos = c.if-tempo_beats-le-FEW.true; stops = c.if-stop_beats-le-FEW.true; warps = c.if-warp_beats-le-FEW.true })

pub assemble_in-requires-2 : goal.assemble_in-requires-2
assemble_in-requires-2 c =
    let start = c in
    work-rooms 1024 start.args.format (given (goal.at.assemble_in-requires-2 start).Start) (omega arith) (length-replicate {A = Float} 1024 (of_bits binary64 0)) (length-replicate {A = Float} 3072 (of_bits binary64 0))
    (lengths-few (given (goal.at.assemble_in-requires-2 start).Start))

pub shape_of-out_tempo_beats-then-warp_beats-le-FEW : goal.shape_of-out_tempo_beats-then-warp_beats-le-FEW
shape_of-out_tempo_beats-then-warp_beats-le-FEW c = c.out_tempo_beats-1.given

pub shape_of-out_tempo_values-then-warp_beats-le-FEW : goal.shape_of-out_tempo_values-then-warp_beats-le-FEW
shape_of-out_tempo_values-then-warp_beats-le-FEW c = c.out_tempo_values-1.given

pub shape_of-out_stop_beats-then-warp_beats-le-FEW : goal.shape_of-out_stop_beats-then-warp_beats-le-FEW
shape_of-out_stop_beats-then-warp_beats-le-FEW c = c.out_stop_beats-1.given

pub shape_of-out_stop_values-then-warp_beats-le-FEW : goal.shape_of-out_stop_values-then-warp_beats-le-FEW
shape_of-out_stop_values-then-warp_beats-le-FEW c = c.out_stop_values-1.given

pub shape_of-out_warp_beats-then-warp_beats-le-FEW : goal.shape_of-out_warp_beats-then-warp_beats-le-FEW
shape_of-out_warp_beats-then-warp_beats-le-FEW c = c.out_warp_beats-1.given

pub shape_of-out_warp_lengths-then-warp_beats-le-FEW : goal.shape_of-out_warp_lengths-then-warp_beats-le-FEW
shape_of-out_warp_lengths-then-warp_beats-le-FEW c = c.out_warp_lengths-1.given

pub shape_of-out_warp_marks-then-warp_beats-le-FEW : goal.shape_of-out_warp_marks-then-warp_beats-le-FEW
shape_of-out_warp_marks-then-warp_beats-le-FEW c = c.out_warp_marks-1.given

pub returns-then-warp_beats-le-FEW : goal.returns-then-warp_beats-le-FEW
returns-then-warp_beats-le-FEW c = c.assemble_in.ensures

pub shape_of-out_tempo_beats : goal.shape_of-out_tempo_beats
shape_of-out_tempo_beats c = c.out_tempo_beats-2-1.given

pub shape_of-out_tempo_values : goal.shape_of-out_tempo_values
shape_of-out_tempo_values c = c.out_tempo_values-2-1.given

pub shape_of-out_stop_beats : goal.shape_of-out_stop_beats
shape_of-out_stop_beats c = c.out_stop_beats-2-1.given

pub shape_of-out_stop_values : goal.shape_of-out_stop_values
shape_of-out_stop_values c = c.out_stop_values-2-1.given

pub shape_of-out_warp_beats : goal.shape_of-out_warp_beats
shape_of-out_warp_beats c = c.out_warp_beats-2-1.given

pub shape_of-out_warp_lengths : goal.shape_of-out_warp_lengths
shape_of-out_warp_lengths c = c.out_warp_lengths-2-1.given

pub shape_of-out_warp_marks : goal.shape_of-out_warp_marks
shape_of-out_warp_marks c = c.out_warp_marks-2-1.given

pub returns : goal.returns
returns c = c.assemble_in-2.ensures
