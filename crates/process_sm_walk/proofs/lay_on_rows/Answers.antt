use Rattle.std.proofs.Common.{◌∙◌, arith}
use Rattle.process_sm_walk.proofs.LaidOnRows.{room-left, laid_one, laid-all}
use Rattle.process_sm_walk.proofs.lay_on_rows.Goals as goal

pub bounds-out_beats-count : goal.bounds-out_beats-count
bounds-out_beats-count c = let l = c.loop-i.invariant in let h = c.loop-i-test.true in omega (arith, room-left l c.requires.beats_len h, l.same_beats)

pub bounds-out_values-count : goal.bounds-out_values-count
bounds-out_values-count c = let l = c.loop-i.invariant in let h = c.loop-i-test.true in omega (arith, room-left l c.requires.beats_len h, l.same_values)

pub loop-i-preserved : goal.loop-i-preserved
loop-i-preserved c =
    laid_one c.loop-i.invariant c.requires.beats_len c.loop-i-test.true c.f32_to_f64_with_nan.result c.f32_to_f64_with_nan-in-loop-i.result
    (c.f32_to_f64_with_nan.ensures ∙ c.quantize_beat_f32.ensures) c.f32_to_f64_with_nan-in-loop-i.ensures

pub returns : goal.returns
returns c =
    let given = laid-all c.loop-i.invariant c.requires.beats_len c.loop-i-test.false in
    record {
      value = given.0;
      out_beats_after = given.1.0;
      out_values_after = given.1.1;
    }
