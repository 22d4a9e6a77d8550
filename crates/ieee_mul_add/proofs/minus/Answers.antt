use Rattle.std.proofs.Common.{◌^◌, arith, rules}
use Rattle.ieee_mul_add.proofs.WordsAdded.{high_le, high_lt, borrowed, wrapped, taken, unwrapped}
use Rattle.ieee_mul_add.proofs.minus.Goals as goal

pub overflow_sub-result : goal.overflow_sub-result
overflow_sub-result c = let s = c in high_le (2 ^ 64) s.args.a_high s.args.a_low s.args.b_high s.args.b_low s.ranges.a_low.fits s.requires

pub overflow_sub-result-then-a_low-b_low : goal.overflow_sub-result-then-a_low-b_low
overflow_sub-result-then-a_low-b_low c = let s = c in let h = high_lt (2 ^ 64) s.args.a_high s.args.a_low s.args.b_high s.args.b_low c.if-a_low-b_low.true s.requires in omega arith

pub overflow_sub-result-else-a_low-b_low : goal.overflow_sub-result-else-a_low-b_low
overflow_sub-result-else-a_low-b_low c = let s = c in high_le (2 ^ 64) s.args.a_high s.args.a_low s.args.b_high s.args.b_low s.ranges.a_low.fits s.requires

pub returns-then-a_low-b_low : goal.returns-then-a_low-b_low
returns-then-a_low-b_low c =
    let s = c in
    let l = c.wrapping_sub_u64-low.result in
    borrowed (2 ^ 64) s.args.a_high s.args.a_low s.args.b_high s.args.b_low l (wrapped l s.args.a_low s.args.b_low c.wrapping_sub_u64-low.ensures.value (omega arith) s.ranges.b_low.fits c.if-a_low-b_low.true) (high_lt (2 ^ 64) s.args.a_high s.args.a_low s.args.b_high s.args.b_low c.if-a_low-b_low.true s.requires)

pub returns-else-a_low-b_low : goal.returns-else-a_low-b_low
returns-else-a_low-b_low c =
    let s = c in
    let l = c.wrapping_sub_u64-low.result in
    taken (2 ^ 64) s.args.a_high s.args.a_low s.args.b_high s.args.b_low l (unwrapped l s.args.a_low s.args.b_low c.wrapping_sub_u64-low.ensures.value (omega arith) s.ranges.b_low.fits c.if-a_low-b_low.false) (high_le (2 ^ 64) s.args.a_high s.args.a_low s.args.b_high s.args.b_low s.ranges.a_low.fits s.requires)
