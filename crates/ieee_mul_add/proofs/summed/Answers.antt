use Rattle.std.proofs.Common.{◌-◌, arith, rules}
use Rattle.ieee_mul_add.specs.inside.Words.{two_words, words_of}
use Rattle.ieee_mul_add.proofs.SumOfCuts.{cut_high, sum_below, sum-above, even-two}
use Rattle.ieee_mul_add.proofs.summed.Goals as goal

pub join-j-requires : goal.join-j-requires
join-j-requires c = let s = c in let a = s.args in let b = cut_high a.p_high a.p_low (a.z - a.x) c.cut-p.result.high c.cut-p.result.low s.requires.0 s.ranges.p_low.fits c.cut-p.ensures in omega (arith, s.requires)

pub join-j-requires-else-x-z : goal.join-j-requires-else-x-z
join-j-requires-else-x-z c = let s = c in let a = s.args in let b = cut_high a.q_high a.q_low (a.x - a.z) c.cut-q.result.high c.cut-q.result.low s.requires.1 s.ranges.q_low.fits c.cut-q.ensures in omega (arith, s.requires)

pub returns-then-x-z : goal.returns-then-x-z
returns-then-x-z c =
    let s = c in
    let a = s.args in
    sum_below a.alike (two_words a.p_high a.p_low) a.x (two_words a.q_high a.q_low) a.z (even-two a.p_high a.p_low s.requires.2) (even-two a.q_high a.q_low s.requires.3) (two_words c.join-j.result.high c.join-j.result.low) (words_of c.cut-p.result) c.join-j.result.second c.if-x-z.true c.cut-p.ensures c.join-j.ensures.0 c.join-j.ensures.1

pub returns-else-x-z : goal.returns-else-x-z
returns-else-x-z c =
    let s = c in
    let a = s.args in
    sum-above a.alike (two_words a.p_high a.p_low) a.x (two_words a.q_high a.q_low) a.z (even-two a.p_high a.p_low s.requires.2) (even-two a.q_high a.q_low s.requires.3) (two_words c.join-j-else-x-z.result.high c.join-j-else-x-z.result.low) (words_of c.cut-q.result) c.join-j-else-x-z.result.second c.if-x-z.false c.cut-q.ensures c.join-j-else-x-z.ensures.0 c.join-j-else-x-z.ensures.1
