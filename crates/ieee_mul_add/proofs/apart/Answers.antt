use Rattle.std.proofs.Common.{◌-◌, ◌^◌, ◌≤◌, ⊎_elim, le_of_lt, arith, rules}
use Rattle.ieee_mul_add.specs.inside.Words.{two_words, words_of}
use Rattle.ieee_mul_add.proofs.WordsAdded.{second-larger, less_by_high, less_by_low, low-apart, not_less, first-larger}
use Rattle.ieee_mul_add.proofs.apart.Goals as goal
use Rattle.ieee_mul_add.proofs.apart.Goals.{Joined-a_high-b_high-2, then-a_high-b_high-2+else-a_low-b_low, else-a_high-b_high-2}

more : (c : Joined-a_high-b_high-2) → two_words c.args.b_high c.args.b_low ≤ two_words c.args.a_high c.args.a_low
more c =
    let s = c in
    not_less (2 ^ 64) s.args.a_high s.args.a_low s.args.b_high s.args.b_low s.ranges.b_low.fits (omega arith)
    (λ e. elim c.if-a_high-b_high-2.branch [ then-a_high-b_high-2+else-a_low-b_low w ↦ w.if-a_low-b_low.false | else-a_high-b_high-2 w ↦ absurd (w.if-a_high-b_high-2.false e) ])

pub minus-w-requires : goal.minus-w-requires
minus-w-requires c = let s = c in le_of_lt (less_by_high (2 ^ 64) s.args.a_high s.args.a_low s.args.b_high s.args.b_low s.ranges.a_low.fits c.if-a_high-b_high.true)

pub returns-then-a_high-b_high : goal.returns-then-a_high-b_high
returns-then-a_high-b_high c = let s = c in second-larger (two_words s.args.a_high s.args.a_low) (two_words s.args.b_high s.args.b_low) (words_of c.minus-w.result) (less_by_high (2 ^ 64) s.args.a_high s.args.a_low s.args.b_high s.args.b_low s.ranges.a_low.fits c.if-a_high-b_high.true) c.minus-w.ensures

pub returns-then-a_low-b_low : goal.returns-then-a_low-b_low
returns-then-a_low-b_low c = let s = c in second-larger (two_words s.args.a_high s.args.a_low) (two_words s.args.b_high s.args.b_low) (two_words 0 (s.args.b_low - s.args.a_low)) (less_by_low (2 ^ 64) s.args.a_high s.args.a_low s.args.b_high s.args.b_low c.if-a_high-b_high-2.true c.if-a_low-b_low.true) (low-apart (2 ^ 64) s.args.a_high s.args.a_low s.args.b_high s.args.b_low c.if-a_high-b_high-2.true c.if-a_low-b_low.true)

pub minus-w-requires-2 : goal.minus-w-requires-2
minus-w-requires-2 c = more c

pub returns : goal.returns
returns c = let s = c in first-larger (two_words s.args.a_high s.args.a_low) (two_words s.args.b_high s.args.b_low) (words_of c.minus-w-2.result) (more (goal.at.returns c).Joined-a_high-b_high-2) c.minus-w-2.ensures
