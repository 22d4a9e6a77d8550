use Rattle.std.proofs.Common.{◌+◌, ◌-◌, ◌*◌, ◌/◌, ◌%◌, ◌^◌, ◌≤◌, inl, inr, ⊎_elim, arith, rules}
use Rattle.ieee_mul_add.specs.inside.RoundedFromCut.{KeptOf}
use Rattle.ieee_mul_add.specs.inside.Words.{two_words}
use Rattle.ieee_mul_add.proofs.RoundedFromWords.{digits_in, few-zeros, Shift, shift_of, kept_words}
use Rattle.ieee_mul_add.proofs.kept_high.Goals as goal
use Rattle.ieee_mul_add.proofs.kept_high.Goals.{After-cut-quarters, Joined-exponent-over, then-exponent-over, else-exponent-over}

shift : (c : Joined-exponent-over) → Shift (digits_in c.args.high) c.args.precision c.args.base c.args.exponent c.if-exponent-over.shift
shift c =
    let a = c.args in
    let z = few-zeros a.high c.requires.0 c.ranges.high.fits in
    shift_of (digits_in a.high) a.precision a.base a.exponent c.if-exponent-over.shift (omega arith) (omega arith) c.requires.1 c.requires.2 c.requires.3 c.requires.4
    (elim c.if-exponent-over.branch [ then-exponent-over w ↦ inl (w.if-exponent-over.true, w.shift-is) | else-exponent-over w ↦ inr (w.if-exponent-over.false, w.shift-is) ])

answer : (c : After-cut-quarters) → (c.cut-quarters.result.low ≤ 2 ^ 55) × KeptOf c.args.precision c.args.base (two_words c.args.high c.args.low * 2 ^ c.args.exponent) (c.args.exponent + c.if-exponent-over.shift - c.args.base) ((c.cut-quarters.result.low + 1 + c.cut-quarters.result.low / 4 % 2) / 4)
answer c =
    let b = c in
    let a = b.args in
    kept_words a.high a.low a.exponent a.precision a.base c.if-exponent-over.shift c.cut-quarters.result.high c.cut-quarters.result.low b.requires.0 b.ranges.high.fits b.ranges.low.fits b.requires.2 (shift (goal.at.After-cut-quarters c).Joined-exponent-over) c.cut-quarters.ensures

pub overflow_cast-over : goal.overflow_cast-over
overflow_cast-over c = omega (arith, few-zeros c.args.high c.requires.0 c.ranges.high.fits)

pub overflow_sub-over : goal.overflow_sub-over
overflow_sub-over c = omega (arith, few-zeros c.args.high c.requires.0 c.ranges.high.fits)

pub overflow_sub-over-2 : goal.overflow_sub-over-2
overflow_sub-over-2 c = omega (arith, few-zeros c.args.high c.requires.0 c.ranges.high.fits)

pub overflow_sub-shift-2 : goal.overflow_sub-shift-2
overflow_sub-shift-2 c = (shift (goal.at.overflow_sub-shift-2 c).Joined-exponent-over).two_more

pub overflow_add-result : goal.overflow_add-result
overflow_add-result c = omega (arith, (shift (goal.at.overflow_add-result c).Joined-exponent-over).small)

pub overflow_sub-result : goal.overflow_sub-result
overflow_sub-result c = (shift (goal.at.overflow_sub-result c).Joined-exponent-over).reaches

pub overflow_add-result-2 : goal.overflow_add-result-2
overflow_add-result-2 c = omega (arith, (answer c).0)

pub overflow_add-result-3 : goal.overflow_add-result-3
overflow_add-result-3 c = omega (arith, (answer c).0)

pub returns : goal.returns
returns c = ((answer c).1, (shift (goal.at.returns c).Joined-exponent-over).shallow)
