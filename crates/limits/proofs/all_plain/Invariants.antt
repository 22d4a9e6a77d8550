-- `limits::all_plain` keeps the worst of a column, and that is none. Assumes nothing.
use Rattle.std.proofs.Common.{◌≡◌, drop}
use Rattle.limits.specs.Numbers.{every}
use Rattle.limits.specs.Plain.{plain}
use Rattle.limits.proofs.WorstSoFar.{passing}
use Rattle.limits.proofs.all_plain.Given as goal

abbrev pub invariant-loop-x : goal.invariant-loop-x
invariant-loop-x g l =
    let numbers = g.R.Real.numbers l.column in
    passing l.worst (every (plain l.range) (drop l.x-index numbers)) ≡ every (plain l.range) numbers
