-- `columns_order::falls_throughout` compares each number with the one before. Assumes nothing.
use Rattle.std.proofs.Common.{◌≡◌, ◌+◌, ◌-◌, ◌<◌, ◌≤◌, ◌∙◌, ℕ, Bool, List, Float, map, length, get_or, refl, sym, arith}
use Rattle.std.specs.Float.{nan}
use Rattle.std.specs.Float.Ieee.{lt}
use Rattle.ieee.proofs.ColumnNumbers.{numbers_long, number_at}
use Rattle.columns_order.specs.Falling.{falling}
use Rattle.columns_order.proofs.EachTwoFrom.{passes_on, fails-here, at_end}
use Rattle.columns_order.proofs.falls_throughout.Goals as goal

pub loop-i-init : goal.loop-i-init
loop-i-init g c = refl

-- the test of the entry that the loop has come to, and of the one before
tested : {A : Type 0} {number : A → Float} {numbers : List A → List Float} (each : (column : List A) → numbers column ≡ map number column)
    → (column : List A) (i : ℕ) {x y : A} {answer : Bool} → 1 ≤ i → i < length column → x ≡ get_or column i x → y ≡ get_or column (i - 1) y
    → answer ≡ lt (number x) (number y) → falling (get_or (numbers column) (i - 1) nan) (get_or (numbers column) (i - 1 + 1) nan) ≡ answer
tested each column i {x} {y} behind inside here before answered =
    let on : i - 1 + 1 ≡ i = omega arith in
    rw (on, number_at each column i x nan inside here, number_at each column (i - 1) y nan (omega arith) before) (sym answered)

pub returns-then-not-is_below : goal.returns-then-not-is_below
returns-then-not-is_below g c =
    let numbers = g.R.Real.numbers c.args.column.now in
    let inside : c.loop-i.i - 1 + 1 < length numbers = rw (numbers_long g.met.R.Real.each c.args.column.now) (omega (arith, c.loop-i.auto.i, c.loop-i-test.true)) in
    fails-here falling numbers (c.loop-i.i - 1) c.loop-i.invariant inside (tested g.met.R.Real.each c.args.column.now c.loop-i.i c.loop-i.auto.i c.loop-i-test.true c.index-column-i.is c.index-column-i-in-loop-i.is c.is_below.ensures ∙ c.if-not-is_below.true)

pub loop-i-preserved : goal.loop-i-preserved
loop-i-preserved g c =
    let numbers = g.R.Real.numbers c.args.column.now in
    let inside : c.loop-i.i - 1 + 1 < length numbers = rw (numbers_long g.met.R.Real.each c.args.column.now) (omega (arith, c.loop-i.auto.i, c.loop-i-test.true)) in
    let on : c.loop-i.i + 1 - 1 ≡ c.loop-i.i - 1 + 1 = omega (arith, c.loop-i.auto.i) in
    rw on (passes_on falling numbers (c.loop-i.i - 1) c.loop-i.invariant inside (tested g.met.R.Real.each c.args.column.now c.loop-i.i c.loop-i.auto.i c.loop-i-test.true c.index-column-i.is c.index-column-i-in-loop-i.is c.is_below.ensures ∙ c.if-not-is_below.false))

pub returns : goal.returns
returns g c =
    let numbers = g.R.Real.numbers c.args.column.now in
    let long = numbers_long g.met.R.Real.each c.args.column.now in
    at_end falling numbers (c.loop-i.i - 1) c.loop-i.invariant (rw long (omega (arith, c.loop-i.auto.i, c.loop-i-test.false)))
