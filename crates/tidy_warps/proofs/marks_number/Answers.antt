-- `tidy_warps::marks_number` is `marks_number`, test by test. Assumes nothing.
use mathlib.Core.Path.{◌≡◌, sym, ◌∙◌}
use mathlib.Core.Bool.{true, false}
use native.Mathlib.Omega.{arith}
use borrow.Author.Tests.{eq-eqb, le-ltb}
use lib.ListN.{length}
use Rattle.limits.specs.Numbers.{every}
use Rattle.picks.proofs.Rules.{flags}
use Rattle.tidy_warps.specs.Marks.{is_mark, marks_number}
use Rattle.tidy_warps.proofs.marks_number.Goals as goal

pub returns-then-marks-gt-MOST_ENTRIES : goal.returns-then-marks-gt-MOST_ENTRIES
unfolding marks_number
returns-then-marks-gt-MOST_ENTRIES c = search flags depth 8

pub returns-then-beats-marks : goal.returns-then-beats-marks
unfolding marks_number
returns-then-beats-marks c = search flags depth 8

pub returns-then-units_taken : goal.returns-then-units_taken
unfolding marks_number
returns-then-units_taken c =
    let start = c in
    let all : every is_mark start.args.marks.now ≡ true = sym c.units_taken.ensures ∙ c.if-units_taken.true in
    rw (le-ltb 1024 (length start.args.marks.now) (omega arith), eq-eqb start.args.beats (length start.args.marks.now) (omega arith), all)

pub returns : goal.returns
unfolding marks_number
returns c =
    let start = c in
    let all : every is_mark start.args.marks.now ≡ false = sym c.units_taken.ensures ∙ c.if-units_taken.false in
    rw (le-ltb 1024 (length start.args.marks.now) (omega arith), eq-eqb start.args.beats (length start.args.marks.now) (omega arith), all)
