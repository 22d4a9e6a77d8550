-- `assembly_rows::lay_turned` lays each number by itself, and turns both fronts round. Assumes nothing.
use Prim.Native.Nat.{◌≤◌}
use mathlib.Core.Path.{sym}
use native.Mathlib.Omega.{arith}
use borrow.Author.Tests.{eq-eqb}
use lib.ListN.{length}
use lib.Seq.{length-take-le}
use Rattle.columns.specs.Laying.{LaidPair}
use Rattle.columns.proofs.FrontsTurned.{pair-turned, front_fits}
use Rattle.assembly_rows.specs.AssembledRows.{each_by_itself}
use borrow.Author.Rules.{rules}
use Rattle.assembly_rows.proofs.lay_turned.Goals as goal
use Rattle.assembly_rows.proofs.lay_turned.Goals.{After-lay_each-outcome, Start}

-- ---- once each is laid
abbrev start : After-lay_each-outcome → Start
start c = (goal.at.After-lay_each-outcome c).Start

laid-pair : (c : After-lay_each-outcome)
    → LaidPair 0 (each_by_itself (start c).args.meaning (start c).args.quantised.now (start c).args.values.now) c.lay_each-outcome.result (start c).args.out_beats.now
    c.lay_each-outcome.new.out_beats (start c).args.out_values.now c.lay_each-outcome.new.out_values
laid-pair c = rw (eq-eqb (length (start c).args.quantised.now) (length (start c).args.values.now) (start c).requires) at c.lay_each-outcome.ensures

in_beats_lem : (c : After-lay_each-outcome) → c.lay_each-outcome.result.count ≤ length c.lay_each-outcome.new.out_beats
in_beats_lem c = omega (arith, front_fits (laid-pair c), c.lay_each-outcome.auto.out_beats)

in-values : (c : After-lay_each-outcome) → c.lay_each-outcome.result.count ≤ length c.lay_each-outcome.new.out_values
in-values c = omega (arith, front_fits (laid-pair c), c.lay_each-outcome.auto.out_values)

pub slice_bounds-reverse-end : goal.slice_bounds-reverse-end
slice_bounds-reverse-end c = in_beats_lem (goal.at.slice_bounds-reverse-end c).After-lay_each-outcome

pub slice_bounds-reverse-end-2 : goal.slice_bounds-reverse-end-2
slice_bounds-reverse-end-2 c = sym (length-take-le _ _ (in_beats_lem (goal.at.slice_bounds-reverse-end-2 c).After-lay_each-outcome))

pub slice_bounds-reverse-end-3 : goal.slice_bounds-reverse-end-3
slice_bounds-reverse-end-3 c = in-values (goal.at.slice_bounds-reverse-end-3 c).After-lay_each-outcome

pub slice_bounds-reverse-end-4 : goal.slice_bounds-reverse-end-4
slice_bounds-reverse-end-4 c = sym (length-take-le _ _ (in-values (goal.at.slice_bounds-reverse-end-4 c).After-lay_each-outcome))

pub returns : goal.returns
returns c =
    let laying = c in
    rw (c.reverse.ensures.after, c.reverse-2.ensures.after) (pair-turned (laid-pair (goal.at.returns laying).After-lay_each-outcome))
