-- `text_decimal::nearest_shifted` meets its contract: by a sum, and 0 where less than a half is left. Assumes nothing.
use native.Mathlib.Omega.{arith}
use Rattle.text_decimal.proofs.ClosestBySum.{unit_of_lem, closest_by_unit, closest_small}
use Rattle.text_decimal.proofs.nearest_shifted.Goals as goal

pub returns-then-k-gt62 : goal.returns-then-k-gt62
returns-then-k-gt62 c = closest_small c.args.n c.args.k c.requires.0 (omega arith)

pub overflow_sub-result : goal.overflow_sub-result
overflow_sub-result c = let u = unit_of_lem c.args.k c.requires.1 c.if-k-gt62.false in omega arith

pub overflow_add-result : goal.overflow_add-result
overflow_add-result c = let u = unit_of_lem c.args.k c.requires.1 c.if-k-gt62.false in omega arith

pub overflow_add-result-2 : goal.overflow_add-result-2
overflow_add-result-2 c = let u = unit_of_lem c.args.k c.requires.1 c.if-k-gt62.false in omega arith

pub nonzero_div-result-2 : goal.nonzero_div-result-2
nonzero_div-result-2 c = let u = unit_of_lem c.args.k c.requires.1 c.if-k-gt62.false in omega arith

pub returns : goal.returns
returns c = closest_by_unit c.args.n _ c.args.k (unit_of_lem c.args.k c.requires.1 c.if-k-gt62.false)
