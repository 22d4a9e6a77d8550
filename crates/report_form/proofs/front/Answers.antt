-- `report_form::front` meets its contract, within the column and past its end. Assumes nothing.
use mathlib.Core.Path.{sym}
use native.Mathlib.Omega.{arith}
use lib.Seq.{take_all, length-take-le}
use Rattle.report_form.proofs.front.Goals as goal

pub slice_bounds-result-end : goal.slice_bounds-result-end
slice_bounds-result-end c = sym (length-take-le c.args.count c.args.column.now (omega arith))

pub returns : goal.returns
returns c = sym (take_all c.args.count c.args.column.now (omega arith))
