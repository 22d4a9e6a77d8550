-- `report_form::count_of` meets its contract. Assumes nothing.
use mathlib.Core.Path.{sym}
use native.Mathlib.Omega.{arith}
use lib.ListN.{get_or-eq_default}
use Rattle.report_form.proofs.count_of.Goals as goal

pub returns : goal.returns
returns c = sym (get_or-eq_default c.args.counts.now 0 {n = c.args.list} (omega arith))
