-- `process_ssc::count_stayed` counts the entries that stay, one by one. Assumes nothing.
use Prim.Native.Nat.{◌<◌}
use mathlib.Core.Path.{◌≡◌, sym, ap, ◌∙◌}
use native.Mathlib.Omega.{arith}
use lib.ListN.{length, get_or}
use lib.Ieee.{nan}
use Rattle.order.specs.Entries.{entries}
use Rattle.order.proofs.Columns.{length-entries, entries-get_or}
use Rattle.columns.proofs.KeptLaid.{count_kept, count_left, count-all}
use Rattle.process_ssc.specs.Ssc.{stays_ssc, quantized_entry}
use Rattle.process_ssc.proofs.count_stayed.Goals as goal
use Rattle.process_ssc.proofs.count_stayed.Goals.{After-stays, then-stays, else-stays}

-- the entry at hand, as the definition reads it
inside : (c : After-stays) → c.loop-i.i < length (entries c.args.beats.now c.args.values.now)
inside c = omega (arith, length-entries c.args.beats.now c.args.values.now c.requires, c.loop-i-test.true)

test : (c : After-stays) → stays_ssc (get_or (entries c.args.beats.now c.args.values.now) c.loop-i.i (nan, nan)) ≡ c.stays.result
test c = ap stays_ssc (entries-get_or c.args.beats.now c.args.values.now c.loop-i.i nan nan c.requires) ∙ sym c.stays.ensures

pub loop-i-preserved : goal.loop-i-preserved
loop-i-preserved c =
    let at = (goal.at.loop-i-preserved c).After-stays in
    elim c.if-stays.branch [
      | then-stays w ↦ rw w.count-is (count_kept stays_ssc quantized_entry c.loop-i.invariant (nan, nan) (inside at) (test at ∙ w.if-stays.true))
      | else-stays w ↦ rw w.count-is (count_left stays_ssc quantized_entry c.loop-i.invariant (nan, nan) (inside at) (test at ∙ w.if-stays.false))
    ]

pub returns : goal.returns
returns c = count-all stays_ssc quantized_entry c.loop-i.invariant (omega (arith, length-entries c.args.beats.now c.args.values.now c.requires, c.loop-i-test.false))
