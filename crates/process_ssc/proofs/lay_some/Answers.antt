-- `process_ssc::lay_some` lays the entries that stay, one by one. Assumes nothing.
use Prim.Native.Nat.{◌<◌}
use mathlib.Core.Path.{◌≡◌, sym, ap, ◌∙◌}
use native.Mathlib.Omega.{arith}
use lib.ListN.{length, get_or}
use lib.Ieee.{Float, nan}
use Rattle.order.specs.Entries.{entries}
use Rattle.order.proofs.Columns.{length-entries, entries-get_or}
use Rattle.columns.proofs.KeptLaid.{lay_room, lay_kept_lem, lay_left, lay_all_lem}
use Rattle.process_ssc.specs.Ssc.{stays_ssc, quantized_entry}
use Rattle.process_ssc.proofs.lay_some.Goals as goal
use Rattle.process_ssc.proofs.lay_some.Goals.{After-stays, then-stays, else-stays}

-- the entry at hand, as the definition reads it
entry : (c : After-stays) → get_or (entries c.args.beats.now c.args.values.now) c.loop-i.i (nan, nan) ≡ (get_or c.args.beats.now c.loop-i.i nan, get_or c.args.values.now c.loop-i.i nan)
entry c = entries-get_or c.args.beats.now c.args.values.now c.loop-i.i nan nan c.requires.beats_len

inside : (c : After-stays) → c.loop-i.i < length (entries c.args.beats.now c.args.values.now)
inside c = omega (arith, length-entries c.args.beats.now c.args.values.now c.requires.beats_len, c.loop-i-test.true)

test : (c : After-stays) → stays_ssc (get_or (entries c.args.beats.now c.args.values.now) c.loop-i.i (nan, nan)) ≡ c.stays.result
test c = ap stays_ssc (entry c) ∙ sym c.stays.ensures

pub bounds-out_beats-count : goal.bounds-out_beats-count
bounds-out_beats-count c = (lay_room stays_ssc quantized_entry c.loop-i.invariant (nan, nan) (inside (goal.at.bounds-out_beats-count c).After-stays) (test (goal.at.bounds-out_beats-count c).After-stays ∙ c.if-stays.true) c.requires.values_len_bound).0

pub bounds-out_values-count : goal.bounds-out_values-count
bounds-out_values-count c = (lay_room stays_ssc quantized_entry c.loop-i.invariant (nan, nan) (inside (goal.at.bounds-out_values-count c).After-stays) (test (goal.at.bounds-out_values-count c).After-stays ∙ c.if-stays.true) c.requires.values_len_bound).1

pub loop-i-preserved : goal.loop-i-preserved
loop-i-preserved c =
    let at = (goal.at.loop-i-preserved c).After-stays in
    elim c.if-stays.branch [
      | then-stays w ↦
          rw (w.count-is, w.out_beats-is, w.out_values-is)
          (lay_kept_lem stays_ssc quantized_entry c.loop-i.invariant (nan, nan) (inside at) (test at ∙ w.if-stays.true) c.requires.values_len_bound _ _ (ap (λ (q : Float). (q, get_or c.args.values.now c.loop-i.i nan)) w.quantize_beat.ensures ∙ sym (ap quantized_entry (entry at))))
      | else-stays w ↦ rw (w.count-is, w.out_beats-is, w.out_values-is) (lay_left stays_ssc quantized_entry c.loop-i.invariant (nan, nan) (inside at) (test at ∙ w.if-stays.false))
    ]

pub returns : goal.returns
returns c =
    let all = lay_all_lem stays_ssc quantized_entry c.loop-i.invariant (omega (arith, length-entries c.args.beats.now c.args.values.now c.requires.beats_len, c.loop-i-test.false)) in
    record {
      value = all.0;
      out_beats_after = all.1;
      out_values_after = all.2;
    }
