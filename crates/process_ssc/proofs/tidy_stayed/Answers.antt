-- `process_ssc::tidy_stayed` lays the tempos that stay, reads them back and has them tidied. Assumes nothing.
use Prim.Native.Nat.{◌≤◌, min}
use mathlib.Core.Path.{◌≡◌, sym, ap, ◌∙◌}
use mathlib.Core.List.{map}
use native.Mathlib.Omega.{arith}
use lib.ListN.{length, take, length-map}
use lib.Seq.{length-take-le}
use Rattle.limits.proofs.ListTaken.{list-taken}
use Rattle.order.specs.Entries.{entries, first, second}
use Rattle.order.proofs.Columns.{length-entries}
use Rattle.order.proofs.LaidOverFront.{laid-length}
use Rattle.columns.proofs.KeptLaid.{few-kept}
use Rattle.process_raw.proofs.FrontRead.{front_read}
use Rattle.process_ssc.specs.Ssc.{stays_ssc, quantized_entry, stayed_ssc}
use Rattle.process_ssc.proofs.TemposTaken.{tempos-taken}
use Rattle.process_ssc.proofs.tidy_stayed.Goals as goal
use Rattle.process_ssc.proofs.tidy_stayed.Goals.{After-lay_stayed-count, Start}

even : (s : Start) → length s.args.beats.now ≡ length s.args.values.now
even s = (list-taken s.requires.values_value.0).even

fit : (s : Start) → length (stayed_ssc s.args.beats.now s.args.values.now) ≤ min (length s.args.work_beats.now) (length s.args.work_values.now)
fit s = omega (arith, few-kept stays_ssc quantized_entry (entries s.args.beats.now s.args.values.now), length-entries s.args.beats.now s.args.values.now (even s), s.requires.values_value.1)

-- what stands in the work columns
room-beats : (c : After-lay_stayed-count) → c.lay_stayed-count.result ≤ length c.lay_stayed-count.new.out_beats
room-beats c =
    let h = fit (goal.at.After-lay_stayed-count c).Start in
    let room : length (map first (stayed_ssc c.args.beats.now c.args.values.now)) ≤ length c.args.work_beats.now = simp length-map (omega arith) in
    omega (arith, c.lay_stayed-count.ensures.value, h, ap length c.lay_stayed-count.ensures.out_beats_after ∙ laid-length (map first (stayed_ssc c.args.beats.now c.args.values.now)) c.args.work_beats.now room)

room-values : (c : After-lay_stayed-count) → c.lay_stayed-count.result ≤ length c.lay_stayed-count.new.out_values
room-values c =
    let h = fit (goal.at.After-lay_stayed-count c).Start in
    let room : length (map second (stayed_ssc c.args.beats.now c.args.values.now)) ≤ length c.args.work_values.now = simp length-map (omega arith) in
    omega (arith, c.lay_stayed-count.ensures.value, h, ap length c.lay_stayed-count.ensures.out_values_after ∙ laid-length (map second (stayed_ssc c.args.beats.now c.args.values.now)) c.args.work_values.now room)

beats-read : (c : After-lay_stayed-count) → take c.lay_stayed-count.result c.lay_stayed-count.new.out_beats ≡ map first (stayed_ssc c.args.beats.now c.args.values.now)
beats-read c = ap (take c.lay_stayed-count.result) c.lay_stayed-count.ensures.out_beats_after ∙ front_read (map first (stayed_ssc c.args.beats.now c.args.values.now)) _ c.lay_stayed-count.result (c.lay_stayed-count.ensures.value ∙ sym (length-map (stayed_ssc c.args.beats.now c.args.values.now) first))

values-read : (c : After-lay_stayed-count) → take c.lay_stayed-count.result c.lay_stayed-count.new.out_values ≡ map second (stayed_ssc c.args.beats.now c.args.values.now)
values-read c = ap (take c.lay_stayed-count.result) c.lay_stayed-count.ensures.out_values_after ∙ front_read (map second (stayed_ssc c.args.beats.now c.args.values.now)) _ c.lay_stayed-count.result (c.lay_stayed-count.ensures.value ∙ sym (length-map (stayed_ssc c.args.beats.now c.args.values.now) second))

pub lay_stayed-count-requires : goal.lay_stayed-count-requires
lay_stayed-count-requires c =
    record {
      beats_len = even (goal.at.lay_stayed-count-requires c).Start;
      values_len_bound = fit (goal.at.lay_stayed-count-requires c).Start;
      known = c.requires.known;
    }

pub slice_bounds-tidy_bpms-end : goal.slice_bounds-tidy_bpms-end
slice_bounds-tidy_bpms-end c = room-beats (goal.at.slice_bounds-tidy_bpms-end c).After-lay_stayed-count

pub slice_bounds-tidy_bpms-end-2 : goal.slice_bounds-tidy_bpms-end-2
slice_bounds-tidy_bpms-end-2 c = sym (length-take-le _ _ (room-beats (goal.at.slice_bounds-tidy_bpms-end-2 c).After-lay_stayed-count))

pub slice_bounds-tidy_bpms-end-3 : goal.slice_bounds-tidy_bpms-end-3
slice_bounds-tidy_bpms-end-3 c = room-values (goal.at.slice_bounds-tidy_bpms-end-3 c).After-lay_stayed-count

pub slice_bounds-tidy_bpms-end-4 : goal.slice_bounds-tidy_bpms-end-4
slice_bounds-tidy_bpms-end-4 c = sym (length-take-le _ _ (room-values (goal.at.slice_bounds-tidy_bpms-end-4 c).After-lay_stayed-count))

pub returns : goal.returns
returns c = rw (beats-read (goal.at.returns c).After-lay_stayed-count, values-read (goal.at.returns c).After-lay_stayed-count, tempos-taken c.args.beats.now c.args.values.now c.requires.values_value.0) at c.tidy_bpms.ensures
