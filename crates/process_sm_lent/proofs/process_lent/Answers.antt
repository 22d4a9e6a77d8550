-- `process_sm_lent::process_lent` has both lists walked, and lays what the walk writes. Assumes nothing.
use Rattle.std.proofs.Common.{◌≡◌, ℕ, List, sym, ap, ◌∙◌, length-take-le, rules}
use lib.Ieee.{Float}
use Rattle.process_raw.specs.RawLists.{processed_nothing}
use Rattle.process_raw.proofs.BothTaken.{both-taken}
use Rattle.process_sm_changes.specs.SmChanges.{sm_changes}
use Rattle.process_sm_walk.specs.Chart.{processed}
use Rattle.process_sm_walk.specs.Columns.{Columns, columns}
use Rattle.process_sm_laws.proofs.ChangesTaken.{few-written, same-columns}
use Rattle.process_sm_laws.proofs.AssemblyTakes.{sm_tempos_tidied}
use Rattle.process_sm_walk_raw.specs.RawWalk.{walked_number}
use Rattle.process_sm_lent.specs.Lent.{WorkLaid}
use Rattle.process_sm_lent.proofs.WalkedColumns.{Fronts, walked-fronts, raw-taken, room-taken}
use Rattle.process_sm_lent.proofs.Ends.{by_tests, as_read}
use Rattle.process_sm_lent.proofs.process_lent.Goals as goal
use Rattle.process_sm_lent.proofs.process_lent.Goals.{After-walk_raw-walked, Else-walked-ne-TAKEN, Start}

-- ---- the given lists, and where the walk has left its columns
abbrev entered : After-walk_raw-walked → Start
entered c = (goal.at.After-walk_raw-walked c).Start

abbrev tempos : Start → List (Float × Float)
tempos c = sm_changes c.args.tempo_beats.now c.args.tempo_values.now

abbrev stops : Start → List (Float × Float)
stops c = sm_changes c.args.stop_beats.now c.args.stop_values.now

abbrev lent : Start → Columns
lent c = columns c.args.walked_tempo_beats.now c.args.walked_tempo_values.now c.args.walked_stop_beats.now c.args.walked_stop_values.now c.args.walked_warp_beats.now c.args.walked_warp_lengths.now

abbrev numbered : Start → ℕ
numbered c = walked_number c.args.tempo_beats.now c.args.tempo_values.now c.args.stop_beats.now c.args.stop_values.now (lent c)

abbrev left : After-walk_raw-walked → Columns
left c = columns c.walk_raw-walked.new.walked_tempo_beats c.walk_raw-walked.new.walked_tempo_values c.walk_raw-walked.new.walked_stop_beats c.walk_raw-walked.new.walked_stop_values c.walk_raw-walked.new.walked_warp_beats c.walk_raw-walked.new.walked_warp_lengths

abbrev walked : Else-walked-ne-TAKEN → After-walk_raw-walked
walked c = (goal.at.Else-walked-ne-TAKEN c).After-walk_raw-walked

number : (c : After-walk_raw-walked) → c.walk_raw-walked.result.number ≡ numbered (entered c)
number c = c.walk_raw-walked.ensures.number

passed : (c : Else-walked-ne-TAKEN) → numbered (entered (walked c)) ≡ 0
passed c = sym (number (walked c)) ∙ c.if-walked-ne-TAKEN.false

fronts : (c : Else-walked-ne-TAKEN) → Fronts (tempos (entered (walked c))) (stops (entered (walked c))) (walked c).walk_raw-walked.result (left (walked c))
fronts c =
    let s = entered (walked c) in
    let both = both-taken (raw-taken s.args.tempo_beats.now s.args.tempo_values.now s.args.stop_beats.now s.args.stop_values.now (lent s) (passed c)) in
    walked-fronts (rw (passed c) at (walked c).walk_raw-walked.ensures) (few-written s.args.tempo_beats.now s.args.tempo_values.now s.args.stop_beats.now s.args.stop_values.now both.tempos both.stops) (room-taken s.args.tempo_beats.now s.args.tempo_values.now s.args.stop_beats.now s.args.stop_values.now (lent s) (passed c))

work : (c : After-walk_raw-walked) → WorkLaid (numbered (entered c)) (processed (tempos (entered c)) (stops (entered c))) (lent (entered c)) (left c)
work c =
    let w = c.walk_raw-walked.ensures in
    record { tempo_beats = w.tempo_beats; tempo_values = w.tempo_values; stop_beats = w.stop_beats; stop_values = w.stop_values; warp_beats = w.warp_beats; warp_lengths = w.warp_lengths }

pub returns-then-walked-ne-TAKEN : goal.returns-then-walked-ne-TAKEN
returns-then-walked-ne-TAKEN c = let w = c in record { lists = rw (c.refused.ensures ∙ ap processed_nothing (number (goal.at.returns-then-walked-ne-TAKEN w).After-walk_raw-walked)) (by_tests (λ e. c.if-walked-ne-TAKEN.true (number (goal.at.returns-then-walked-ne-TAKEN w).After-walk_raw-walked ∙ e))); work = work (goal.at.returns-then-walked-ne-TAKEN w).After-walk_raw-walked }

pub slice_bounds-lay_results-end : goal.slice_bounds-lay_results-end
slice_bounds-lay_results-end c = (fronts (c)).tempo_beats.inside

pub slice_bounds-lay_results-end-2 : goal.slice_bounds-lay_results-end-2
slice_bounds-lay_results-end-2 c = sym (length-take-le _ _ (fronts c).tempo_beats.inside)

pub slice_bounds-lay_results-end-3 : goal.slice_bounds-lay_results-end-3
slice_bounds-lay_results-end-3 c = (fronts c).tempo_values.inside

pub slice_bounds-lay_results-end-4 : goal.slice_bounds-lay_results-end-4
slice_bounds-lay_results-end-4 c = sym (length-take-le _ _ (fronts c).tempo_values.inside)

pub slice_bounds-lay_results-end-5 : goal.slice_bounds-lay_results-end-5
slice_bounds-lay_results-end-5 c = (fronts c).stop_beats.inside

pub slice_bounds-lay_results-end-6 : goal.slice_bounds-lay_results-end-6
slice_bounds-lay_results-end-6 c = sym (length-take-le _ _ (fronts c).stop_beats.inside)

pub slice_bounds-lay_results-end-7 : goal.slice_bounds-lay_results-end-7
slice_bounds-lay_results-end-7 c = (fronts c).stop_values.inside

pub slice_bounds-lay_results-end-8 : goal.slice_bounds-lay_results-end-8
slice_bounds-lay_results-end-8 c = sym (length-take-le _ _ (fronts c).stop_values.inside)

pub slice_bounds-lay_results-end-9 : goal.slice_bounds-lay_results-end-9
slice_bounds-lay_results-end-9 c = (fronts c).warp_beats.inside

pub slice_bounds-lay_results-end-10 : goal.slice_bounds-lay_results-end-10
slice_bounds-lay_results-end-10 c = sym (length-take-le _ _ (fronts c).warp_beats.inside)

pub slice_bounds-lay_results-end-11 : goal.slice_bounds-lay_results-end-11
slice_bounds-lay_results-end-11 c = (fronts c).warp_lengths.inside

pub slice_bounds-lay_results-end-12 : goal.slice_bounds-lay_results-end-12
slice_bounds-lay_results-end-12 c = sym (length-take-le _ _ (fronts c).warp_lengths.inside)

pub lay_results-requires : goal.lay_results-requires
lay_results-requires c =
    let e = c in
    let s = entered (walked (goal.at.lay_results-requires e).Else-walked-ne-TAKEN) in
    let f = fronts (goal.at.lay_results-requires e).Else-walked-ne-TAKEN in
    let out = processed (tempos s) (stops s) in
    record {
      tempo_values_value = rw (f.tempo_beats.read, f.tempo_values.read) (sm_tempos_tidied s.args.tempo_beats.now s.args.tempo_values.now s.args.stop_beats.now s.args.stop_values.now (raw-taken s.args.tempo_beats.now s.args.tempo_values.now s.args.stop_beats.now s.args.stop_values.now (lent s) (passed (goal.at.lay_results-requires e).Else-walked-ne-TAKEN)));
      stop_beats_len = (rw (f.stop_beats.read, f.stop_values.read) (same-columns out.stops), rw (f.warp_beats.read, f.warp_lengths.read) (same-columns out.warps));
    }

pub shape_of-walked_tempo_beats : goal.shape_of-walked_tempo_beats
shape_of-walked_tempo_beats c = c.walked_tempo_beats-1.given

pub shape_of-walked_tempo_values : goal.shape_of-walked_tempo_values
shape_of-walked_tempo_values c = c.walked_tempo_values-1.given

pub shape_of-walked_stop_beats : goal.shape_of-walked_stop_beats
shape_of-walked_stop_beats c = c.walked_stop_beats-1.given

pub shape_of-walked_stop_values : goal.shape_of-walked_stop_values
shape_of-walked_stop_values c = c.walked_stop_values-1.given

pub shape_of-walked_warp_beats : goal.shape_of-walked_warp_beats
shape_of-walked_warp_beats c = c.walked_warp_beats-1.given

pub shape_of-walked_warp_lengths : goal.shape_of-walked_warp_lengths
shape_of-walked_warp_lengths c = c.walked_warp_lengths-1.given

pub returns : goal.returns
returns c =
    let e = c in
    let s = entered (walked (goal.at.returns e).Else-walked-ne-TAKEN) in
    let f = fronts (goal.at.returns e).Else-walked-ne-TAKEN in
    record {
      lists = as_read (processed (tempos s) (stops s)).tempos c.lay_results.ensures (passed (goal.at.returns e).Else-walked-ne-TAKEN) f.tempo_beats.read f.tempo_values.read f.stop_beats.read f.stop_values.read f.warp_beats.read f.warp_lengths.read
          (c.f32_to_f64_with_nan.ensures ∙ f.offset);
      work = work (walked (goal.at.returns e).Else-walked-ne-TAKEN);
    }
