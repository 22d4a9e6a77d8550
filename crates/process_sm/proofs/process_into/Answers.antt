-- `process_sm::process_into` has both lists walked into the rooms of stops and warps, and the tempos tidied from their columns. Assumes nothing.
use Rattle.std.proofs.Common.{◌≡◌, ℕ, sym, ◌∙◌, length-take-le, rules}
use Rattle.process_raw.specs.RawLists.{raw_numbers}
use Rattle.process_sm_changes.specs.SmChanges.{sm_changes}
use Rattle.process_sm_walk.specs.Columns.{Columns, columns}
use Rattle.process_sm_lent.proofs.WalkedColumns.{Fronts}
use Rattle.process_sm.proofs.WalkedIntoRooms.{number-walked, fronts, into_refused, into_taken}
use Rattle.process_sm.proofs.process_into.Goals as goal
use Rattle.process_sm.proofs.process_into.Goals.{After-walk_raw-walked, Else-walked-ne-TAKEN, Start}

-- ---- where the walk has left its columns
abbrev entered : After-walk_raw-walked → Start
entered c = (goal.at.After-walk_raw-walked c).Start

abbrev left : After-walk_raw-walked → Columns
left c = columns c.walk_raw-walked.new.walked_tempo_beats c.walk_raw-walked.new.walked_tempo_values c.walk_raw-walked.new.walked_stop_beats c.walk_raw-walked.new.walked_stop_values c.walk_raw-walked.new.walked_warp_beats c.walk_raw-walked.new.walked_warp_lengths

abbrev walked : Else-walked-ne-TAKEN → After-walk_raw-walked
walked c = (goal.at.Else-walked-ne-TAKEN c).After-walk_raw-walked

abbrev refusal : Start → ℕ
refusal s = raw_numbers s.args.tempo_beats.now s.args.tempo_values.now s.args.stop_beats.now s.args.stop_values.now

passed : (c : Else-walked-ne-TAKEN) → refusal (entered (walked c)) ≡ 0
passed c =
    let w = walked c in
    let s = entered w in
    sym (number-walked s.args.tempo_beats.now s.args.tempo_values.now s.args.stop_beats.now s.args.stop_values.now s.args.walked_beats.now s.args.walked_values.now s.args.out_tempo_beats.now s.args.out_tempo_values.now s.args.out_stop_beats.now s.args.out_stop_values.now s.args.out_warp_beats.now s.args.out_warp_lengths.now s.requires.fact s.requires.fact_2 w.walk_raw-walked.result (left w) w.walk_raw-walked.ensures) ∙ c.if-walked-ne-TAKEN.false

stand : (c : Else-walked-ne-TAKEN) → Fronts (sm_changes (entered (walked c)).args.tempo_beats.now (entered (walked c)).args.tempo_values.now) (sm_changes (entered (walked c)).args.stop_beats.now (entered (walked c)).args.stop_values.now) (walked c).walk_raw-walked.result (left (walked c))
stand c =
    let w = walked c in
    let s = entered w in
    fronts s.args.tempo_beats.now s.args.tempo_values.now s.args.stop_beats.now s.args.stop_values.now s.args.walked_beats.now s.args.walked_values.now s.args.out_tempo_beats.now s.args.out_tempo_values.now s.args.out_stop_beats.now s.args.out_stop_values.now s.args.out_warp_beats.now s.args.out_warp_lengths.now s.requires.fact s.requires.fact_2 w.walk_raw-walked.result (left w) w.walk_raw-walked.ensures (passed c)

pub shape_of-walked_beats-then-walked-ne-TAKEN : goal.shape_of-walked_beats-then-walked-ne-TAKEN
shape_of-walked_beats-then-walked-ne-TAKEN c = c.walked_beats-1.given

pub shape_of-walked_values-then-walked-ne-TAKEN : goal.shape_of-walked_values-then-walked-ne-TAKEN
shape_of-walked_values-then-walked-ne-TAKEN c = c.walked_values-1.given

pub shape_of-out_stop_beats-then-walked-ne-TAKEN : goal.shape_of-out_stop_beats-then-walked-ne-TAKEN
shape_of-out_stop_beats-then-walked-ne-TAKEN c = c.out_stop_beats-1.given

pub shape_of-out_stop_values-then-walked-ne-TAKEN : goal.shape_of-out_stop_values-then-walked-ne-TAKEN
shape_of-out_stop_values-then-walked-ne-TAKEN c = c.out_stop_values-1.given

pub shape_of-out_warp_beats-then-walked-ne-TAKEN : goal.shape_of-out_warp_beats-then-walked-ne-TAKEN
shape_of-out_warp_beats-then-walked-ne-TAKEN c = c.out_warp_beats-1.given

pub shape_of-out_warp_lengths-then-walked-ne-TAKEN : goal.shape_of-out_warp_lengths-then-walked-ne-TAKEN
shape_of-out_warp_lengths-then-walked-ne-TAKEN c = c.out_warp_lengths-1.given

pub returns-then-walked-ne-TAKEN : goal.returns-then-walked-ne-TAKEN
returns-then-walked-ne-TAKEN c =
    let w = c in
    let s = entered (goal.at.returns-then-walked-ne-TAKEN w).After-walk_raw-walked in
    rw c.refused.ensures (into_refused s.args.tempo_beats.now s.args.tempo_values.now s.args.stop_beats.now s.args.stop_values.now s.args.walked_beats.now s.args.walked_values.now s.args.out_tempo_beats.now s.args.out_tempo_values.now s.args.out_stop_beats.now s.args.out_stop_values.now s.args.out_warp_beats.now s.args.out_warp_lengths.now s.requires.fact s.requires.fact_2 w.walk_raw-walked.result (left (goal.at.returns-then-walked-ne-TAKEN w).After-walk_raw-walked) w.walk_raw-walked.ensures c.if-walked-ne-TAKEN.true)

pub slice_bounds-tidy_bpms-end : goal.slice_bounds-tidy_bpms-end
slice_bounds-tidy_bpms-end c = (stand c).tempo_beats.inside

pub slice_bounds-tidy_bpms-end-2 : goal.slice_bounds-tidy_bpms-end-2
slice_bounds-tidy_bpms-end-2 c = sym (length-take-le _ _ (stand c).tempo_beats.inside)

pub slice_bounds-tidy_bpms-end-3 : goal.slice_bounds-tidy_bpms-end-3
slice_bounds-tidy_bpms-end-3 c = (stand c).tempo_values.inside

pub slice_bounds-tidy_bpms-end-4 : goal.slice_bounds-tidy_bpms-end-4
slice_bounds-tidy_bpms-end-4 c = sym (length-take-le _ _ (stand c).tempo_values.inside)

pub shape_of-walked_beats : goal.shape_of-walked_beats
shape_of-walked_beats c = c.walked_beats-1.given

pub shape_of-walked_values : goal.shape_of-walked_values
shape_of-walked_values c = c.walked_values-1.given

pub shape_of-out_tempo_beats : goal.shape_of-out_tempo_beats
shape_of-out_tempo_beats c = c.out_tempo_beats-1.given

pub shape_of-out_tempo_values : goal.shape_of-out_tempo_values
shape_of-out_tempo_values c = c.out_tempo_values-1.given

pub shape_of-out_stop_beats : goal.shape_of-out_stop_beats
shape_of-out_stop_beats c = c.out_stop_beats-1.given

pub shape_of-out_stop_values : goal.shape_of-out_stop_values
shape_of-out_stop_values c = c.out_stop_values-1.given

pub shape_of-out_warp_beats : goal.shape_of-out_warp_beats
shape_of-out_warp_beats c = c.out_warp_beats-1.given

pub shape_of-out_warp_lengths : goal.shape_of-out_warp_lengths
shape_of-out_warp_lengths c = c.out_warp_lengths-1.given

pub returns : goal.returns
returns c =
    let e = c in
    let w = walked (goal.at.returns e).Else-walked-ne-TAKEN in
    let s = entered w in
    let f = stand (goal.at.returns e).Else-walked-ne-TAKEN in
    into_taken s.args.tempo_beats.now s.args.tempo_values.now s.args.stop_beats.now s.args.stop_values.now s.args.walked_beats.now s.args.walked_values.now s.args.out_tempo_beats.now s.args.out_tempo_values.now s.args.out_stop_beats.now s.args.out_stop_values.now s.args.out_warp_beats.now s.args.out_warp_lengths.now s.requires.fact s.requires.fact_2 w.walk_raw-walked.result (left w) w.walk_raw-walked.ensures (passed (goal.at.returns e).Else-walked-ne-TAKEN) _ _ f.tempo_beats.read f.tempo_values.read c.tidy_bpms-tempos.ensures c.f32_to_f64_with_nan.ensures
