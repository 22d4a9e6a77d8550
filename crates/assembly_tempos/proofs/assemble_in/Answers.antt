-- `assembly_tempos::assemble_in` has the lists processed into work columns, and lays what is read from them. Assumes nothing.
use Prim.Native.Nat.{ℕ, ◌-◌, ◌+◌}
use mathlib.Core.Path.{◌≡◌, sym, ap, ap₂, ◌∙◌}
use mathlib.Core.Bool.{true}
use native.Mathlib.Omega.{arith}
use lib.ListN.{length}
use lib.Seq.{length-take-le}
use Rattle.limits.specs.Numbers.{every}
use Rattle.limits.specs.Refusals.{lower}
use Rattle.limits.proofs.NoRefusal.{lower-none}
use Rattle.tidy_warps.specs.Marks.{is_mark, marks_number}
use Rattle.tidy_warps.proofs.MarkedTaken.{marks-taken}
use Rattle.process_raw.specs.LentLists.{ThreeColumns, three_columns}
use Rattle.assembly_warps.specs.MergedWarps.{three_number, merged_lists}
use Rattle.assembly_marks.specs.LentMarks.{mark_columns}
use Rattle.assembly_tempos.specs.AssembledTempos.{raw_with, made_warps}
use Rattle.assembly_tempos.specs.inside.Refusal.{nothing_assembled}
use Rattle.assembly_tempos.proofs.Ends.{raw-refused}
use Rattle.assembly_tempos.proofs.WorkColumns.{Fronts, number_is, fronts, as_read, fronts-inside, warps-merged, processed-columns, tempos-held, stops-held}
use Rattle.assembly_tempos.proofs.assemble_in.Goals as goal
use Rattle.assembly_tempos.proofs.assemble_in.Goals.{After-lower_of-number, Else-number-ne-TAKEN, Start}

-- ---- what is given
abbrev raw : Start → ThreeColumns
raw s = three_columns s.args.tempo_beats.now s.args.tempo_values.now s.args.stop_beats.now s.args.stop_values.now s.args.warp_beats.now s.args.warp_lengths.now

-- ---- once all is tested
abbrev start : After-lower_of-number → Start
start c = (goal.at.After-lower_of-number c).Start

all-number : (c : After-lower_of-number) → c.lower_of-number.result ≡ raw_with (start c).args.other (raw (start c)) (start c).args.warp_marks.now
all-number c =
    c.lower_of-number.ensures
    ∙ ap₂ lower (c.lower_of-lists.ensures ∙ ap (λ (n : ℕ). lower n (start c).args.other) (number_is c.process_with_warps-processed.ensures (start c).requires)) c.marks_number.ensures

-- the lists are taken, and so they can be read back
raw-taken : (c : Else-number-ne-TAKEN) → raw_with (start (goal.at.Else-number-ne-TAKEN c).After-lower_of-number).args.other (raw (start (goal.at.Else-number-ne-TAKEN c).After-lower_of-number)) (start (goal.at.Else-number-ne-TAKEN c).After-lower_of-number).args.warp_marks.now ≡ 0
raw-taken c = sym (all-number (goal.at.Else-number-ne-TAKEN c).After-lower_of-number) ∙ c.if-number-ne-TAKEN.false

two-taken : (c : Else-number-ne-TAKEN) → (lower (three_number (raw (start (goal.at.Else-number-ne-TAKEN c).After-lower_of-number))) (start (goal.at.Else-number-ne-TAKEN c).After-lower_of-number).args.other ≡ 0) × (marks_number (length (start (goal.at.Else-number-ne-TAKEN c).After-lower_of-number).args.warp_beats.now) (start (goal.at.Else-number-ne-TAKEN c).After-lower_of-number).args.warp_marks.now ≡ 0)
two-taken c = lower-none _ _ (raw-taken c)

three-taken : (c : Else-number-ne-TAKEN) → three_number (raw (start (goal.at.Else-number-ne-TAKEN c).After-lower_of-number)) ≡ 0
three-taken c = (lower-none (three_number (raw (start (goal.at.Else-number-ne-TAKEN c).After-lower_of-number))) (start (goal.at.Else-number-ne-TAKEN c).After-lower_of-number).args.other (two-taken c).0).0

marks-are : (c : Else-number-ne-TAKEN) → (length (start (goal.at.Else-number-ne-TAKEN c).After-lower_of-number).args.warp_beats.now ≡ length (start (goal.at.Else-number-ne-TAKEN c).After-lower_of-number).args.warp_marks.now) × (every is_mark (start (goal.at.Else-number-ne-TAKEN c).After-lower_of-number).args.warp_marks.now ≡ true)
marks-are c = marks-taken (start (goal.at.Else-number-ne-TAKEN c).After-lower_of-number).args.warp_beats.now (start (goal.at.Else-number-ne-TAKEN c).After-lower_of-number).args.warp_marks.now (two-taken c).1

read : (c : Else-number-ne-TAKEN) → Fronts (merged_lists (start (goal.at.Else-number-ne-TAKEN c).After-lower_of-number).args.format (raw (start (goal.at.Else-number-ne-TAKEN c).After-lower_of-number))) c.process_with_warps-processed.result (three_columns c.process_with_warps-processed.new.out_tempo_beats c.process_with_warps-processed.new.out_tempo_values c.process_with_warps-processed.new.out_stop_beats c.process_with_warps-processed.new.out_stop_values c.process_with_warps-processed.new.out_warp_beats c.process_with_warps-processed.new.out_warp_lengths)
read c = fronts c.process_with_warps-processed.ensures (number_is c.process_with_warps-processed.ensures (start (goal.at.Else-number-ne-TAKEN c).After-lower_of-number).requires ∙ three-taken c)

-- the given warps, and behind them those that are made
warps-are : (c : Else-number-ne-TAKEN) → c.process_with_warps-processed.result.warps ≡ length (start (goal.at.Else-number-ne-TAKEN c).After-lower_of-number).args.warp_beats.now + made_warps (start (goal.at.Else-number-ne-TAKEN c).After-lower_of-number).args.format (raw (start (goal.at.Else-number-ne-TAKEN c).After-lower_of-number))
warps-are c = (read c).warps_fit ∙ warps-merged (start (goal.at.Else-number-ne-TAKEN c).After-lower_of-number).args.format (raw (start (goal.at.Else-number-ne-TAKEN c).After-lower_of-number)) (three-taken c)

pub shape_of-work_tempo_beats-then-number-ne-TAKEN : goal.shape_of-work_tempo_beats-then-number-ne-TAKEN
shape_of-work_tempo_beats-then-number-ne-TAKEN c = c.work_tempo_beats-1.given

pub shape_of-work_tempo_values-then-number-ne-TAKEN : goal.shape_of-work_tempo_values-then-number-ne-TAKEN
shape_of-work_tempo_values-then-number-ne-TAKEN c = c.work_tempo_values-1.given

pub shape_of-work_stop_beats-then-number-ne-TAKEN : goal.shape_of-work_stop_beats-then-number-ne-TAKEN
shape_of-work_stop_beats-then-number-ne-TAKEN c = c.work_stop_beats-1.given

pub shape_of-work_stop_values-then-number-ne-TAKEN : goal.shape_of-work_stop_values-then-number-ne-TAKEN
shape_of-work_stop_values-then-number-ne-TAKEN c = c.work_stop_values-1.given

pub shape_of-work_warp_beats-then-number-ne-TAKEN : goal.shape_of-work_warp_beats-then-number-ne-TAKEN
shape_of-work_warp_beats-then-number-ne-TAKEN c = c.work_warp_beats-1.given

pub shape_of-work_warp_lengths-then-number-ne-TAKEN : goal.shape_of-work_warp_lengths-then-number-ne-TAKEN
shape_of-work_warp_lengths-then-number-ne-TAKEN c = c.work_warp_lengths-1.given

pub returns-then-number-ne-TAKEN : goal.returns-then-number-ne-TAKEN
returns-then-number-ne-TAKEN c =
    let at = c in
    let s = start (goal.at.returns-then-number-ne-TAKEN at).After-lower_of-number in
    rw (c.refused.ensures ∙ ap nothing_assembled (all-number (goal.at.returns-then-number-ne-TAKEN at).After-lower_of-number))
    (raw-refused (raw_with s.args.other (raw s) s.args.warp_marks.now) s.args.later s.args.most_warps (merged_lists s.args.format (raw s)) (λ z. c.if-number-ne-TAKEN.true (all-number (goal.at.returns-then-number-ne-TAKEN at).After-lower_of-number ∙ z)))

pub slice_bounds-lay_lists-end : goal.slice_bounds-lay_lists-end
slice_bounds-lay_lists-end c = (fronts-inside (read (c))).tempo_beats_in

pub slice_bounds-lay_lists-end-2 : goal.slice_bounds-lay_lists-end-2
slice_bounds-lay_lists-end-2 c = sym (length-take-le _ _ (fronts-inside (read c)).tempo_beats_in)

pub slice_bounds-lay_lists-end-3 : goal.slice_bounds-lay_lists-end-3
slice_bounds-lay_lists-end-3 c = (fronts-inside (read c)).tempo_values_in

pub slice_bounds-lay_lists-end-4 : goal.slice_bounds-lay_lists-end-4
slice_bounds-lay_lists-end-4 c = sym (length-take-le _ _ (fronts-inside (read c)).tempo_values_in)

pub slice_bounds-lay_lists-end-5 : goal.slice_bounds-lay_lists-end-5
slice_bounds-lay_lists-end-5 c = (fronts-inside (read c)).stop_beats_in

pub slice_bounds-lay_lists-end-6 : goal.slice_bounds-lay_lists-end-6
slice_bounds-lay_lists-end-6 c = sym (length-take-le _ _ (fronts-inside (read c)).stop_beats_in)

pub slice_bounds-lay_lists-end-7 : goal.slice_bounds-lay_lists-end-7
slice_bounds-lay_lists-end-7 c = (fronts-inside (read c)).stop_values_in

pub slice_bounds-lay_lists-end-8 : goal.slice_bounds-lay_lists-end-8
slice_bounds-lay_lists-end-8 c = sym (length-take-le _ _ (fronts-inside (read c)).stop_values_in)

pub slice_bounds-lay_lists-end-9 : goal.slice_bounds-lay_lists-end-9
slice_bounds-lay_lists-end-9 c = (fronts-inside (read c)).warp_beats_in

pub slice_bounds-lay_lists-end-10 : goal.slice_bounds-lay_lists-end-10
slice_bounds-lay_lists-end-10 c = sym (length-take-le _ _ (fronts-inside (read c)).warp_beats_in)

pub slice_bounds-lay_lists-end-11 : goal.slice_bounds-lay_lists-end-11
slice_bounds-lay_lists-end-11 c = (fronts-inside (read c)).warp_lengths_in

pub slice_bounds-lay_lists-end-12 : goal.slice_bounds-lay_lists-end-12
slice_bounds-lay_lists-end-12 c = sym (length-take-le _ _ (fronts-inside (read c)).warp_lengths_in)

pub overflow_sub-warps : goal.overflow_sub-warps
overflow_sub-warps c = omega (arith, warps-are c)

pub lay_lists-requires : goal.lay_lists-requires
lay_lists-requires c =
    let at = c in
    let s = start (goal.at.lay_lists-requires at).After-lower_of-number in
    let taken = three-taken (goal.at.lay_lists-requires at).Else-number-ne-TAKEN in
    let long = length-take-le c.process_with_warps-processed.result.warps c.process_with_warps-processed.new.out_warp_beats (fronts-inside (read (goal.at.lay_lists-requires at).Else-number-ne-TAKEN)).warp_beats_in in (
      processed-columns s.args.format (raw s) taken (read (goal.at.lay_lists-requires at).Else-number-ne-TAKEN),
      tempos-held s.args.format (raw s) taken (read (goal.at.lay_lists-requires at).Else-number-ne-TAKEN),
      stops-held s.args.format (raw s) taken (read (goal.at.lay_lists-requires at).Else-number-ne-TAKEN),
      record { as_many = omega (arith, long, warps-are (goal.at.lay_lists-requires at).Else-number-ne-TAKEN, (marks-are (goal.at.lay_lists-requires at).Else-number-ne-TAKEN).0); are_marks = (marks-are (goal.at.lay_lists-requires at).Else-number-ne-TAKEN).1 },
    )

pub shape_of-work_tempo_beats : goal.shape_of-work_tempo_beats
shape_of-work_tempo_beats c = c.work_tempo_beats-1.given

pub shape_of-work_tempo_values : goal.shape_of-work_tempo_values
shape_of-work_tempo_values c = c.work_tempo_values-1.given

pub shape_of-work_stop_beats : goal.shape_of-work_stop_beats
shape_of-work_stop_beats c = c.work_stop_beats-1.given

pub shape_of-work_stop_values : goal.shape_of-work_stop_values
shape_of-work_stop_values c = c.work_stop_values-1.given

pub shape_of-work_warp_beats : goal.shape_of-work_warp_beats
shape_of-work_warp_beats c = c.work_warp_beats-1.given

pub shape_of-work_warp_lengths : goal.shape_of-work_warp_lengths
shape_of-work_warp_lengths c = c.work_warp_lengths-1.given

pub shape_of-out_tempo_beats : goal.shape_of-out_tempo_beats
shape_of-out_tempo_beats c = c.out_tempo_beats-1.given

pub shape_of-out_tempo_values : goal.shape_of-out_tempo_values
shape_of-out_tempo_values c = c.out_tempo_values-1.given

pub shape_of-out_stop_beats : goal.shape_of-out_stop_beats
shape_of-out_stop_beats c = c.out_stop_beats-1.given

pub shape_of-out_stop_values : goal.shape_of-out_stop_values
shape_of-out_stop_values c = c.out_stop_values-1.given

pub shape_of-out_warp_beats : goal.shape_of-out_warp_beats
shape_of-out_warp_beats c = c.out_warp_beats-1.given

pub shape_of-out_warp_lengths : goal.shape_of-out_warp_lengths
shape_of-out_warp_lengths c = c.out_warp_lengths-1.given

pub shape_of-out_warp_marks : goal.shape_of-out_warp_marks
shape_of-out_warp_marks c = c.out_warp_marks-1.given

pub returns : goal.returns
returns c =
    let at = c in
    let s = start (goal.at.returns at).After-lower_of-number in
    let behind = c.process_with_warps-processed.result.warps - length s.args.warp_beats.now in
    as_read (read (goal.at.returns at).Else-number-ne-TAKEN) (mark_columns s.args.warp_marks.now s.args.out_warp_marks.now) behind (made_warps s.args.format (raw s)) (raw-taken (goal.at.returns at).Else-number-ne-TAKEN) (omega (arith, warps-are (goal.at.returns at).Else-number-ne-TAKEN)) c.lay_lists.ensures
