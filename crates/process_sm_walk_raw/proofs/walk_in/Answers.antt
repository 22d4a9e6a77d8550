-- `process_sm_walk_raw::walk_in` makes changes of both lists, which the walk takes where both are taken. Assumes nothing.
use mathlib.Core.Path.{◌≡◌, sym, ◌∙◌}
use mathlib.Core.List.{map}
use native.Mathlib.Omega.{arith}
use lib.Seq.{length-take-le}
use lib.Ieee.{of_bits}
use Rattle.order.specs.Entries.{first, second}
use Rattle.order.proofs.Columns.{entries-columns}
use Rattle.process_raw.specs.RawLists.{raw_number, raw_numbers}
use Rattle.process_raw.proofs.BothTaken.{BothTaken, both-taken}
use Rattle.process_sm_changes.specs.SmChanges.{sm_changes}
use Rattle.process_sm_walk.specs.Columns.{columns}
use Rattle.process_sm_walk.proofs.Outcomes.{refused-laid}
use Rattle.process_sm_laws.proofs.ChangesTaken.{few-changes}
use Rattle.process_sm_walk_raw.proofs.Fronts.{number-given, Front, first-front, second-front}
use Rattle.process_sm_walk_raw.proofs.Numbers.{number-refused, number-walked}
use borrow.Author.Rules.{rules}
use Rattle.process_sm_walk_raw.proofs.walk_in.Goals as goal
use Rattle.process_sm_walk_raw.proofs.walk_in.Goals.{After-lower_of-number, Else-number-ne-TAKEN}

-- each list is refused by its own tests alone
tempo-number : (c : After-lower_of-number) → c.sm_changes-tempos.result.number ≡ raw_number c.args.tempo_beats.now c.args.tempo_values.now
tempo-number c = c.sm_changes-tempos.ensures.number ∙ number-given _ _ _ c.requires.tempo_changes

stop-number : (c : After-lower_of-number) → c.sm_changes-stops.result.number ≡ raw_number c.args.stop_beats.now c.args.stop_values.now
stop-number c = c.sm_changes-stops.ensures.number ∙ number-given _ _ _ c.requires.stop_changes

number : (c : After-lower_of-number) → c.lower_of-number.result ≡ raw_numbers c.args.tempo_beats.now c.args.tempo_values.now c.args.stop_beats.now c.args.stop_values.now
number c = rw (← tempo-number c, ← stop-number c) c.lower_of-number.ensures

passed : (c : Else-number-ne-TAKEN) → raw_numbers c.args.tempo_beats.now c.args.tempo_values.now c.args.stop_beats.now c.args.stop_values.now ≡ 0
passed c = sym (number (goal.at.Else-number-ne-TAKEN c).After-lower_of-number) ∙ c.if-number-ne-TAKEN.false

both : (c : Else-number-ne-TAKEN) → BothTaken c.args.tempo_beats.now c.args.tempo_values.now c.args.stop_beats.now c.args.stop_values.now
both c = both-taken (passed c)

-- the changes, in the fronts of their columns
tempo-beats : (c : Else-number-ne-TAKEN) → Front c.sm_changes-tempos.result.count c.sm_changes-tempos.new.out_beats (map first (sm_changes c.args.tempo_beats.now c.args.tempo_values.now))
tempo-beats c = first-front c.sm_changes-tempos.ensures.changes (tempo-number (goal.at.Else-number-ne-TAKEN c).After-lower_of-number ∙ (both c).tempos) (omega (arith, few-changes c.args.tempo_beats.now c.args.tempo_values.now (both c).tempos, c.requires.tempo_changes (both c).tempos))

tempo-values : (c : Else-number-ne-TAKEN) → Front c.sm_changes-tempos.result.count c.sm_changes-tempos.new.out_values (map second (sm_changes c.args.tempo_beats.now c.args.tempo_values.now))
tempo-values c = second-front c.sm_changes-tempos.ensures.changes (tempo-number (goal.at.Else-number-ne-TAKEN c).After-lower_of-number ∙ (both c).tempos) (omega (arith, few-changes c.args.tempo_beats.now c.args.tempo_values.now (both c).tempos, c.requires.tempo_changes (both c).tempos))

stop-beats : (c : Else-number-ne-TAKEN) → Front c.sm_changes-stops.result.count c.sm_changes-stops.new.out_beats (map first (sm_changes c.args.stop_beats.now c.args.stop_values.now))
stop-beats c = first-front c.sm_changes-stops.ensures.changes (stop-number (goal.at.Else-number-ne-TAKEN c).After-lower_of-number ∙ (both c).stops) (omega (arith, few-changes c.args.stop_beats.now c.args.stop_values.now (both c).stops, c.requires.stop_changes (both c).stops))

stop-values : (c : Else-number-ne-TAKEN) → Front c.sm_changes-stops.result.count c.sm_changes-stops.new.out_values (map second (sm_changes c.args.stop_beats.now c.args.stop_values.now))
stop-values c = second-front c.sm_changes-stops.ensures.changes (stop-number (goal.at.Else-number-ne-TAKEN c).After-lower_of-number ∙ (both c).stops) (omega (arith, few-changes c.args.stop_beats.now c.args.stop_values.now (both c).stops, c.requires.stop_changes (both c).stops))

pub returns-then-number-ne-TAKEN : goal.returns-then-number-ne-TAKEN
unfolding of_bits
returns-then-number-ne-TAKEN c = rw (number-refused c.args.tempo_beats.now c.args.tempo_values.now c.args.stop_beats.now c.args.stop_values.now (columns c.args.walked_tempo_beats.now c.args.walked_tempo_values.now c.args.walked_stop_beats.now c.args.walked_stop_values.now c.args.walked_warp_beats.now c.args.walked_warp_lengths.now) (λ e. c.if-number-ne-TAKEN.true (number (goal.at.returns-then-number-ne-TAKEN c).After-lower_of-number ∙ e)), number (goal.at.returns-then-number-ne-TAKEN c).After-lower_of-number) (refused-laid (sm_changes c.args.tempo_beats.now c.args.tempo_values.now) (sm_changes c.args.stop_beats.now c.args.stop_values.now) (raw_numbers c.args.tempo_beats.now c.args.tempo_values.now c.args.stop_beats.now c.args.stop_values.now) (columns c.args.walked_tempo_beats.now c.args.walked_tempo_values.now c.args.walked_stop_beats.now c.args.walked_stop_values.now c.args.walked_warp_beats.now c.args.walked_warp_lengths.now) (λ e. c.if-number-ne-TAKEN.true (number (goal.at.returns-then-number-ne-TAKEN c).After-lower_of-number ∙ e)))

pub slice_bounds-walk_changes-end : goal.slice_bounds-walk_changes-end
slice_bounds-walk_changes-end c = (tempo-beats (c)).inside

pub slice_bounds-walk_changes-end-2 : goal.slice_bounds-walk_changes-end-2
slice_bounds-walk_changes-end-2 c = sym (length-take-le _ _ (tempo-beats c).inside)

pub slice_bounds-walk_changes-end-3 : goal.slice_bounds-walk_changes-end-3
slice_bounds-walk_changes-end-3 c = (tempo-values c).inside

pub slice_bounds-walk_changes-end-4 : goal.slice_bounds-walk_changes-end-4
slice_bounds-walk_changes-end-4 c = sym (length-take-le _ _ (tempo-values c).inside)

pub slice_bounds-walk_changes-end-5 : goal.slice_bounds-walk_changes-end-5
slice_bounds-walk_changes-end-5 c = (stop-beats c).inside

pub slice_bounds-walk_changes-end-6 : goal.slice_bounds-walk_changes-end-6
slice_bounds-walk_changes-end-6 c = sym (length-take-le _ _ (stop-beats c).inside)

pub slice_bounds-walk_changes-end-7 : goal.slice_bounds-walk_changes-end-7
slice_bounds-walk_changes-end-7 c = (stop-values c).inside

pub slice_bounds-walk_changes-end-8 : goal.slice_bounds-walk_changes-end-8
slice_bounds-walk_changes-end-8 c = sym (length-take-le _ _ (stop-values c).inside)

pub shape_of-change_tempo_beats : goal.shape_of-change_tempo_beats
shape_of-change_tempo_beats c = c.change_tempo_beats-1.given

pub shape_of-change_tempo_values : goal.shape_of-change_tempo_values
shape_of-change_tempo_values c = c.change_tempo_values-1.given

pub returns : goal.returns
returns c =
    let T = (sm_changes c.args.tempo_beats.now c.args.tempo_values.now) in
    let U = (sm_changes c.args.stop_beats.now c.args.stop_values.now) in
    rw ((tempo-beats (goal.at.returns c).Else-number-ne-TAKEN).read, (tempo-values (goal.at.returns c).Else-number-ne-TAKEN).read, (stop-beats (goal.at.returns c).Else-number-ne-TAKEN).read, (stop-values (goal.at.returns c).Else-number-ne-TAKEN).read, entries-columns T, entries-columns U, number-walked c.args.tempo_beats.now c.args.tempo_values.now c.args.stop_beats.now c.args.stop_values.now (columns c.args.walked_tempo_beats.now c.args.walked_tempo_values.now c.args.walked_stop_beats.now c.args.walked_stop_values.now c.args.walked_warp_beats.now c.args.walked_warp_lengths.now) (passed (goal.at.returns c).Else-number-ne-TAKEN)) at
    c.walk_changes.ensures
