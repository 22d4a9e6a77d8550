-- `tidy_rows::lay_lasts` lays the last entry of each row. Assumes nothing.
use Prim.Native.Nat.{◌+◌, ◌-◌, ◌<◌}
use mathlib.Core.Path.{◌≡◌, ap, sym, ◌∙◌}
use native.Mathlib.Omega.{arith}
use lib.Ieee.{Float, nan}
use lib.ListN.{length, get_or}
use Rattle.order.proofs.Columns.{length-entries, entries-get_or}
use Rattle.columns.proofs.LastsLaid.{lasts-room, lasts-turn, lasts-all}
use Rattle.rows.proofs.Allowed.{allowed_at}
use Rattle.rows.specs.RowKey.{row_key_of, on_its_row}
use Rattle.tidy_rows.proofs.lay_lasts.Goals as goal
use Rattle.tidy_rows.proofs.lay_lasts.Goals.{At-loop-i}

room : (c : At-loop-i) → (c.loop-i.count < length c.loop-i.out_beats) × (c.loop-i.count < length c.loop-i.out_values)
room c =
    let start = c in
    let same = start.requires.beats_nonzero.1 in
    lasts-room row_key_of on_its_row c.loop-i.invariant start.requires.values_len_bound (omega (arith, length-entries start.args.beats.now start.args.values.now same))

pub allowed_on_row-requires : goal.allowed_on_row-requires
allowed_on_row-requires c =
    let at = c in
    let start = at in
    allowed_at start.args.beats.now at.loop-i.i start.requires.beats_value (omega arith)

pub bounds-out_beats-count : goal.bounds-out_beats-count
bounds-out_beats-count c = (room (goal.at.bounds-out_beats-count c).At-loop-i).0

pub bounds-out_values-count : goal.bounds-out_values-count
bounds-out_values-count c = (room (goal.at.bounds-out_values-count c).At-loop-i).1

pub repeats-requires : goal.repeats-requires
repeats-requires c =
    let at = c in
    let start = at in
    let beats = start.args.beats.now in
    let i = at.loop-i.i in
    (allowed_at beats i start.requires.beats_value (omega arith), allowed_at beats (i + 1) start.requires.beats_value (omega arith))

pub loop-i-preserved : goal.loop-i-preserved
loop-i-preserved c =
    let at = c in
    let start = at in
    let beats = start.args.beats.now in
    let values = start.args.values.now in
    let same = start.requires.beats_nonzero.1 in
    let i = at.loop-i.i in
    (lasts-turn row_key_of on_its_row at.loop-i.invariant start.requires.values_len_bound (nan, nan) c.allowed_on_row.result (get_or values i nan)
    (ap (λ (beat : Float). (beat, get_or values i nan)) c.allowed_on_row.ensures ∙ ap on_its_row (sym (entries-get_or beats values i nan nan same)))
    (omega (arith, length-entries beats values same)) c.repeats.result (rw (entries-get_or beats values i nan nan same, entries-get_or beats values (i + 1) nan nan same) c.repeats.ensures))

pub allowed_on_row-requires-2 : goal.allowed_on_row-requires-2
allowed_on_row-requires-2 c =
    let at = c in
    let start = at in
    allowed_at start.args.beats.now (length start.args.beats.now - 1) start.requires.beats_value (omega arith)

pub bounds-out_beats-count-2 : goal.bounds-out_beats-count-2
bounds-out_beats-count-2 c = (room (goal.at.bounds-out_beats-count-2 c).At-loop-i).0

pub bounds-out_values-count-2 : goal.bounds-out_values-count-2
bounds-out_values-count-2 c = (room (goal.at.bounds-out_values-count-2 c).At-loop-i).1

pub returns : goal.returns
returns c =
    let at = c in
    let start = at in
    let beats = start.args.beats.now in
    let values = start.args.values.now in
    let same = start.requires.beats_nonzero.1 in
    let i = length beats - 1 in
    let behind : at.loop-i.i ≡ i = omega arith in
    let before = rw behind at at.loop-i.invariant in
    let laid =
    lasts-all row_key_of on_its_row before start.requires.values_len_bound (nan, nan) c.allowed_on_row-2.result (get_or values i nan)
    (ap (λ (beat : Float). (beat, get_or values i nan)) c.allowed_on_row-2.ensures ∙ ap on_its_row (sym (entries-get_or beats values i nan nan same)))
    (omega (arith, length-entries beats values same)) (omega (arith, length-entries beats values same)) in
    record { first_is = laid.0; second_is = laid.1 }
