-- `tidy_rows::lay_lasts_turned` lays the last entry of each row, turned round. Assumes nothing.
use Prim.Native.Nat.{◌+◌, ◌-◌}
use mathlib.Core.Path.{◌≡◌, ap, sym, ◌∙◌}
use native.Mathlib.Omega.{arith}
use lib.Ieee.{Float, nan}
use lib.ListN.{length, get_or}
use Rattle.order.specs.Order.{lasts}
use Rattle.order.specs.Entries.{entries}
use Rattle.order.proofs.Columns.{length-entries, entries-get_or}
use Rattle.columns.proofs.TurnedLaid.{lasts_turned_none, lasts_turned_few, lasts_turned_turn, lasts_turned_all}
use Rattle.tidy_rows.proofs.BothWays.{turned-beats, turned-values}
use Rattle.rows.proofs.Allowed.{allowed_at}
use Rattle.rows.specs.RowKey.{row_key_of, on_its_row}
use Rattle.tidy_rows.proofs.lay_lasts_turned.Goals as goal

pub loop-i-init : goal.loop-i-init
loop-i-init c =
    let start = c in
    lasts_turned_none row_key_of on_its_row (start.args.count - 1) (omega (arith, start.requires.fact)) (omega (arith, start.requires.fact))

pub allowed_on_row-requires : goal.allowed_on_row-requires
allowed_on_row-requires c =
    let at = c in
    let start = at in
    allowed_at start.args.beats.now at.loop-i.i start.requires.beats_value (omega arith)

pub repeats-requires : goal.repeats-requires
repeats-requires c =
    let at = c in
    let start = at in
    let beats = start.args.beats.now in
    let i = at.loop-i.i in
    (allowed_at beats i start.requires.beats_value (omega arith), allowed_at beats (i + 1) start.requires.beats_value (omega arith))

pub overflow_sub-place-in-loop-i-2 : goal.overflow_sub-place-in-loop-i-2
overflow_sub-place-in-loop-i-2 c =
    let at = c in
    let start = at in
    let beats = start.args.beats.now in
    let values = start.args.values.now in
    let same = start.requires.beats_nonzero.1 in
    let i = at.loop-i.i in
    lasts_turned_few row_key_of on_its_row at.loop-i.invariant (nan, nan) c.allowed_on_row.result (get_or values i nan)
    (ap (λ (beat : Float). (beat, get_or values i nan)) c.allowed_on_row.ensures ∙ ap on_its_row (sym (entries-get_or beats values i nan nan same)))
    (omega (arith, length-entries beats values same)) c.repeats.result (rw (entries-get_or beats values i nan nan same, entries-get_or beats values (i + 1) nan nan same) c.repeats.ensures)

pub loop-i-preserved : goal.loop-i-preserved
loop-i-preserved c =
    let at = c in
    let start = at in
    let beats = start.args.beats.now in
    let values = start.args.values.now in
    let same = start.requires.beats_nonzero.1 in
    let i = at.loop-i.i in
    (lasts_turned_turn row_key_of on_its_row at.loop-i.invariant (nan, nan) c.allowed_on_row.result (get_or values i nan)
    (ap (λ (beat : Float). (beat, get_or values i nan)) c.allowed_on_row.ensures ∙ ap on_its_row (sym (entries-get_or beats values i nan nan same)))
    (omega (arith, length-entries beats values same)) c.repeats.result (rw (entries-get_or beats values i nan nan same, entries-get_or beats values (i + 1) nan nan same) c.repeats.ensures))

pub allowed_on_row-requires-2 : goal.allowed_on_row-requires-2
allowed_on_row-requires-2 c =
    let at = c in
    let start = at in
    allowed_at start.args.beats.now (length start.args.beats.now - 1) start.requires.beats_value (omega arith)

pub returns : goal.returns
returns c =
    let at = c in
    let start = at in
    let beats = start.args.beats.now in
    let values = start.args.values.now in
    let same = start.requires.beats_nonzero.1 in
    let i = length beats - 1 in
    let behind : at.loop-i.i ≡ i = omega arith in
    let before = rw behind at at.loop-i.invariant in
    let laid =
    lasts_turned_all row_key_of on_its_row before (nan, nan) c.allowed_on_row-2.result (get_or values i nan)
    (ap (λ (beat : Float). (beat, get_or values i nan)) c.allowed_on_row-2.ensures ∙ ap on_its_row (sym (entries-get_or beats values i nan nan same)))
    (omega (arith, length-entries beats values same)) (omega (arith, length-entries beats values same)) in
    let kept = lasts row_key_of (entries beats values) in
    record { first_is = laid.0 ∙ rw (turned-beats kept); second_is = laid.1 ∙ rw (turned-values kept) }
