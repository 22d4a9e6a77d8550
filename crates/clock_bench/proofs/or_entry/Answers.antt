-- `clock_bench::or_entry` meets its contract. Assumes nothing.
use Rattle.std.proofs.Common.{ap, ◌∙◌, le-ltb, lt-ltb}
use lib.Ieee.{binary64}
use Rattle.rows.specs.Rows.{row}
use Rattle.rows.proofs.BackFromBits.{back}
use Rattle.clock_bench.specs.EventList.{lower_head, or_entry}
use Rattle.clock_bench.proofs.or_entry.Goals as goal

pub returns-then-place-beats : goal.returns-then-place-beats
unfolding or_entry
returns-then-place-beats c =
    let a = c.args in
    rw (lt-ltb _ _ c.if-place-beats.true)
    (c.lower_head.ensures ∙ ap (λ at. lower_head a.best at a.kind) (back c.beat_to_note_row-row.result (record { sfits = c.beat_to_note_row-row.type_inv }) ∙ c.beat_to_note_row-row.ensures ∙ ap (row binary64) c.f32_to_f64_with_nan.ensures))

pub returns : goal.returns
unfolding or_entry
returns c = rw (le-ltb _ _ c.if-place-beats.false)
