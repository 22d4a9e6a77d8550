-- `clock_bench::or_end` meets its contract. Assumes nothing.
use Rattle.std.proofs.Common.{ap, ◌∙◌}
use Rattle.rows.proofs.BackFromBits.{back}
use Rattle.clock_bench.specs.EventList.{warp_ends, lower_head, or_end}
use Rattle.clock_bench.proofs.or_end.Goals as goal

pub returns-then-warping : goal.returns-then-warping
unfolding or_end
returns-then-warping c =
    rw c.if-warping.true
    (c.lower_head.ensures ∙ ap (λ at. lower_head c.args.best at warp_ends) (back c.beat_to_note_row-row.result (record { sfits = c.beat_to_note_row-row.type_inv }) ∙ c.beat_to_note_row-row.ensures))

pub returns : goal.returns
unfolding or_end
returns c = rw c.if-warping.false
