use Rattle.process_sm_machine.specs.Machine.{warp_over}
use Rattle.process_sm_machine.proofs.warp_over.Goals as goal

pub returns-then-end-start : goal.returns-then-end-start
unfolding warp_over
returns-then-end-start c = rw (c.if-end-start.true, c.entry_at.ensures, c.quantize_beat_f32-length.ensures)

pub returns : goal.returns
unfolding warp_over
returns c = rw c.if-end-start.false
