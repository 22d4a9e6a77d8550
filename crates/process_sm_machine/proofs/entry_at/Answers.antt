use Rattle.process_sm_machine.proofs.entry_at.Goals as goal

pub returns : goal.returns
returns c = rw c.quantize_beat_f32-on_row.ensures
