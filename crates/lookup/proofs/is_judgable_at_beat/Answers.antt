-- `lookup::is_judgable_at_beat` answers what the definition gives, or the number that refuses. Assumes nothing.
use Rattle.std.proofs.Common.{w32}
use mir.ValLaws.{to_z-of_z}
use Rattle.lookup.proofs.is_judgable_at_beat.Goals as goal

pub returns : goal.returns
returns c = rw (c.look_up_judgable.ensures, c.taken.ensures, to_z-of_z w32 c.asked_row.result (record { sfits = c.asked_row.type_inv }), c.asked_row.ensures)
