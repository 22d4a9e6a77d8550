-- `notes_displayed::number_at_f32` is the number at a place, or a NaN. Assumes nothing.
use Rattle.std.proofs.Common.{sym}
use lib.ListN.{get_or-eq_default}
use lib.Ieee.{nan, div, of_bits}
use Rattle.notes_displayed.proofs.number_at_f32.Goals as goal

pub returns : goal.returns
unfolding div of_bits
returns c = sym (get_or-eq_default c.args.column.now nan c.if-place-column.false)
