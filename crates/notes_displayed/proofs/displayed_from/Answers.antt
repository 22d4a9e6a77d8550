-- `notes_displayed::displayed_from` is `displayed_from`. Assumes nothing.
use Rattle.notes_displayed.specs.Scrolls.{displayed_from}
use Rattle.notes_displayed.proofs.displayed_from.Goals as goal

pub returns : goal.returns
unfolding displayed_from
returns c = c.mul_add_f64.ensures
