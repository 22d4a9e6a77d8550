-- `notes_displayed::count_up_to` is what a search finds. Assumes nothing.
use Rattle.notes_displayed.specs.Scrolls.{found_up_to}
use Rattle.notes_displayed.proofs.count_up_to.Goals as goal

pub returns : goal.returns
unfolding found_up_to
returns c = rw (← c.f32_up_to.ensures) c.place_of.ensures
