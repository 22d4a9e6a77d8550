-- `notes_displayed::scrolled_on` is `scrolled_on`. Assumes nothing.
use Rattle.std.proofs.Common.{refl}
use Rattle.notes_displayed.specs.Scrolls.{scrolled_on}
use Rattle.notes_displayed.proofs.scrolled_on.Goals as goal

pub returns : goal.returns
unfolding scrolled_on
returns c = refl
