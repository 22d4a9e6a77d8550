-- What `then_some` gives is what a pick gives. Assumes nothing.
use Rattle.std.proofs.Common.{◌≡◌, Bool, true, false, Some, None, refl}
use Rattle.std.specs.Bool.{then_some}
use Rattle.picks.specs.Pick.{pick}

pub picked_or_none : {A : Type 0} (b : Bool) (x : A) → then_some b x ≡ pick b (Some x) None
picked_or_none true x = refl
picked_or_none false x = refl
