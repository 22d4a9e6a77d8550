-- `clock_walk::find_ahead` is `ahead_of`. Assumes nothing.
use Rattle.std.proofs.Common.{◌≡◌, ◌∙◌, ap}
use Rattle.std.specs.Bool.{then_some}
use lib.Signed.{lt_z}
use Rattle.clock_walk.specs.Events.{farthest}
use Rattle.clock_walk.specs.Heads.{found_at, ahead_of}
use Rattle.rows.proofs.BackFromBits.{back}
use Rattle.clock_walk.proofs.PickedOrNone.{picked_or_none}
use Rattle.clock_walk.proofs.find_ahead.Goals as goal

pub returns : goal.returns
unfolding ahead_of
returns c =
    let least = c.least_head-next in
    let near : c.then_some.result ≡ then_some (lt_z least.result.row farthest) least.result = rw (back least.result.row (record { sfits = c.struct_told-1.given.0.1 })) at c.then_some.ensures in
    near ∙ picked_or_none _ _ ∙ ap found_at least.ensures
