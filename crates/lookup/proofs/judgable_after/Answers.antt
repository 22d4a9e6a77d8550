-- `lookup::judgable_after` tells whether a row is neither. Assumes nothing.
use Rattle.lookup.specs.Lookups.{is_judgable}
use Rattle.picks.proofs.Rules.{flags}
use mir.ValLaws.{to_z-of_z}
use Rattle.std.proofs.Common.{w32}
use Rattle.lookup.proofs.judgable_after.Goals as goal

pub warped_after-requires : goal.warped_after-requires
warped_after-requires c =
    let start = c in
    rw (to_z-of_z w32 start.args.row start.ranges.row) (start.requires.fact.stops, start.requires.fact.delays, start.requires.fact.warps, start.requires.split.0)

pub returns-then-warped_after : goal.returns-then-warped_after
unfolding is_judgable
returns-then-warped_after c =
    let start = c in
    let warped = rw (to_z-of_z w32 start.args.row start.ranges.row) at c.warped_after.ensures in
    rw (← warped) (search flags depth 8)

pub fake_after-requires : goal.fake_after-requires
fake_after-requires c =
    let start = c in
    rw (to_z-of_z w32 start.args.row start.ranges.row) (start.requires.fact.fakes, start.requires.split.1)

pub returns : goal.returns
unfolding is_judgable
returns c =
    let start = c in
    let warped = rw (to_z-of_z w32 start.args.row start.ranges.row) at c.warped_after.ensures in
    let fake = rw (to_z-of_z w32 start.args.row start.ranges.row) at c.fake_after.ensures in
    rw (← fake, ← warped) (search flags depth 8)
