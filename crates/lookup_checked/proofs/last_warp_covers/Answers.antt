-- `lookup_checked::last_warp_covers` tests the last warp before a place. Assumes nothing.
use Rattle.lookup.specs.Lookups.{warp_covers}
use Rattle.lookup_checked.proofs.LastCounted.{none_before, one-before}
use borrow.Author.Rules.{rules}
use Rattle.lookup_checked.proofs.last_warp_covers.Goals as goal

pub returns-then-place-eq0 : goal.returns-then-place-eq0
returns-then-place-eq0 c =
    let start = c in
    none_before (warp_covers start.args.at) start.args.place start.args.warp_beats.now start.args.warp_lengths.now c.if-place-eq0.true

pub returns : goal.returns
returns c =
    let value = c in
    let some = value in
    let start = some in
    rw (c.warp_covers.ensures, value.number_at.ensures) (one-before (warp_covers start.args.at) start.args.place start.args.warp_beats.now start.args.warp_lengths.now some.if-place-eq0.false)
