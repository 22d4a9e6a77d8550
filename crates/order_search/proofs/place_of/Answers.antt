-- `order_search::place_of` takes the quarters that pass, until sixteen or less are left to count. Assumes nothing.
use Rattle.std.proofs.Common.{ℕ, ◌+◌, ◌*◌, ◌/◌, ◌≤◌, length, arith}
use Rattle.order_search.specs.Search.{place_of}
use Rattle.order_search.proofs.HowMany.{how_many_most}
use Rattle.order_search.proofs.Quartered.{gained-most, quartering_all, quartering_on, quartering_ends}
use Rattle.order_search.proofs.place_of.Goals as goal
use Rattle.order_search.proofs.place_of.Invariants.{passes}

pub loop-size-init : goal.loop-size-init
loop-size-init c = quartering_all (passes c.args.column.now c.args.at) (length c.args.column.now)

pub quarters_passed-requires : goal.quarters_passed-requires
quarters_passed-requires c = let inside = c.loop-size.invariant.within in (omega arith, omega arith)

pub overflow_mul-base : goal.overflow_mul-base
overflow_mul-base c =
    let turn = c in
    let start = turn in
    let size = turn.loop-size.size in
    let more : size / 4 * c.quarters_passed.result ≤ size / 4 * 3 = rw c.quarters_passed.ensures (gained-most (passes start.args.column.now start.args.at) turn.loop-size.base size) in
    let inside = turn.loop-size.invariant.within in
    record { fits = omega arith }

pub overflow_add-base : goal.overflow_add-base
overflow_add-base c =
    let turn = c in
    let start = turn in
    let size = turn.loop-size.size in
    let more : size / 4 * c.quarters_passed.result ≤ size / 4 * 3 = rw c.quarters_passed.ensures (gained-most (passes start.args.column.now start.args.at) turn.loop-size.base size) in
    let inside = turn.loop-size.invariant.within in
    record { fits = omega arith }

pub loop-size-preserved : goal.loop-size-preserved
loop-size-preserved c =
    let turn = c in
    let start = turn in
    rw c.quarters_passed.ensures (quartering_on (passes start.args.column.now start.args.at) (length start.args.column.now) turn.loop-size.base turn.loop-size.size turn.loop-size.invariant (omega arith))

pub entries_passed-requires : goal.entries_passed-requires
entries_passed-requires c = (c.loop-size.invariant.within, omega arith)

pub overflow_add-result : goal.overflow_add-result
overflow_add-result c =
    let turn = c in
    let start = turn in
    let inside = turn.loop-size.invariant.within in
    record { fits = omega (arith, c.entries_passed.ensures, how_many_most (λ (i : ℕ). passes start.args.column.now start.args.at (turn.loop-size.base + i)) turn.loop-size.size) }

pub returns : goal.returns
unfolding place_of
returns c =
    let turn = c in
    let start = turn in
    rw c.entries_passed.ensures (quartering_ends (passes start.args.column.now start.args.at) (length start.args.column.now) turn.loop-size.base turn.loop-size.size turn.loop-size.invariant (omega arith))
