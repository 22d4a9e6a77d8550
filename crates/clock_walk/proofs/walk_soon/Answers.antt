-- `clock_walk::walk_soon` is `soon_of`. Assumes nothing.
use Rattle.std.proofs.Common.{true, false}
use Rattle.clock_walk.specs.Soon.{soon_of}
use Rattle.rows.proofs.BackFromBits.{back, test-is}
use Rattle.clock_walk.proofs.walk_soon.Goals as goal

pub returns-then-is_later : goal.returns-then-is_later
unfolding soon_of
returns-then-is_later c =
    let s = c in
    rw (← (rw (back s.args.asked s.ranges.asked) at c.is_later.ensures), c.if-is_later.true)

pub returns-then-asked-first : goal.returns-then-asked-first
unfolding soon_of
returns-then-asked-first c =
    let s = c in
    let first = c.row_at-first in
    rw (
      ← (rw (back s.args.asked s.ranges.asked) at c.is_later.ensures),
      c.if-is_later.false,
      test-is s.args.asked first.result _ true s.ranges.asked (record { sfits = first.type_inv }) c.if-asked-first.true first.ensures,
    )

pub returns-then-is_next_later : goal.returns-then-is_next_later
unfolding soon_of
returns-then-is_next_later c =
    let s = c in
    let first = c.row_at-first in
    let is = back s.args.asked s.ranges.asked in
    rw (
      ← (rw is at c.is_later.ensures),
      c.if-is_later.false,
      test-is s.args.asked first.result _ false s.ranges.asked (record { sfits = first.type_inv }) c.if-asked-first.false first.ensures,
      ← (rw is at c.is_next_later.ensures),
      c.if-is_next_later.true,
      c.pass_next_tempo-moved.ensures,
      back first.result (record { sfits = first.type_inv }),
      first.ensures,
    )

pub returns : goal.returns
unfolding soon_of
returns c =
    let s = c in
    let first = c.row_at-first in
    let is = back s.args.asked s.ranges.asked in
    rw (
      ← (rw is at c.is_later.ensures),
      c.if-is_later.false,
      test-is s.args.asked first.result _ false s.ranges.asked (record { sfits = first.type_inv }) c.if-asked-first.false first.ensures,
      ← (rw is at c.is_next_later.ensures),
      c.if-is_next_later.false,
    )
