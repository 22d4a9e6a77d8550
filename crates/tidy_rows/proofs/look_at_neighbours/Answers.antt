-- `tidy_rows::look_at_neighbours` counts falls, repeats and rises over each two neighbours. Assumes nothing.
use Prim.Native.Nat.{◌+◌, ◌≤◌, ◌<◌}
use native.Mathlib.Omega.{arith}
use lib.Dec.{T}
use lib.Ieee.{nan}
use lib.ListN.{length, get_or}
use Rattle.rows.specs.Rows.{allowed_beat}
use Rattle.order.proofs.LastEntries.{repeats_turn, repeats_all}
use Rattle.order.proofs.FallsCounted.{falls-turn, falls-all}
use Rattle.order.proofs.RisesCounted.{unrisen_turn, unrisen_all}
use Rattle.rows.proofs.Allowed.{allowed_at}
use Rattle.rows.specs.RowKey.{row_key_at}
use Rattle.tidy_rows.proofs.look_at_neighbours.Goals as goal
use Rattle.tidy_rows.proofs.look_at_neighbours.Goals.{In-loop-i}

both : (c : In-loop-i)
    → T (allowed_beat (get_or c.args.beats.now c.loop-i.i nan)) × T (allowed_beat (get_or c.args.beats.now (c.loop-i.i + 1) nan))
both c =
    let start = c in
    let beats = start.args.beats.now in
    let i = c.loop-i.i in
    (allowed_at beats i start.requires (omega arith), allowed_at beats (i + 1) start.requires (omega arith))

pub falls-fallen-requires : goal.falls-fallen-requires
falls-fallen-requires c = both (goal.at.falls-fallen-requires c).In-loop-i

pub repeats-repeated-requires : goal.repeats-repeated-requires
repeats-repeated-requires c = both (goal.at.repeats-repeated-requires c).In-loop-i

pub loop-i-preserved : goal.loop-i-preserved
loop-i-preserved c =
    let at = c in
    let more : c.loop-i.i + 1 < length c.args.beats.now = omega arith in
    let fall = c.falls-fallen.ensures in
    let same = c.repeats-repeated.ensures in
    let inv = at.loop-i.invariant in (
      falls-turn row_key_at nan more fall inv.0,
      repeats_turn row_key_at nan more same inv.1,
      unrisen_turn row_key_at nan at.loop-i.fallen at.loop-i.repeated more fall same inv.2,
    )

pub returns : goal.returns
returns c =
    let inv = c.loop-i.invariant in
    let past : length c.args.beats.now ≤ c.loop-i.i + 1 = omega arith in
    record {
      in_order = falls-all row_key_at past inv.0;
      turned = λ z. unrisen_all row_key_at past inv.2 (omega (arith, z, inv.2.few));
      kept = repeats_all row_key_at (omega arith) past inv.1;
    }
