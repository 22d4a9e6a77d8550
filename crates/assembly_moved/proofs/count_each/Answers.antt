-- `assembly_moved::count_each` counts the entries that stay and are off the grid, as far as both columns go. Assumes nothing.
use Rattle.std.proofs.Common.{◌≡◌, ℕ, ◌<◌, Bool, true, false, get_or, sym, refl, ap, ◌∙◌, arith}
use lib.Ieee.{nan}
use lib.ListN.{length-take}
use lib.Seq.{get_or-take}
use Rattle.picks.specs.Pick.{pick}
use Rattle.rows.specs.Rows.{on_grid}
use Rattle.limits.specs.Numbers.{miss}
use Rattle.limits.proofs.HowManyFail.{round-start, round-turn, round-end}
use Rattle.order.specs.Entries.{entries, first}
use Rattle.tidy_kept.proofs.ShortestColumn.{many-entries, entry_at}
use Rattle.columns_each.specs.OffGrid.{round_count}
use Rattle.columns_each.proofs.OffGridCounts.{goes_or_on, moved_by_entry}
use Rattle.assembly_moved.specs.MovedRaw.{stays_in}
use Rattle.assembly_moved.proofs.count_each.Goals as goal

-- an entry that goes passes
passes : (stays on : Bool) → pick stays (pick {A = ℕ} on 0 1) 0 ≡ pick (pick stays on true) 0 1
passes true on = refl
passes false on = refl

pub loop-i-preserved : goal.loop-i-preserved
loop-i-preserved c =
    let format = c.args.format in
    let beats = c.args.beats.now in
    let values = c.args.values.now in
    let n = c.room_of-n.result in
    let i = c.loop-i.i in
    let more : i < n = omega (arith, length-take n beats) in
    let room = c.room_of-n.ensures in
    let here = entry_at beats values i nan nan (omega arith) (omega arith) in
    round-turn (goes_or_on (stays_in format) first) c.one_moved.result (nan, nan) (omega (arith, many-entries beats values))
    (rw (get_or-take n beats i nan more) at c.one_moved.ensures ∙ passes (stays_in format (get_or beats i nan, get_or values i nan)) (on_grid (get_or beats i nan)) ∙ sym (ap (miss (goes_or_on (stays_in format) first)) here))
    c.wrapping_add_u32-moved.ensures.value c.loop-i.invariant

pub returns : goal.returns
returns c =
    let given = c.args in
    let list = entries given.beats.now given.values.now in
    let stays = stays_in given.format in
    round-end (goes_or_on stays first) (omega (arith, many-entries given.beats.now given.values.now, c.room_of-n.ensures, c.loop-i-test.false, length-take c.room_of-n.result given.beats.now)) c.loop-i.invariant
    ∙ ap round_count (moved_by_entry stays first list)

pub loop-i-init : goal.loop-i-init
loop-i-init c = round-start _ _
